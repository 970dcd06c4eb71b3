-- Options and their values, as words.
use Rattle.std.specs.Prelude.{ℕ, ◌<◌, ◌≤◌, ◌^◌, Bool, true, false, List, [], ◌∷◌, codes, IsTrue}
use Rattle.std.specs.Fmt.{decimal}
use Rattle.rg_base.specs.declared.control.Maxro.{Maxro}
use Rattle.rg_base.specs.declared.control.Maxro.TheVariants.{Within, Defer}
use Rattle.rg_base.specs.declared.control.Longlog.{Longlog}
use Rattle.rg_base.specs.declared.control.Longlog.TheVariants as longlogs
use Rattle.rg_base.specs.declared.control.Deadline.{Deadline}
use Rattle.rg_base.specs.declared.control.Deadline.TheVariants.{Never, At}
use Rattle.rg_base.specs.declared.options.DrainFor.{DrainFor}
use Rattle.rg_base.specs.declared.options.DrainFor.TheVariants.{Writers, All}
use Rattle.rg_opts.specs.declared.keyword.Keyword.{Keyword}
use Rattle.rg_opts.specs.declared.keyword.Keyword.TheVariants as names
use Rattle.rg_opts.specs.declared.setting.Setting.{Setting}
use Rattle.rg_opts.specs.declared.setting.Setting.TheVariants as sets

-- the name of an option, as it is written
abbrev pub keyword_word : Keyword → List ℕ
keyword_word names.Maxro = codes "MAXRO"
keyword_word names.Longlog = codes "LONGLOG"
keyword_word names.Delay = codes "DELAY"
keyword_word names.Deadline = codes "DEADLINE"
keyword_word names.Drain = codes "DRAIN"
keyword_word names.DrainWait = codes "DRAIN_WAIT"
keyword_word names.Retry = codes "RETRY"
keyword_word names.RetryDelay = codes "RETRY_DELAY"
keyword_word names.Pctfree = codes "PCTFREE"
keyword_word names.Freepage = codes "FREEPAGE"

-- the options that an operator may change while the utility runs
abbrev pub is_alterable : Keyword → Bool
is_alterable names.Maxro = true
is_alterable names.Longlog = true
is_alterable names.Delay = true
is_alterable names.Deadline = true
is_alterable names.Drain = false
is_alterable names.DrainWait = false
is_alterable names.Retry = false
is_alterable names.RetryDelay = false
is_alterable names.Pctfree = false
is_alterable names.Freepage = false

abbrev pub IsAlterable : Keyword → Type 0
IsAlterable keyword = IsTrue (is_alterable keyword)

abbrev pub maxro_word : Maxro → List ℕ
maxro_word (Within seconds) = decimal seconds
maxro_word Defer = codes "DEFER"

abbrev pub IsMaxro : Maxro → Type 0
IsMaxro (Within seconds) = seconds < 2 ^ 32
IsMaxro Defer = Unit {0}

abbrev pub longlog_word : Longlog → List ℕ
longlog_word longlogs.Continue = codes "CONTINUE"
longlog_word longlogs.Term = codes "TERM"
longlog_word longlogs.Drain = codes "DRAIN"

abbrev pub deadline_word : Deadline → List ℕ
deadline_word (At moment) = decimal moment
deadline_word Never = codes "NONE"

abbrev pub IsDeadline : Deadline → Type 0
IsDeadline (At moment) = moment < 2 ^ 32
IsDeadline Never = Unit {0}

abbrev pub drain_word : DrainFor → List ℕ
drain_word Writers = codes "WRITERS"
drain_word All = codes "ALL"

-- which option is set
abbrev pub keyword_of : Setting → Keyword
keyword_of (sets.Maxro maxro) = names.Maxro
keyword_of (sets.Longlog longlog) = names.Longlog
keyword_of (sets.Delay seconds) = names.Delay
keyword_of (sets.Deadline deadline) = names.Deadline
keyword_of (sets.Drain drain) = names.Drain
keyword_of (sets.DrainWait seconds) = names.DrainWait
keyword_of (sets.Retry times) = names.Retry
keyword_of (sets.RetryDelay seconds) = names.RetryDelay
keyword_of (sets.Pctfree hundredths) = names.Pctfree
keyword_of (sets.Freepage pages) = names.Freepage

-- its value, as it is written
abbrev pub value_word : Setting → List ℕ
value_word (sets.Maxro maxro) = maxro_word maxro
value_word (sets.Longlog longlog) = longlog_word longlog
value_word (sets.Delay seconds) = decimal seconds
value_word (sets.Deadline deadline) = deadline_word deadline
value_word (sets.Drain drain) = drain_word drain
value_word (sets.DrainWait seconds) = decimal seconds
value_word (sets.Retry times) = decimal times
value_word (sets.RetryDelay seconds) = decimal seconds
value_word (sets.Pctfree hundredths) = decimal hundredths
value_word (sets.Freepage pages) = decimal pages

-- the values that an option takes
abbrev pub IsSetting : Setting → Type 0
IsSetting (sets.Maxro maxro) = IsMaxro maxro
IsSetting (sets.Longlog longlog) = Unit {0}
IsSetting (sets.Delay seconds) = seconds < 2 ^ 32
IsSetting (sets.Deadline deadline) = IsDeadline deadline
IsSetting (sets.Drain drain) = Unit {0}
IsSetting (sets.DrainWait seconds) = seconds < 2 ^ 32
IsSetting (sets.Retry times) = times ≤ 255
IsSetting (sets.RetryDelay seconds) = seconds < 2 ^ 32
IsSetting (sets.Pctfree hundredths) = hundredths ≤ 99
IsSetting (sets.Freepage pages) = pages ≤ 255

-- an option is its name and its value
abbrev pub setting_words : Setting → List (List ℕ)
setting_words setting = keyword_word (keyword_of setting) ∷ value_word setting ∷ []
