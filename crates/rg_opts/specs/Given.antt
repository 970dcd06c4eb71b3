-- What settings give, each option at most once.
use Rattle.std.specs.Prelude.{◌≢◌, Bool, List, [], ◌∷◌, Some, None, is_some, unwrap_or, fold}
use Rattle.std.specs.List.{AllByRecursion}
use Rattle.rg_base.specs.declared.control.Maxro.TheVariants.{Within}
use Rattle.rg_base.specs.declared.control.Longlog.TheVariants.{Continue}
use Rattle.rg_base.specs.declared.control.Deadline.TheVariants.{Never}
use Rattle.rg_base.specs.declared.control.Alteration.{Alteration}
use Rattle.rg_base.specs.declared.options.DrainFor.TheVariants.{Writers}
use Rattle.rg_base.specs.declared.options.Options.{Options}
use Rattle.rg_opts.specs.declared.keyword.Keyword.{Keyword}
use Rattle.rg_opts.specs.declared.keyword.Keyword.TheVariants as names
use Rattle.rg_opts.specs.declared.setting.Setting.{Setting}
use Rattle.rg_opts.specs.declared.setting.Setting.TheVariants as sets
use Rattle.rg_opts.specs.declared.settings.Settings.{Settings}
use Rattle.rg_opts.specs.Spelling.{keyword_of}

-- no option stands twice
abbrev pub IsOnce : List Setting → Type 0
IsOnce [] = Unit {0}
IsOnce (setting ∷ settings) =
    AllByRecursion (λ other. keyword_of other ≢ keyword_of setting) settings × IsOnce settings

abbrev pub none_set : Settings
none_set = record {
  maxro = None;
  longlog = None;
  delay = None;
  deadline = None;
  drain = None;
  wait = None;
  retry = None;
  pause = None;
  pctfree = None;
  freepage = None;
}

-- with this option set
abbrev pub with_setting : Settings → Setting → Settings
with_setting settings (sets.Maxro maxro) = record settings { maxro = Some maxro }
with_setting settings (sets.Longlog longlog) = record settings { longlog = Some longlog }
with_setting settings (sets.Delay seconds) = record settings { delay = Some seconds }
with_setting settings (sets.Deadline deadline) = record settings { deadline = Some deadline }
with_setting settings (sets.Drain drain) = record settings { drain = Some drain }
with_setting settings (sets.DrainWait seconds) = record settings { wait = Some seconds }
with_setting settings (sets.Retry times) = record settings { retry = Some times }
with_setting settings (sets.RetryDelay seconds) = record settings { pause = Some seconds }
with_setting settings (sets.Pctfree hundredths) = record settings { pctfree = Some hundredths }
with_setting settings (sets.Freepage pages) = record settings { freepage = Some pages }

-- what is set, one option after another
abbrev pub settings_of : List Setting → Settings
settings_of settings = fold with_setting none_set settings

-- whether an option is set
abbrev pub is_set : Settings → Keyword → Bool
is_set settings names.Maxro = is_some settings.maxro
is_set settings names.Longlog = is_some settings.longlog
is_set settings names.Delay = is_some settings.delay
is_set settings names.Deadline = is_some settings.deadline
is_set settings names.Drain = is_some settings.drain
is_set settings names.DrainWait = is_some settings.wait
is_set settings names.Retry = is_some settings.retry
is_set settings names.RetryDelay = is_some settings.pause
is_set settings names.Pctfree = is_some settings.pctfree
is_set settings names.Freepage = is_some settings.freepage

-- the options of a control statement: what is set, and else the defaults
abbrev pub with_defaults : Settings → Options
with_defaults settings = record {
  maxro = unwrap_or settings.maxro (Within 300);
  longlog = unwrap_or settings.longlog Continue;
  delay = unwrap_or settings.delay 1200;
  deadline = unwrap_or settings.deadline Never;
  drain = unwrap_or settings.drain Writers;
  wait = unwrap_or settings.wait 30;
  retry = unwrap_or settings.retry 3;
  pause = unwrap_or settings.pause 30;
  pctfree = unwrap_or settings.pctfree 5;
  freepage = unwrap_or settings.freepage 0;
}

-- what an ALTER changes
abbrev pub alteration_of : Settings → Alteration
alteration_of settings = record {
  maxro = settings.maxro;
  longlog = settings.longlog;
  delay = settings.delay;
  deadline = settings.deadline;
}
