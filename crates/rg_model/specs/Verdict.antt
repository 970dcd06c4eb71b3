-- Verdicts: what is decided at the end of an iteration over the log, and of a drain that was asked.
-- The names of the options are those of the Db2 utilities' manual; these rules are this profile's.
-- (1) The first case that applies decides.
-- (2) Moments, estimates and delays are added without bound: no sum wraps.
use Rattle.std.specs.Prelude.{ℕ, ◌&&◌, ◌+◌, nat_le, nat_lt, Bool, true, false, Option, Some, None}
use Rattle.std.specs.Prelude.{if◌then◌else◌}
use Rattle.rg_base.specs.declared.control.Deadline.{Deadline}
use Rattle.rg_base.specs.declared.control.Deadline.TheVariants.{Never, At}
use Rattle.rg_base.specs.declared.control.Longlog.{Longlog}
use Rattle.rg_base.specs.declared.control.Longlog.TheVariants as longlog
use Rattle.rg_base.specs.declared.control.Maxro.{Maxro}
use Rattle.rg_base.specs.declared.control.Maxro.TheVariants.{Within, Defer}
use Rattle.rg_base.specs.declared.options.Options.{Options}
use Rattle.rg_base.specs.declared.session.Session.{Session}
use Rattle.rg_base.specs.declared.verdict.DrainVerdict.{DrainVerdict}
use Rattle.rg_base.specs.declared.verdict.DrainVerdict.TheVariants as drains
use Rattle.rg_base.specs.declared.verdict.StopReason.TheVariants as reasons
use Rattle.rg_base.specs.declared.verdict.Verdict.{Verdict}
use Rattle.rg_base.specs.declared.verdict.Verdict.TheVariants as verdicts

-- DEADLINE: the last iteration would end after it
abbrev pub is_late : Deadline → (now estimate : ℕ) → Bool
is_late Never now estimate = false
is_late (At limit) now estimate = nat_lt limit (now + estimate)

-- MAXRO: the last iteration would be short enough
abbrev pub is_short : Maxro → (estimate : ℕ) → Bool
is_short Defer estimate = false
is_short (Within limit) estimate = nat_le estimate limit

-- RETRY_DELAY: no drain was given up, or it was long enough ago
abbrev pub may_drain : (pause : ℕ) → (gave_up : Option ℕ) → (now : ℕ) → Bool
may_drain pause None now = true
may_drain pause (Some moment) now = nat_le (moment + pause) now

-- the log does not grow shorter: as many changes are left as the iteration had
abbrev pub is_slow : (left size : ℕ) → Bool
is_slow left size = nat_le size left && nat_le 1 left

-- LONGLOG: the message has stood for DELAY
abbrev pub longlog_verdict : Options → (gave_up : Option ℕ) → (now : ℕ) → Longlog → Verdict
longlog_verdict options gave_up now longlog.Term = verdicts.Stop reasons.Longlog
longlog_verdict options gave_up now longlog.Drain =
    if may_drain options.pause gave_up now then verdicts.Drain options.drain else verdicts.Next
longlog_verdict options gave_up now longlog.Continue = verdicts.Next

-- the log does not grow shorter; a message that stands has its moment
abbrev pub slow_verdict : Options → (gave_up message : Option ℕ) → (now : ℕ) → Verdict
slow_verdict options gave_up None now = verdicts.Message
slow_verdict options gave_up (Some moment) now =
    if nat_lt now (moment + options.delay) then verdicts.Next
    else longlog_verdict options gave_up now options.longlog

-- The end of an iteration that had `size` changes: `left` are left, and a drain was last given up
-- at `gave_up`.
abbrev pub iteration_verdict :
    Options → (left size : ℕ) → (gave_up message : Option ℕ) → (now estimate : ℕ) → Verdict
iteration_verdict options left size gave_up message now estimate =
    if is_late options.deadline now estimate then verdicts.Stop reasons.Deadline
    else
    (if is_short options.maxro estimate && may_drain options.pause gave_up now
    then verdicts.Drain options.drain
    else (if is_slow left size then slow_verdict options gave_up message now
    else verdicts.Next))

-- RETRY: a try more has failed
abbrev pub retry_verdict : Options → (failed : ℕ) → DrainVerdict
retry_verdict options failed =
    if nat_lt options.retry (failed + 1) then drains.Stop reasons.Drain else drains.GiveUp

-- DRAIN_WAIT: `blocker` is the least session that holds a class which the drain covers
abbrev pub wait_verdict :
    Options → (asked failed : ℕ) → (blocker : Option Session) → (now : ℕ) → DrainVerdict
wait_verdict options asked failed None now = drains.Granted
wait_verdict options asked failed (Some session) now =
    if nat_le (asked + options.wait) now then retry_verdict options failed else drains.Wait session

-- a drain that was asked at `asked`, after so many tries that failed
abbrev pub drain_verdict :
    Options → (asked failed : ℕ) → (blocker : Option Session) → (now estimate : ℕ) → DrainVerdict
drain_verdict options asked failed blocker now estimate =
    if is_late options.deadline now estimate then drains.Stop reasons.Deadline
    else wait_verdict options asked failed blocker now
