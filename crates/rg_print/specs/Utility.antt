-- The texts of the utility's steps.
use Rattle.std.specs.Prelude.{ℕ, List, ◌++◌, codes}
use Rattle.std.specs.Fmt.{decimal}
use Rattle.rg_base.specs.declared.options.DrainFor.{DrainFor}
use Rattle.rg_base.specs.declared.options.DrainFor.TheVariants as drains
use Rattle.rg_base.specs.declared.verdict.StopReason.{StopReason}
use Rattle.rg_base.specs.declared.verdict.StopReason.TheVariants as reasons
use Rattle.rg_base.specs.declared.verdict.Verdict.{Verdict}
use Rattle.rg_base.specs.declared.verdict.Verdict.TheVariants as verdicts

-- the start, over this copy and so many pages
abbrev pub started_text : ℕ → ℕ → List ℕ
started_text copy pages = codes "STARTED copy=" ++ decimal copy ++ codes " pages=" ++ decimal pages

-- a page that was copied
abbrev pub unload_text : ℕ → ℕ → List ℕ
unload_text page rows = codes "UNLOAD page=" ++ decimal page ++ codes " rows=" ++ decimal rows

-- a page that was filled
abbrev pub reload_text : ℕ → ℕ → List ℕ
reload_text page rows = codes "RELOAD page=" ++ decimal page ++ codes " rows=" ++ decimal rows

-- what is drained
abbrev pub drain_text : DrainFor → List ℕ
drain_text drains.Writers = codes "WRITERS"
drain_text drains.All = codes "ALL"

-- why a utility stopped
abbrev pub reason_text : StopReason → List ℕ
reason_text reasons.Term = codes "TERM"
reason_text reasons.Deadline = codes "DEADLINE"
reason_text reasons.Longlog = codes "LONGLOG"
reason_text reasons.Drain = codes "DRAIN"
reason_text reasons.NoSpace = codes "NOSPACE"
reason_text reasons.Device = codes "DEVICE"
reason_text reasons.NoMemory = codes "NOMEMORY"

-- a stop
abbrev pub stop_text : StopReason → List ℕ
stop_text reason = codes "STOP " ++ reason_text reason

-- what comes after a part of an iteration
abbrev pub verdict_text : Verdict → List ℕ
verdict_text verdicts.More = codes "MORE"
verdict_text verdicts.Next = codes "NEXT"
verdict_text verdicts.Message = codes "MESSAGE"
verdict_text (verdicts.Drain drain) = codes "DRAIN " ++ drain_text drain
verdict_text (verdicts.Stop reason) = stop_text reason

-- a part of an iteration over the log
abbrev pub log_text : ℕ → ℕ → ℕ → Verdict → List ℕ
log_text iteration took left verdict =
    codes "LOG iteration=" ++ decimal iteration ++ codes " took=" ++ decimal took ++ codes " left="
    ++ decimal left ++ codes " " ++ verdict_text verdict

-- a part of the last iteration
abbrev pub last_text : ℕ → ℕ → List ℕ
last_text took left = codes "LAST took=" ++ decimal took ++ codes " left=" ++ decimal left
