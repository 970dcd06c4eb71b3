-- When LOGFULL is answered.
use Rattle.std.specs.Prelude.{◌<◌, ◌+◌, ℕ, List, [], ◌∷◌}
use Rattle.rg_engine.specs.Bytes.{most_needed}
use Rattle.rg_desk.specs.Chronicle.{logged_after}
use Rattle.rg_stmt.specs.declared.event.Entry.{Entry}
use Rattle.rg_stmt.specs.declared.event.Event.{Event}
use Rattle.rg_stmt.specs.declared.event.Event.TheVariants.{Said, StartLogFull}
use Rattle.rg_stmt.specs.declared.stmt.Reply.TheVariants.{LogFull}

-- the event is no LOGFULL, or one write more, or one start, might pass the limit
abbrev pub IsLogFullFrom : (limit logged : ℕ) → Event → Type 0
IsLogFullFrom limit logged (Said stmt (LogFull need left)) = limit < logged + most_needed
IsLogFullFrom limit logged (StartLogFull need left) = limit < logged + 28
IsLogFullFrom limit logged event = Unit {0}

-- LOGFULL is answered only where the entries before may have taken so much of the log: what the
-- last opening found, and 4,264 bytes for each write and 28 for each start of a utility since
abbrev pub IsLogFullOnlyFrom : (limit logged : ℕ) → List Entry → Type 0
IsLogFullOnlyFrom limit logged [] = Unit {0}
IsLogFullOnlyFrom limit logged (entry ∷ entries) =
    IsLogFullFrom limit logged entry.event
    × IsLogFullOnlyFrom limit (logged_after logged entry.event) entries
