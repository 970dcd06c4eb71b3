-- Print: the text of a trace.
-- (1) An entry is its number, from 0 on, its actor and its text, parted by spaces.
-- (2) An actor is the session's number, `U` for the utility or `-` for the system.
-- (3) Each further line of an entry begins with two spaces.
-- (4) The last line counts the entries, and the committed rows unless the engine is down; the
--     damage line stands in its place.
use Rattle.std.specs.Prelude.{ℕ, ◌+◌, Bool, true, List, [], ◌∷◌, ◌++◌, length, codes}
use Rattle.std.specs.Fmt.{decimal}
use Rattle.rg_base.specs.declared.set.Set.{Set}
use Rattle.rg_base.specs.declared.set.Set.TheVariants as sets
use Rattle.rg_stmt.specs.declared.event.Actor.{Actor}
use Rattle.rg_stmt.specs.declared.event.Actor.TheVariants as actors
use Rattle.rg_stmt.specs.declared.event.Entry.{Entry}
use Rattle.rg_stmt.specs.declared.event.Event.{Event}
use Rattle.rg_stmt.specs.declared.event.Event.TheVariants as events
use Rattle.rg_stmt.specs.declared.layout.Side.{Side}
use Rattle.rg_print.specs.Layout.{layout_text, switched_text, which_text}
use Rattle.rg_print.specs.Reply.{reply_text}
use Rattle.rg_print.specs.Utility.{started_text, unload_text, reload_text, drain_text, stop_text}
use Rattle.rg_print.specs.Utility.{log_text, last_text}
use Rattle.rg_print.specs.declared.print.Close.{Close}
use Rattle.rg_print.specs.declared.print.Close.TheVariants as closes

-- the actor
abbrev pub actor_text : Actor → List ℕ
actor_text actors.System = codes "-"
actor_text (actors.Session session) = decimal session.0
actor_text actors.Utility = codes "U"

-- an opening; how much of the log is used is not printed
abbrev pub opened_text : ℕ → ℕ → ℕ → List ℕ
opened_text copy rows pages =
    codes "OPENED copy=" ++ decimal copy ++ codes " rows=" ++ decimal rows ++ codes " pages="
    ++ decimal pages

-- The text of an event, with layouts in full or in brief. A further line begins with the end of the
-- line before.
abbrev pub event_text : Bool → Event → List ℕ
event_text full (events.Opened copy rows pages used) = opened_text copy rows pages
event_text full (events.Said stmt reply) = reply_text reply
event_text full (events.Started options copy pages) = started_text copy pages
event_text full events.Active = codes "ACTIVE"
event_text full (events.StartLogFull need left) = codes "2 LOGFULL"
event_text full events.StartDown = codes "4 DOWN"
event_text full events.StartNoMemory = codes "5 NOMEMORY"
event_text full events.Idle = codes "IDLE"
event_text full events.StepDown = codes "4 DOWN"
event_text full (events.Unload page rows) = unload_text page rows
event_text full (events.Reload page rows) = reload_text page rows
event_text full (events.Sort which) = codes "SORT " ++ which_text which
event_text full (events.Build which) = codes "BUILD " ++ which_text which
event_text full (events.Log iteration took left verdict) = log_text iteration took left verdict
event_text full (events.Wait session) = codes "WAIT " ++ decimal session.0
event_text full (events.Granted drain) = codes "GRANTED " ++ drain_text drain
event_text full (events.GiveUp number) = codes "GIVEUP " ++ decimal number
event_text full (events.Last took left) = last_text took left
event_text full (events.Written pages) = codes "WRITTEN pages=" ++ decimal pages
event_text full (events.Switched copy sides) = switched_text full copy sides
event_text full events.Ended = codes "ENDED"
event_text full (events.Stop reason) = stop_text reason
event_text full (events.Flush page) = codes "FLUSH page=" ++ decimal page
event_text full events.Clean = codes "CLEAN"
event_text full events.FlushDevice = codes "3 DEVICE"
event_text full events.FlushDown = codes "4 DOWN"
event_text full events.FlushNoMemory = codes "5 NOMEMORY"
event_text full (events.Layout copy side) = layout_text full copy side
event_text full events.LayoutDevice = codes "3 DEVICE"
event_text full events.LayoutDown = codes "4 DOWN"
event_text full events.LayoutNoMemory = codes "5 NOMEMORY"

-- an entry, with its number
abbrev pub entry_text : Bool → ℕ → Entry → List ℕ
entry_text full number entry =
    decimal number ++ codes " " ++ actor_text entry.actor ++ codes " "
    ++ event_text full entry.event ++ codes "\n"

-- entries, numbered from this one on
abbrev pub entries_text : Bool → ℕ → List Entry → List ℕ
entries_text full number [] = []
entries_text full number (entry ∷ entries) =
    entry_text full number entry ++ entries_text full (number + 1) entries

-- the name of a set
abbrev pub set_text : Set → List ℕ
set_text sets.Log = codes "LOG"
set_text sets.First = codes "FIRST"
set_text sets.Second = codes "SECOND"

-- the page of the volume that was found damaged
abbrev pub damaged_text : Set → ℕ → List ℕ
damaged_text set page =
    codes "REFUSED volume damaged " ++ set_text set ++ codes " " ++ decimal page ++ codes "\n"

-- the last line of a run, with the committed rows
abbrev pub end_text : ℕ → ℕ → List ℕ
end_text entries rows =
    codes "END entries=" ++ decimal entries ++ codes " rows=" ++ decimal rows ++ codes "\n"

-- the last line where the engine is down
abbrev pub end_down_text : ℕ → List ℕ
end_down_text entries = codes "END entries=" ++ decimal entries ++ codes " DOWN\n"

-- the last line, after so many entries
abbrev pub close_text : ℕ → Close → List ℕ
close_text entries (closes.Rows rows) = end_text entries rows
close_text entries closes.Down = end_down_text entries
close_text entries (closes.Damaged set page) = damaged_text set page

-- entries are numbered from 0
abbrev pub print_text : List Entry → Bool → Close → List ℕ
print_text trace full close = entries_text full 0 trace ++ close_text (length trace) close

-- the layout of a copy alone, in full
abbrev pub print_layout_text : ℕ → Side → List ℕ
print_layout_text copy side = layout_text true copy side ++ codes "\n"
