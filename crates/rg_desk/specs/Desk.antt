-- What a desk keeps.
--
-- 1. Its trace begins with the opening of the table that the log stored then. It leads to a state,
--    and that is the one that the engine shows. The entries of earlier openings are no part
--    of it: they are kept as they were.
-- 2. The entries of the trace have allowed the bytes that the engine's pages claim, by the state
--    that they lead to.
-- 3. An entry has the number of the volume's calls up to it.
-- 4. The log has no more bytes taken or reserved than the entries say.
-- 5. It is down if and only if its state is, and then nothing is known of its engine but the log's
--    size, and that whatever part of the log has all that is forced stores a table that process
--    death leaves of the state.
-- 6. Where the log read tidy when the count began, a crash leaves all of it that is forced.
-- 7. Each key with a row, and each locked one, is among some keys that are no more than the entries
--    and the rows at the opening.
-- 8. While it is up each page is the newest version of its page, and each mark says how it reads.
--    Where the volume read tidy when the count began, a crash leaves versions that the forced
--    records cover. Then whatever it leaves can be opened, and dead areas have numbers that were
--    drawn.
use Rattle.std.specs.Prelude.{◌≡◌, ◌≤◌, ◌<◌, ◌+◌, ◌-◌, ◌^◌, ◌⊎◌, ◌||◌, ◌++◌, if◌then◌else◌, ℕ, Bool}
use Rattle.std.specs.Prelude.{true, false, List, [], ◌∷◌, Option, Some, None, IfSome, length, take}
use Rattle.rg_laws_utility.specs.ByteAccount.Account.{allowed_of, first_state, state_by}
use Rattle.rg_laws_utility.specs.ByteAccount.Reaching.{ReachesBy}
use Rattle.rg_base.specs.declared.control.Answer.{Answer}
use Rattle.rg_base.specs.declared.options.DrainFor.{DrainFor}
use Rattle.rg_base.specs.declared.options.DrainState.TheVariants.{Granted}
use Rattle.rg_base.specs.declared.options.Options.{Options}
use Rattle.rg_base.specs.declared.place.Place.{Place}
use Rattle.rg_base.specs.declared.row.Row.{Row}
use Rattle.rg_base.specs.declared.which.Which.{Which}
use Rattle.rg_image.specs.Rules.{copy_capacity}
use Rattle.rg_shadow.specs.Shade.{Shade, shade_slots, stage_in}
use Rattle.rg_shadow.specs.declared.drafts.IndexStage.TheVariants.{Built}
use Rattle.rg_engine.specs.CopyPages.Stamped.{stamped_all}
use Rattle.rg_base.specs.declared.position.Position.{Position}
use Rattle.std.specs.FinMap as map
use Rattle.rg_base.specs.declared.session.Session.{Session}
use Rattle.rg_model.specs.Committed.{committed_table}
use Rattle.rg_model.specs.Legal.{Legal}
use Rattle.rg_model.specs.Run.{Run}
use Rattle.rg_model.specs.State.{State, Table, at_rest, is_present, row_count, row_of}
use Rattle.rg_outside.specs.Moments.{EachImage, HoldsThroughout, IfTold}
use Rattle.rg_laws_pages.specs.ByteClaims.Claim.{claimed_all, nobody}
use Rattle.rg_feed.specs.Fold.Fold.{row_in}
use Rattle.rg_feed.specs.Fold.Lawful.{AreRowsOf}
use Rattle.rg_feed.specs.Ring.{Ring}
use Rattle.rg_feed.specs.declared.fold.item.Item.{Item}
use Rattle.rg_feed.specs.declared.fold.item.Item.TheVariants.{PageCopy}
use Rattle.rg_feed.specs.declared.fold.item.Stage.{Stage}
use Rattle.rg_home.specs.Slot.{Slot}
use Rattle.rg_image.specs.Log.{log_of}
use Rattle.rg_image.specs.Pack.{log_bytes}
use Rattle.rg_image.specs.Rules.{limit_of}
use Rattle.rg_laws_crash.specs.SwitchRecord.Switched.{switch_to}
use Rattle.rg_page.specs.Content.{Content, slots_of}
use Rattle.rg_record.specs.declared.record.Record.{Record}
use Rattle.rg_stmt.specs.Entries.{opened_entry, said_entry}
use Rattle.rg_stmt.specs.declared.event.Entry.{Entry}
use Rattle.rg_stmt.specs.declared.event.Event.{Event}
use Rattle.rg_stmt.specs.declared.event.Event.TheVariants as events
use Rattle.rg_stmt.specs.declared.stmt.Reply.{Reply}
use Rattle.rg_stmt.specs.declared.stmt.Reply.TheVariants.{Device, Done, Down}
use Rattle.rg_stmt.specs.declared.stmt.Stmt.{Stmt}
use Rattle.rg_log.specs.Kept.{Listed, left_of, log_pages}
use Rattle.rg_outside.specs.Faults.{Rose}
use Rattle.rg_base.specs.declared.step.Step.TheVariants as steps
use Rattle.rg_base.specs.declared.verdict.StopReason.TheVariants as reasons
use Rattle.rg_home.specs.Pages.{slot_of}
use Rattle.rg_home.specs.Rows.{row_at}
use Rattle.rg_home.specs.Table.{IsTable}
use Rattle.rg_model.specs.Changes.{changes, unit_writes}
use Rattle.rg_model.specs.Layout.{is_right_side}
use Rattle.rg_model.specs.Right.{are_quiet_right, is_packed}
use Rattle.rg_model.specs.Turn.{alter, is_term, step_of, turn_of}
use Rattle.rg_rules.specs.Stage.NumbersOf.{numbers_of}
use Rattle.rg_layout.specs.Spots.{spots_of}
use Rattle.rg_stmt.specs.declared.layout.Side.{Side}
use Rattle.rg_stmt.specs.declared.layout.Sides.{Sides}
use Rattle.rg_engine.specs.Answers.{IfFull, IfLogFull, forces, is_answer, is_device}
use Rattle.rg_engine.specs.Bytes.{taken_of}
use Rattle.rg_engine.specs.Effect.{IfDoneEffect}
use Rattle.rg_engine.specs.Flushed.{CallsOwn, FlushIs, ReadsAll}
use Rattle.rg_engine.specs.Left.{LeavesState, StoresDuring, StoresLeft}
use Rattle.rg_engine.specs.OnVolume.{AreClean, CleanIfTidy, IsOnVolume, LeavesCopies, RestsOn}
use Rattle.rg_engine.specs.OnVolume.{SoundThroughout}
use Rattle.rg_desk.specs.Chronicle.{ChronicleState, IsRecorded, logged_by, system_entry}
use Rattle.rg_engine.specs.Prepared.{PreparedSeen}
use Rattle.rg_engine.specs.Room.{Ground, SaysLog, SaysRoom}
use Rattle.rg_engine.specs.Sends.{begin_items}
use Rattle.rg_engine.specs.Shows.{Shows}
use Rattle.rg_engine.specs.Steps.{leaves_ground}
use Rattle.rg_engine.specs.Stored.{IsStored}
use Rattle.rg_engine.specs.Units.{unit_at}
use Rattle.rg_engine.specs.Utility.{IsNew}
use Rattle.rg_engine.specs.Volume.{CallsLog, HasCalls, IsCount, LeavesIfTidy, WasTidy}
use Rattle.rg_outside.specs.Told.{AddsAnswer, HandsOver}
use Rattle.rg_outside.specs.Volume.{VolumeSeen}
use Rattle.rg_desk.specs.declared.task.Task.{Task}
use Rattle.rg_engine.specs.declared.engine.Engine.{Engine}
use Rattle.rg_engine.specs.declared.origin.Origin.{Origin}
use Rattle.rg_engine.specs.ChangeFeed.Sending.{AddsChanges, AreCopies}
use Rattle.rg_feed.specs.SentItems.Keeps.{KeepsFeed}
use Rattle.rg_laws_utility.specs.TraceStage.Tending.{FollowsBy, NextBy, aside_for, is_plain}
use Rattle.rg_laws_utility.specs.TraceStage.Tending.{utility_entry}
use Rattle.rg_model.specs.Run.{behind}
use Rattle.rg_model.specs.Utility.{starts_utility}
use Rattle.rg_base.specs.Copies.{IsCopy, other_of, set_of}
use Rattle.rg_engine.specs.Layouts.{IsLayout, IsSideOf, ShowsSideOf}
use Rattle.rg_engine.specs.Prepared.{while_running}
use Rattle.rg_engine.specs.Tabled.{EndsIn}

-- a trace begins with the opening of this copy, of so many rows
abbrev pub IsBegun : (copy rows : ℕ) → List Entry → Type 0
IsBegun copy rows [] = ⊥
IsBegun copy rows (entry ∷ entries) =
    (pages used : ℕ) × (entry ≡ opened_entry copy rows pages used entry.calls)

-- a key is one of these
abbrev pub IsAmong : List ℕ → ℕ → Type 0
IsAmong [] k = ⊥
IsAmong (key ∷ keys) k = (k ≡ key) ⊎ IsAmong keys k

-- each key with a row, and each locked one, is among these
pub record AreKeys (keys : List ℕ) (st : State) : Type 0 where
  pub present : (k : ℕ) → is_present st.table k ≡ true → IsAmong keys k
  pub locked : (k : ℕ) → map.contains_key st.locks k ≡ true → IsAmong keys k

-- what a desk keeps of its engine and its entries since it was opened, over a volume of which so
-- much is seen
pub record IsDesk (d : Engine) (c : ChronicleState) (origin : Origin) (copy : ℕ) (down : Bool)
    (marks : List (Option Position)) (seen : VolumeSeen) : Type 0 where
  pub start : Table
  pub starts : IsStored (take origin.records d.log.records) start
  pub within : origin.records ≤ length d.log.records
  pub state : State
  pub begun : IsBegun origin.copy (row_count start) c.trace
  pub run : Run [] (at_rest start origin.copy) c.trace state
  pub told : state_by [] (first_state start) c.trace ≡ state
  pub is_first : IsCopy origin.copy
  pub is_copy : IsCopy copy
  pub copy_is : state.copy ≡ copy
  pub down_is : state.down ≡ down
  pub counted : HasCalls seen c.calls
  pub recorded : IsRecorded c.trace c.calls
  pub shown : down ≡ false → Shows state (allowed_of start c.trace) d
  pub left : down ≡ true → LeavesState state d.log
  pub logged : taken_of d.log ≤ logged_by 0 c.trace
  pub pages : d.log.pages ≡ log_pages seen.capacities
  pub leaves : LeavesIfTidy seen d.log
  pub is_on : down ≡ false → IsOnVolume copy d.log d.space marks seen
  pub rests : down ≡ true → RestsOn state seen
  pub clean : down ≡ false → CleanIfTidy seen d
  pub keys : List ℕ
  pub among : AreKeys keys state
  pub few : length keys ≤ length c.trace + row_count start
  pub few_rows : row_count start < 2 ^ 32

-- up to the switch, a new copy that is kept is that of the last record once WRITTEN was said
abbrev pub IsAsWritten : Option Stage → Option PreparedSeen → (records : ℕ) → Type 0
IsAsWritten stage None records = Unit {0}
IsAsWritten None (Some p) records = Unit {0}
IsAsWritten (Some s) (Some p) records =
    s.written ≡ true → s.switched ≡ false → p.records ≡ records

-- What callers see of a desk: the entries of earlier openings, those from its own on, what its
-- writes are planned over, its pages and their marks, how many records the log had when it was
-- opened and of which copy it was, the current copy, and whether it is down. Then the stage of the
-- utility that runs, the changes since one started, the operator's answer that no entry has yet,
-- the new copy that was written, the ring of its feed and the items that it has sent, for how many
-- entries there is room, and the least session that is in the drain's way. Last what it was handed.
pub record DeskState (V O : Type 0) : Type 0 where
  pub older : List Entry
  pub trace : List Entry
  pub ground : Ground
  pub contents : List Content
  pub marks : List (Option Position)
  pub opened : ℕ
  pub first_copy : ℕ
  pub copy : ℕ
  pub down : Bool
  pub stage : Option Stage
  pub changes : ℕ
  pub kept : Option Answer
  pub shadow : Option PreparedSeen
  pub ring : Ring
  pub feed : List Item
  pub spare : ℕ
  pub covered : Option Session
  pub volume : V
  pub operator : O

-- the records that the log had when it was opened
abbrev pub old_records : {V O : Type 0} → DeskState V O → List Record
old_records desk = take desk.opened desk.ground.log.records

-- a desk that was opened over a volume, with this log and these pages
pub record Opens {V O : Type 0}
    (look : V → VolumeSeen) (volume : V) (operator : O) (log : Listed) (copy capacity : ℕ)
    (pages : List (List Slot)) (desk : DeskState V O) : Type 0 where
  pub calls : ℕ
  pub start : Table
  pub starts : IsStored log.records start
  pub trace :
      desk.trace
      ≡ opened_entry copy (row_count start) (length pages) (log_bytes log.records) calls ∷ []
  pub counted : IsCount (look volume) calls
  pub pages_are : desk.ground.pages ≡ pages
  pub capacity_is : desk.ground.capacity ≡ capacity
  pub log_is : desk.ground.log ≡ log
  pub opened : desk.opened ≡ length log.records
  pub first_copy : desk.first_copy ≡ copy
  pub copy_is : desk.copy ≡ copy
  pub up : desk.down ≡ false
  pub same : desk.volume ≡ volume
  pub asked : desk.operator ≡ operator
  pub stage : desk.stage ≡ None
  pub changes : desk.changes ≡ 0
  pub kept : desk.kept ≡ None
  pub shadow : desk.shadow ≡ None
  pub feed : desk.feed ≡ []
  pub idle : (n : ℕ) → unit_at desk.ground.units n ≡ None

-- the copy may have as many pages as before, and the log and the entries of earlier openings are as
-- they were, and of the volume no page but the log's and the copy's was written
pub record Stays {V O : Type 0} (look : V → VolumeSeen) (old new : DeskState V O) : Type 0 where
  pub older : new.older ≡ old.older
  pub capacity : new.ground.capacity ≡ old.ground.capacity
  pub log_pages : new.ground.log.pages ≡ old.ground.log.pages
  pub opened : new.opened ≡ old.opened
  pub first_copy : new.first_copy ≡ old.first_copy
  pub old_same : old_records new ≡ old_records old
  pub copy : new.copy ≡ old.copy
  pub ring : new.ring ≡ old.ring
  pub calls : CallsOwn old.copy (look old.volume) (look new.volume)

-- The utility's stage is as it was, the answer that no entry has yet, the new copy that was
-- written, and the operator. No more was sent than changes.
pub record SameUtility {V O : Type 0} (old new : DeskState V O) : Type 0 where
  pub stage : new.stage ≡ old.stage
  pub kept : new.kept ≡ old.kept
  pub shadow : new.shadow ≡ old.shadow
  pub operator : new.operator ≡ old.operator
  pub feed : AddsChanges old.feed new.feed

-- What writes are planned over is as it was, but for the bytes that the log has reserved. The
-- running utility's are set aside among them.
pub record SameGround {V O : Type 0} (old new : DeskState V O) : Type 0 where
  pub ground :
      new.ground
      ≡ record old.ground { log = record old.ground.log { reserved = new.ground.log.reserved } }
  pub reserved :
      new.ground.log.reserved + aside_for old.stage
      ≡ old.ground.log.reserved + aside_for new.stage

-- The entries of a desk lead to a state. Where the log read tidy, whatever a crash leaves of the
-- volume at each moment of the calls that followed stores what it should of that state.
pub record KeepsRows {V O : Type 0} (look : V → VolumeSeen) (old : DeskState V O)
    (Stores : State → List Record → Type 0) (new : VolumeSeen) : Type 0 where
  pub start : Table
  pub starts : IsStored (old_records old) start
  pub last : State
  pub run : Run [] (at_rest start old.first_copy) old.trace last
  pub stored :
      IfTold new.told (λ t. WasTidy old.ground.log.pages t
      → HoldsThroughout (look old.volume).told (Some t)
      (EachImage (λ i. Stores last (log_of old.ground.log.pages i))))

-- a statement may be answered so, or DOWN
abbrev pub is_reply : Stmt → Reply → Bool
is_reply stmt Down = true
is_reply stmt reply = is_answer stmt reply

-- A statement has one entry more, with the number of calls up to it. It is answered DOWN if and
-- only if the desk is down. The volume is called only for the COMMIT of a unit that has written, by
-- the entries too: at OK all records are forced, and DEVICE, which brings the desk down, comes only
-- where a call failed. FULL stands in it exactly where there is no plan of the write, and then the
-- entries before have allowed so many bytes. LOGFULL stands in it exactly where the log has less
-- left than the write needs, which has a plan, and then the writes before have taken nearly all of
-- it. Pages and log are as they were, unless OK is answered, or DEVICE. At OK pages, units and
-- records are those that its effect says: a write leaves those of its plan, a COMMIT its record,
-- and a ROLLBACK an undo of each write of its unit. What a crash leaves at each moment of it is
-- sound, and stores a table that process death leaves of the state before it. A COMMIT that calls
-- the volume may be in then, or not.
pub record MadeSaid {V O : Type 0}
    (look : V → VolumeSeen) (old : DeskState V O) (session : Session) (stmt : Stmt)
    (new : DeskState V O) : Type 0 where
  pub reply : Reply
  pub calls : ℕ
  pub made : new.trace ≡ old.trace ++ said_entry session stmt reply calls ∷ []
  pub counted : IsCount (look new.volume) calls
  pub is : is_reply stmt reply ≡ true
  pub was_down : old.down ≡ true → reply ≡ Down
  pub was_up : old.down ≡ false → reply ≡ Down → ⊥
  pub down : new.down ≡ (old.down || is_device reply)
  pub device : reply ≡ Device → Rose (look old.volume).faults (look new.volume).faults
  pub quiet :
      forces old.ground.units session stmt ≡ false → look new.volume ≡ look old.volume
  pub idle :
      unit_writes session.0 (behind [] old.trace) ≡ 0 → look new.volume ≡ look old.volume
  pub forced :
      forces old.ground.units session stmt ≡ true → reply ≡ Done
      → new.ground.log.forced ≡ length new.ground.log.records
  pub room : SaysRoom old.ground session.0 stmt reply
  pub full :
      (start : Table) → IsStored (old_records old) start
      → IfFull reply (allowed_of start old.trace) old.ground.capacity
  pub log : SaysLog old.ground session.0 stmt reply
  pub log_full : IfLogFull reply (logged_by 0 old.trace) old.ground.log.pages
  pub kept :
      leaves_ground reply ≡ true → (new.ground ≡ old.ground) × (new.contents ≡ old.contents)
  pub marks : new.marks ≡ old.marks
  pub sound : SoundThroughout (look old.volume) (look new.volume)
  pub rows :
      KeepsRows look old (λ st. StoresDuring (forces old.ground.units session stmt) st session)
      (look new.volume)
  pub utility : SameUtility old new
  pub later : old.changes ≤ new.changes
  pub stays : Stays look old new
  pub effect : IfDoneEffect old.ground session.0 stmt reply new.ground

-- A layout has one entry more, and calls no volume. What it shows is the layout of the pages. Where
-- all pages of a desk that is up are clean, they read as they are in memory.
pub record MadeLayout {V O : Type 0} (look : V → VolumeSeen) (old new : DeskState V O) : Type 0
  where
    pub event : Event
    pub calls : ℕ
    pub made : new.trace ≡ old.trace ++ system_entry event calls ∷ []
    pub counted : IsCount (look new.volume) calls
    pub is : IsLayout old.copy event
    pub was_down : old.down ≡ true → event ≡ events.LayoutDown
    pub side : ShowsSideOf old.ground.pages event
    pub slots : old.ground.pages ≡ slots_of old.contents
    pub reads :
        old.down ≡ false → AreClean old.contents old.marks
        → IfTold (look old.volume).told (ReadsAll (set_of old.copy) old.contents)
    pub ground : new.ground ≡ old.ground
    pub contents : new.contents ≡ old.contents
    pub marks : new.marks ≡ old.marks
    pub down : new.down ≡ old.down
    pub volume : new.volume ≡ old.volume
    pub utility : SameUtility old new
    pub changes : new.changes ≡ old.changes
    pub stays : Stays look old new

-- A flush has one entry more, with the number of calls up to it. It is answered DOWN if and only if
-- the desk is down. It changes nothing but how much of the log is forced, and marks. What a crash
-- leaves at each moment of it is sound, and stores a table that process death leaves of the state.
pub record MadeFlush {V O : Type 0} (look : V → VolumeSeen) (old new : DeskState V O) : Type 0
  where
    pub event : Event
    pub calls : ℕ
    pub made : new.trace ≡ old.trace ++ system_entry event calls ∷ []
    pub counted : IsCount (look new.volume) calls
    pub is :
        FlushIs old.down old.copy old.contents old.marks new.marks (look old.volume)
        (look new.volume) event
    pub log : new.ground.log ≡ record old.ground.log { forced = new.ground.log.forced }
    pub further : old.ground.log.forced ≤ new.ground.log.forced
    pub contents : new.contents ≡ old.contents
    pub down : new.down ≡ old.down
    pub sound : SoundThroughout (look old.volume) (look new.volume)
    pub rows : KeepsRows look old StoresLeft (look new.volume)
    pub utility : SameUtility old new
    pub changes : new.changes ≡ old.changes
    pub stays : Stays look old new
    pub ground :
        new.ground
        ≡ record old.ground { log = record old.ground.log { forced = new.ground.log.forced } }

-- what a control statement is answered, over a copy of so many pages, and the stage then
abbrev pub IsStart :
    (down : Bool) → Option Stage → Options → (copy pages : ℕ) → Listed → Event → Option Stage
    → Type 0
IsStart true stage options copy pages log event next = (event ≡ events.StartDown) × (next ≡ stage)
IsStart false (Some s) options copy pages log event next =
    (event ≡ events.Active) × (next ≡ Some s)
IsStart false None options copy pages log (events.Started given of_copy of_pages) next =
    (given ≡ options) × (of_copy ≡ copy) × (of_pages ≡ pages) × IsNew options pages next
IsStart false None options copy pages log (events.StartLogFull need left) next =
    (need ≡ 28) × (left ≡ left_of log) × (left < 28) × (next ≡ None)
IsStart false None options copy pages log events.StartNoMemory next = next ≡ None
IsStart false None options copy pages log event next = ⊥

-- LOGFULL comes only where what the log has taken so far, and 28 bytes more, are more than the
-- limit of a log of so many pages
abbrev pub IfStartLogFull : Event → (logged pages : ℕ) → Type 0
IfStartLogFull (events.StartLogFull need left) logged pages = limit_of pages < logged + 28
IfStartLogFull event logged pages = Unit {0}

-- A control statement has one entry more, with the number of calls up to it. It calls no volume.
pub record MadeStart {V O : Type 0} (look : V → VolumeSeen) (old : DeskState V O)
    (options : Options) (started : Bool) (new : DeskState V O) : Type 0 where
  pub event : Event
  pub calls : ℕ
  pub made : new.trace ≡ old.trace ++ utility_entry event None calls ∷ []
  pub counted : IsCount (look new.volume) calls
  pub is :
      IsStart old.down old.stage options old.copy (length old.contents) old.ground.log event
      new.stage
  pub started_is : started ≡ starts_utility event
  pub log_full : IfStartLogFull event (logged_by 0 old.trace) old.ground.log.pages
  pub changes : new.changes ≡ (if started then 0 else old.changes)
  pub feed : new.feed ≡ old.feed ++ begin_items event
  pub kept : new.kept ≡ old.kept
  pub shadow : new.shadow ≡ old.shadow
  pub operator : new.operator ≡ old.operator
  pub ground : SameGround old new
  pub contents : new.contents ≡ old.contents
  pub marks : new.marks ≡ old.marks
  pub down : new.down ≡ old.down
  pub volume : new.volume ≡ old.volume
  pub stays : Stays look old new

-- the changes that the utility has not taken
abbrev pub left_by_stage : (changes : ℕ) → Option Stage → ℕ
left_by_stage changes None = 0
left_by_stage changes (Some s) = changes - s.done

abbrev pub left_to_take : {V O : Type 0} → DeskState V O → ℕ
left_to_take desk = left_by_stage desk.changes desk.stage

-- it has taken no more changes than there are, up to the end of its iteration
pub record HasTaken (changes : ℕ) (s : Stage) : Type 0 where
  pub done : s.done ≤ s.target
  pub target : s.target ≤ changes

-- once the last LAST was made it has taken all, up to the switch
abbrev pub HasCaught : (changes : ℕ) → Stage → Type 0
HasCaught changes s = s.last ≡ true → s.switched ≡ false → changes ≤ s.done

-- the event is that of the next step
abbrev pub IsNextStep : {V O : Type 0} → DeskState V O → Option Answer → Event → Type 0
IsNextStep desk answer event =
    NextBy desk.down desk.stage desk.changes desk.covered answer event

-- A step has one entry more, with the operator's answer and the number of calls up to it. It calls
-- no volume. The stage follows the event. These items were sent.
pub record MadeStep {V O : Type 0} (look : V → VolumeSeen) (old : DeskState V O)
    (answer : Option Answer) (event : Event) (items : List Item) (new : DeskState V O) : Type 0
  where
    pub calls : ℕ
    pub made : new.trace ≡ old.trace ++ utility_entry event answer calls ∷ []
    pub counted : IsCount (look new.volume) calls
    pub follows : FollowsBy old.down old.stage old.changes old.covered answer event new.stage
    pub changes : new.changes ≡ old.changes
    pub feed : new.feed ≡ old.feed ++ items
    pub kept : new.kept ≡ None
    pub shadow : new.shadow ≡ while_running new.stage old.shadow
    pub operator : new.operator ≡ old.operator
    pub ground : SameGround old new
    pub contents : new.contents ≡ old.contents
    pub marks : new.marks ≡ old.marks
    pub down : new.down ≡ old.down
    pub volume : new.volume ≡ old.volume
    pub stays : Stays look old new

-- The utility's step begins: the desk is up, the utility is at this stage, and the operator has
-- given this answer, which no entry has yet. There is room for one. The rest of what the step goes
-- by is so as well. Once the last LAST was made all changes are taken, and the log has no record
-- more since the new copy was written, up to the switch.
pub record IsTask {V O : Type 0} (look : V → VolumeSeen) (desk : DeskState V O) (task : Task)
    : Type 0 where
  pub up : desk.down ≡ false
  pub stage : desk.stage ≡ Some task.stage
  pub taken : HasTaken desk.changes task.stage
  pub kept : desk.kept ≡ Some task.answer
  pub room : 1 ≤ desk.spare
  pub changes : task.changes ≡ desk.changes
  pub holder : task.holder ≡ desk.covered
  pub copy : task.copy ≡ other_of desk.copy
  pub capacity :
      task.capacity ≡ copy_capacity (look desk.volume).capacities (other_of desk.copy)
  pub caught : HasCaught task.changes task.stage
  pub current : IsAsWritten desk.stage desk.shadow (length desk.ground.log.records)

-- a desk that is down, or where no utility runs, has made the entry that says so
pub record RefusesStep {V O : Type 0} (look : V → VolumeSeen) (old new : DeskState V O) : Type 0
  where
    pub roomy : DeskState V O
    pub same : roomy ≡ record old { spare = roomy.spare }
    pub event : Event
    pub is :
        ((old.down ≡ true) × (event ≡ events.StepDown))
        ⊎ ((old.down ≡ false) × (old.stage ≡ None) × (event ≡ events.Idle))
    pub made : MadeStep look roomy None event [] new

-- the operator was asked, and told how many changes are left
pub record AsksStep {V O : Type 0} (look : V → VolumeSeen) (answers : O → Option (List Answer))
    (last : O → Option ℕ) (old : DeskState V O) (task : Task) (new : DeskState V O) : Type 0 where
  pub begun : IsTask look new task
  pub same :
      new ≡ record old { spare = new.spare; kept = Some task.answer; operator = new.operator }
  pub answered : AddsAnswer (answers old.operator) task.answer (answers new.operator)
  pub handed : HandsOver (left_to_take old) (answers new.operator) (last new.operator)

-- how a step begins: with what it goes by, or with its only entry
abbrev pub BeginsStep :
    {V O : Type 0} → (look : V → VolumeSeen) → (answers : O → Option (List Answer))
    → (last : O → Option ℕ) → (old new : DeskState V O) → Option Task → Type 0
BeginsStep look answers last old new None = RefusesStep look old new
BeginsStep look answers last old new (Some task) = AsksStep look answers last old task new

-- What the items that a desk has sent are to its utility. They are in order. Until the copies are
-- switched they lead to the rows of the table, at each place of a page that was copied or that the
-- table did not have at the start. As many pages are copied as the stage says, and as many rows.
-- The changes are counted as the entries tell. Until then a new copy may have to take no more than
-- they have allowed.
pub record FeedIs {V O : Type 0} (desk : DeskState V O) : Type 0 where
  pub counted : desk.changes ≡ changes (behind [] desk.trace)
  pub copies : AreCopies desk.stage desk.feed
  pub keeps :
      KeepsFeed (row_at (slot_of desk.ground.pages)) (behind [] desk.trace) desk.stage
      desk.changes (length desk.ground.log.records) desk.feed
  pub reaches :
      (start : Table) → IsStored (old_records desk) start
      → ReachesBy (row_at (slot_of desk.ground.pages)) desk.stage
      (allowed_of start desk.trace) desk.feed

-- The next event of the utility that runs is UNLOAD of this page, however many rows the page has.
pub record CanFeed {V O : Type 0} (desk : DeskState V O) (page : ℕ) (answer : Answer) : Type 0
  where
    pub stage : Stage
    pub stage_is : desk.stage ≡ Some stage
    pub next :
        (rows : ℕ) → rows ≤ 225
        → is_plain
        (turn_of desk.changes desk.covered answer (numbers_of stage) stage.drain
        (events.Unload page rows))
        ≡ true

-- UNLOAD of a page with so many rows was made, and a copy of the page was sent: its rows, each at
-- its home, as the last record left them
pub record MadeCopy {V O : Type 0} (look : V → VolumeSeen) (old : DeskState V O) (answer : Answer)
    (page rows : ℕ) (new : DeskState V O) : Type 0 where
  pub few : rows ≤ 225
  pub position : Position
  pub copied : List (Place × Row)
  pub rows_are : rows ≡ length copied
  pub at : position ≡ record { 0 = length old.ground.log.records }
  pub of_page : AreRowsOf page copied
  pub same :
      (place : Place) → place.page ≡ page
      → row_in copied place ≡ row_at (slot_of old.ground.pages) place
  pub made :
      MadeStep look old (Some answer) (events.Unload page rows)
      (PageCopy page position copied ∷ []) new

-- the utility that runs has a drain, so that nobody writes
pub record HasDrain {V O : Type 0} (desk : DeskState V O) : Type 0 where
  pub stage : Stage
  pub stage_is : desk.stage ≡ Some stage
  pub granted : DrainFor
  pub drain : stage.drain ≡ Granted granted

-- a new copy with its indexes, which may become the other copy of a desk
pub record IsOtherCopy {V O : Type 0} (look : V → VolumeSeen) (desk : DeskState V O)
    (shade : Shade) : Type 0 where
  pub copy : shade.copy ≡ other_of desk.copy
  pub capacity :
      shade.capacity ≡ copy_capacity (look desk.volume).capacities (other_of desk.copy)
  pub built : (which : Which) → stage_in which shade ≡ Built

-- a new copy may be written: the utility that runs has a drain, and the copy the rows of the table
pub record CanPrepare {V O : Type 0} (look : V → VolumeSeen) (desk : DeskState V O) (shade : Shade)
    : Type 0 where
  pub drained : HasDrain desk
  pub other : IsOtherCopy look desk shade
  pub rows :
      (t : ℕ → Option Row) → IsTable (row_at (slot_of desk.ground.pages)) t
      → IsTable (row_at (slot_of (shade_slots shade))) t

-- The write of a new copy makes no entry. All is as it was, but for how much of the log is forced,
-- what is kept of the copy, and the volume, where no page of the current copy was written. The
-- pages of the copy that is kept read as they are in memory.
pub record Prepares {V O : Type 0} (look : V → VolumeSeen) (old : DeskState V O)
    (shadow : Option PreparedSeen) (new : DeskState V O) : Type 0 where
  pub same : new ≡ record old { ground = new.ground; shadow = shadow; volume = new.volume }
  pub ground :
      new.ground
      ≡ record old.ground { log = record old.ground.log { forced = new.ground.log.forced } }
  pub calls : CallsOwn (other_of old.copy) (look old.volume) (look new.volume)
  pub sound : SoundThroughout (look old.volume) (look new.volume)
  pub reads :
      IfSome shadow
      (λ p. IfTold (look new.volume).told (ReadsAll (set_of (other_of old.copy)) p.shade.pages))

-- the new copy of these pages, each with this position, which is that of the last record
abbrev pub written_seen : (at : ℕ) → Shade → Option PreparedSeen
written_seen at shade =
    Some (record { shade = record shade { pages = stamped_all at shade.pages }; records = at })

-- a new copy is kept that was written since the last record
pub record HasCurrent {V O : Type 0} (desk : DeskState V O) : Type 0 where
  pub shadow : PreparedSeen
  pub shadow_is : desk.shadow ≡ Some shadow
  pub current : shadow.records ≡ length desk.ground.log.records

-- a new copy of so many pages is kept, which was written since the last record
pub record HasWritten {V O : Type 0} (desk : DeskState V O) (pages : ℕ) : Type 0 where
  pub shadow : PreparedSeen
  pub shadow_is : desk.shadow ≡ Some shadow
  pub current : shadow.records ≡ length desk.ground.log.records
  pub pages_are : length shadow.shade.pages ≡ pages

-- so it is where WRITTEN is said
abbrev pub TellsWritten : {V O : Type 0} → DeskState V O → Event → Type 0
TellsWritten desk (events.Written pages) = HasWritten desk pages
TellsWritten desk event = Unit {0}

-- a layout of the new copy that is kept: it has the copy's pages, and the spots of their rows
abbrev pub IsNewSide : Side → PreparedSeen → Type 0
IsNewSide side p =
    (side.pages ≡ length p.shade.pages) × (side.spots ≡ spots_of (shade_slots p.shade))

-- These are the layouts of the pages of the current copy and of those of the new one that is kept.
-- Both are right for the table.
pub record AreSides {V O : Type 0} (desk : DeskState V O) (sides : Sides) : Type 0 where
  pub old : IsSideOf desk.ground.pages sides.old
  pub new : IfSome desk.shadow (IsNewSide sides.new)
  pub right :
      (t : Table) → IsTable (row_at (slot_of desk.ground.pages)) (row_of t)
      → (is_right_side t sides.old ≡ true) × (is_right_side t sides.new ≡ true)

-- The step of the utility is its switch, by the operator's answer, and a new copy is kept that was
-- written since the last record. Its pages claim no more than the entries have allowed. These are
-- the layouts of the pages of both copies: they are right for the table, the quiet rows lie at home
-- in clustering order, and the new copy is packed where nothing has changed since the utility
-- started.
pub record CanCommit {V O : Type 0} (desk : DeskState V O) (answer : Answer) (sides : Sides)
    : Type 0 where
  pub stage : Stage
  pub stage_is : desk.stage ≡ Some stage
  pub unswitched : stage.switched ≡ false
  pub no_term : is_term answer.command ≡ false
  pub step : step_of (alter (numbers_of stage) answer.command) stage.drain ≡ steps.Switch
  pub shadow : PreparedSeen
  pub shadow_is : desk.shadow ≡ Some shadow
  pub current : shadow.records ≡ length desk.ground.log.records
  pub claims :
      (start : Table) → IsStored (old_records desk) start
      → claimed_all nobody (shade_slots shadow.shade) ≤ allowed_of start desk.trace
  pub as_written : sides.new.pages ≡ stage.shadow
  pub old_side : IsSideOf desk.ground.pages sides.old
  pub new_side : IsNewSide sides.new shadow
  pub right :
      (t : Table) → IsTable (row_at (slot_of desk.ground.pages)) (row_of t)
      → (is_right_side t sides.old ≡ true) × (is_right_side t sides.new ≡ true)
  pub quiet : are_quiet_right (behind [] desk.trace) sides.new.spots ≡ true
  pub packed :
      changes (behind [] desk.trace) ≡ 0
      → (t : Table) → IsTable (row_at (slot_of desk.ground.pages)) (row_of t)
      → is_packed stage.options t sides.new ≡ true

-- what a switch leaves as it was, whether it succeeds or fails
pub record StaysOpened {V O : Type 0} (look : V → VolumeSeen) (old new : DeskState V O) : Type 0
  where
    pub older : new.older ≡ old.older
    pub log_pages : new.ground.log.pages ≡ old.ground.log.pages
    pub opened : new.opened ≡ old.opened
    pub first_copy : new.first_copy ≡ old.first_copy
    pub old_same : old_records new ≡ old_records old
    pub changes : new.changes ≡ old.changes
    pub ring : new.ring ≡ old.ring
    pub feed : new.feed ≡ old.feed
    pub kept : new.kept ≡ None
    pub shadow : new.shadow ≡ None
    pub operator : new.operator ≡ old.operator
    pub calls : CallsLog (look old.volume) (look new.volume)
    pub sound : SoundThroughout (look old.volume) (look new.volume)

-- the pages of a desk are those of this new copy
abbrev pub HasCopy : {V O : Type 0} → DeskState V O → PreparedSeen → Type 0
HasCopy desk p =
    (desk.contents ≡ p.shade.pages) × (desk.ground.capacity ≡ p.shade.capacity)
    × (desk.ground.log.forced ≡ length desk.ground.log.records)

-- A switch has one entry more, with the operator's answer and the number of calls up to it. The
-- desk has the new copy from then on, and no page of it is still to be written: each reads as it is
-- in memory, and did so before the switch. The layouts are those of the pages before and of those
-- now. All records are forced, the Switch record among them. No session has an open unit, before or
-- then.
pub record MadeSwitch {V O : Type 0} (look : V → VolumeSeen) (old : DeskState V O)
    (answer : Answer) (sides : Sides) (new : DeskState V O) : Type 0 where
  pub calls : ℕ
  pub made :
      new.trace
      ≡ old.trace
      ++ utility_entry (events.Switched (other_of old.copy) sides) (Some answer) calls ∷ []
  pub counted : IsCount (look new.volume) calls
  pub stage : Stage
  pub stage_is : new.stage ≡ Some stage
  pub switched : stage.switched ≡ true
  pub copy : new.copy ≡ other_of old.copy
  pub capacity :
      new.ground.capacity ≡ copy_capacity (look old.volume).capacities (other_of old.copy)
  pub down : new.down ≡ false
  pub shadow : PreparedSeen
  pub shadow_is : old.shadow ≡ Some shadow
  pub taken : HasCopy new shadow
  pub clean : AreClean new.contents new.marks
  pub reads : IfTold (look new.volume).told (ReadsAll (set_of new.copy) new.contents)
  pub ready : IfTold (look old.volume).told (ReadsAll (set_of new.copy) new.contents)
  pub old_side : IsSideOf old.ground.pages sides.old
  pub new_side : IsSideOf (slots_of new.contents) sides.new
  pub stays : StaysOpened look old new
  pub records :
      new.ground.log.records
      ≡ old.ground.log.records
      ++ switch_to (length old.ground.log.records + 1) (other_of old.copy)
      (length shadow.shade.pages)
      ∷ []
  pub units : new.ground.units ≡ old.ground.units
  pub idle : (n : ℕ) → unit_at new.ground.units n ≡ None
  pub top : new.ground.top ≡ old.ground.top

-- A switch that failed has one entry more, too. A call has failed, and the desk is down. Units are
-- as they were.
pub record MadeFall {V O : Type 0} (look : V → VolumeSeen) (old : DeskState V O)
    (answer : Answer) (new : DeskState V O) : Type 0 where
  pub calls : ℕ
  pub made :
      new.trace
      ≡ old.trace ++ utility_entry (events.Stop reasons.Device) (Some answer) calls ∷ []
  pub counted : IsCount (look new.volume) calls
  pub stage : new.stage ≡ None
  pub copy : new.copy ≡ old.copy
  pub capacity : new.ground.capacity ≡ old.ground.capacity
  pub marks : new.marks ≡ old.marks
  pub down : new.down ≡ true
  pub device : Rose (look old.volume).faults (look new.volume).faults
  pub stays : StaysOpened look old new
  pub units : new.ground.units ≡ old.ground.units

-- the trace is legal from the table that these records store
abbrev pub LegalFrom : List Record → List Entry → Type 0
LegalFrom old trace = (start : Table) × IsStored old start × Legal start trace

-- it leads to a state that is down
abbrev pub EndsDown : List Record → (copy : ℕ) → List Entry → Type 0
EndsDown old copy trace = (last : State) × EndsIn old copy trace true last

-- It leads to a state that is up, with so many committed rows. Where the log read tidy, whatever a
-- crash leaves of the volume stores these rows.
pub record EndsWithRows
    (old : List Record) (copy pages : ℕ) (seen : VolumeSeen) (trace : List Entry) (rows : ℕ)
    : Type 0 where
  pub last : State
  pub ends : EndsIn old copy trace false last
  pub rows_are : rows ≡ row_count (committed_table last)
  pub stored :
      IfTold seen.told (λ t. WasTidy pages t
      → EachImage (λ i. IsStored (log_of pages i) (committed_table last)) t)

-- It leads from that table, in this copy, to a last state, up or down. Where the log read tidy,
-- whatever a crash leaves of the volume stores a table that process death leaves of that state, and
-- the copy that it makes current is one that process death leaves.
pub record LeavesTable
    (old : List Record) (copy pages : ℕ) (seen : VolumeSeen) (trace : List Entry) : Type 0 where
  pub start : Table
  pub starts : IsStored old start
  pub last : State
  pub run : Run [] (at_rest start copy) trace last
  pub copies : LeavesCopies last seen
  pub left :
      IfTold seen.told (λ t. WasTidy pages t
      → EachImage (λ i. StoresLeft last (log_of pages i)) t)
