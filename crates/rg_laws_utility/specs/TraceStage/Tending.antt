-- What a desk keeps of the utility that runs.
--
-- 1. Whatever state its entries lead to shows the numbers of the utility's stage, and the drain.
-- 2. The changes since the utility started, and the writes of open units, are counted by the
--    entries alone.
-- 3. The numbers are bounded. Once the new copy is written only the drain for ALL is asked or
--    granted, until the copies are switched. From then on no drain is in force.
-- 4. From a utility's start to its switch, 28 bytes of the log are set aside for the record of the
--    switch. That record takes them.
use Rattle.std.specs.Prelude.{◌≡◌, ◌⊎◌, ℕ, Bool, true, false, List, [], Option, Some, None}
use Rattle.std.specs.Prelude.{if◌then◌else◌, length}
use Rattle.std.specs.Coded.{Unit-prop}
use Rattle.rg_base.specs.declared.control.Answer.{Answer}
use Rattle.rg_base.specs.declared.options.DrainFor.TheVariants as what
use Rattle.rg_base.specs.declared.options.DrainState.{DrainState}
use Rattle.rg_base.specs.declared.options.DrainState.TheVariants as drains
use Rattle.rg_base.specs.declared.session.Session.{Session}
use Rattle.rg_feed.specs.declared.fold.item.Stage.{Stage}
use Rattle.rg_model.specs.Run.{Run}
use Rattle.rg_model.specs.State.{State, Table, at_rest}
use Rattle.rg_model.specs.Turn.{Turn, Runs, Switches, Stops, Falls, turn_of}
use Rattle.rg_rules.specs.Stage.Booked.{drain_kept, utility_kept}
use Rattle.rg_rules.specs.Stage.Bounded.{Bounded}
use Rattle.rg_rules.specs.Stage.Followed.{Followed}
use Rattle.rg_rules.specs.Stage.NumbersOf.{numbers_of}
use Rattle.rg_stmt.specs.declared.event.Actor.TheVariants as actors
use Rattle.rg_stmt.specs.declared.event.Entry.{Entry}
use Rattle.rg_stmt.specs.declared.event.Event.{Event}
use Rattle.rg_stmt.specs.declared.event.Event.TheVariants as events
use Rattle.rg_rules.specs.Tally.Changed.{ChangeCount, IsCounted}
use Rattle.rg_model.specs.Run.{behind}

-- the bytes of the log that are set aside for a utility: those of the record of its switch
abbrev pub aside_for : Option Stage → ℕ
aside_for None = 0
aside_for (Some s) = if s.switched then 0 else 28

-- whatever state the entries lead to shows this stage
abbrev pub ShowsStage : List Entry → Option Stage → Type 0
ShowsStage trace stage =
    (start : Table) (copy : ℕ) (st : State) → Run [] (at_rest start copy) trace st
    → (st.utility ≡ utility_kept stage) × (st.drain ≡ drain_kept stage)

-- the drain for ALL is asked or granted
abbrev pub IsForAll : DrainState → Type 0
IsForAll drains.Free = ⊥
IsForAll (drains.Asked what.Writers) = ⊥
IsForAll (drains.Asked what.All) = Unit {0}
IsForAll (drains.Granted what.Writers) = ⊥
IsForAll (drains.Granted what.All) = Unit {0}

-- it has one proof at most, so a ghost field can keep it
pub IsForAll-prop : (drain : DrainState) → IsProp (IsForAll drain)
IsForAll-prop drains.Free = λ x y. absurd x
IsForAll-prop (drains.Asked what.Writers) = λ x y. absurd x
IsForAll-prop (drains.Asked what.All) = Unit-prop
IsForAll-prop (drains.Granted what.Writers) = λ x y. absurd x
IsForAll-prop (drains.Granted what.All) = Unit-prop

-- The numbers are bounded. Between the writing of the new copy and the switch the drain for ALL is
-- asked or granted; after the switch no drain is in force.
pub record IsKeptUtility (all entries : ℕ) (s : Stage) : Type 0 where
  pub bounded : Bounded all entries s
  pub for_all : s.written ≡ true → s.switched ≡ false → IsForAll s.drain
  pub free : s.switched ≡ true → s.drain ≡ drains.Free

-- what is kept of the stage, if a utility runs
abbrev pub IsKeptStage : (all entries : ℕ) → Option Stage → Type 0
IsKeptStage all entries None = Unit {0}
IsKeptStage all entries (Some s) = IsKeptUtility all entries s

-- a desk with these entries keeps this stage and these counts, and holds so many bytes of the log
pub record Tends (trace : List Entry) (stage : Option Stage) (changes : ChangeCount) (set_aside : ℕ)
    : Type 0 where
  pub shows : ShowsStage trace stage
  pub counted : IsCounted (behind [] trace) changes
  pub within : IsKeptStage changes.since (length trace) stage
  pub aside_is : set_aside ≡ aside_for stage

-- the entry of an event of the system
abbrev pub system_entry : Event → (calls : ℕ) → Entry
system_entry event calls =
    record { actor = actors.System; event = event; answer = None; calls = calls }

-- the entry of an event of the utility
abbrev pub utility_entry : Event → Option Answer → (calls : ℕ) → Entry
utility_entry event answer calls =
    record { actor = actors.Utility; event = event; answer = answer; calls = calls }

-- an event of a running utility that the desk books as a step: a page is copied, and the copies are
-- switched, by calls of their own
abbrev pub is_booked : Event → Bool
is_booked (events.Reload page rows) = true
is_booked (events.Sort which) = true
is_booked (events.Build which) = true
is_booked (events.Log iteration took left verdict) = true
is_booked (events.Wait session) = true
is_booked (events.Granted drain) = true
is_booked (events.GiveUp count) = true
is_booked (events.Last took left) = true
is_booked (events.Written pages) = true
is_booked events.Ended = true
is_booked (events.Stop reason) = true
is_booked event = false

-- the event is the utility's next, and neither switches nor brings the engine down
abbrev pub is_plain : Option Turn → Bool
is_plain None = false
is_plain (Some (Runs u drain)) = true
is_plain (Some (Switches copy sides u)) = false
is_plain (Some Stops) = true
is_plain (Some Falls) = false

-- The event is the utility's next, and plain: of a desk that is up or down, with this stage and so
-- many changes, where this session is the least that is in the drain's way.
abbrev pub NextBy :
    (down : Bool) → Option Stage → (changes : ℕ) → (covered : Option Session) → Option Answer
    → Event → Type 0
NextBy true stage changes covered None events.StepDown = Unit {0}
NextBy false None changes covered None events.Idle = Unit {0}
NextBy false (Some s) changes covered (Some answer) event =
    (is_booked event ≡ true)
    × (is_plain (turn_of changes covered answer (numbers_of s) s.drain event) ≡ true)
NextBy down stage changes covered answer event = ⊥

-- the stage that such an event leaves
abbrev pub FollowsBy :
    (down : Bool) → Option Stage → (changes : ℕ) → (covered : Option Session) → Option Answer
    → Event → Option Stage → Type 0
FollowsBy false (Some s) changes covered (Some answer) event new =
    (turn : Turn) → turn_of changes covered answer (numbers_of s) s.drain event ≡ Some turn
    → Followed turn new
FollowsBy down stage changes covered answer event new = new ≡ stage

-- A drain may be in force next: one that is granted was granted before, or was asked and no session
-- is in its way.
abbrev pub MayDrain : (old : DrainState) → (blocker : Option Session) → (new : DrainState) → Type 0
MayDrain old blocker (drains.Granted what) =
    (old ≡ drains.Granted what) ⊎ ((old ≡ drains.Asked what) × (blocker ≡ None))
MayDrain old blocker new = Unit {0}

-- a layout or a flush
abbrev pub IsSystem : Event → Type 0
IsSystem (events.Layout shown side) = Unit {0}
IsSystem events.LayoutNoMemory = Unit {0}
IsSystem events.LayoutDown = Unit {0}
IsSystem (events.Flush page) = Unit {0}
IsSystem events.Clean = Unit {0}
IsSystem events.FlushDevice = Unit {0}
IsSystem events.FlushDown = Unit {0}
IsSystem events.FlushNoMemory = Unit {0}
IsSystem event = ⊥

-- a control statement or a step that was refused
abbrev pub IsRefusedEvent : Event → Type 0
IsRefusedEvent events.Active = Unit {0}
IsRefusedEvent (events.StartLogFull need left) = Unit {0}
IsRefusedEvent events.StartDown = Unit {0}
IsRefusedEvent events.StartNoMemory = Unit {0}
IsRefusedEvent events.Idle = Unit {0}
IsRefusedEvent events.StepDown = Unit {0}
IsRefusedEvent event = ⊥
