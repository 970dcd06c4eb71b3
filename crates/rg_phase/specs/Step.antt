-- What a step of the utility leaves of a desk.
--
-- 1. The operator is asked once, unless no utility runs or the desk is down. It is told how many
--    changes are left.
-- 2. Then one entry is made, with the answer. Its event is the utility's next.
-- 3. SWITCHED makes the other copy the current one. Its pages are those of the new copy that the
--    desk had kept, and they read so, before the step and after it. The layouts are those of the
--    pages before and of these.
-- 4. A step that writes the new copy, or switches to it, writes no page but those of the log and of
--    the other copy. No other step calls the volume, nor one where no utility runs. At WRITTEN a
--    new copy is kept, of as many pages, which read so, and the log has no record more since.
-- 5. STOP DEVICE stands in it only where a call of the volume failed in this step, and only then
--    does the step bring the desk down.
-- 6. RELOAD fills a page only where it, and the empty one that is due after it, are among those
--    that the other copy may have. Before the first list is sorted, STOP NOSPACE stands in it only
--    where one of them is not. Once all rows are reloaded it stands only where what was sent weighs
--    3,221 bytes for each page that the other copy may have. What that is to the utility is told of
--    the desk before.
-- 7. The event tells what is made of the new copy: the rows of a page, a list, an index, or how
--    many changes.
use Rattle.std.specs.Prelude.{◌≡◌, ◌⊎◌, ◌++◌, ◌≤◌, ◌<◌, ◌+◌, ◌*◌, ℕ, Bool, true, false, List, []}
use Rattle.std.specs.Prelude.{◌∷◌, Option, Some, None, IfSome, is_some, length}
use Rattle.rg_base.specs.declared.control.Answer.{Answer}
use Rattle.rg_base.specs.declared.session.Session.{Session}
use Rattle.rg_base.specs.declared.verdict.StopReason.TheVariants as reasons
use Rattle.rg_laws_utility.specs.Course.Loading.{IsLoaded, loading_after, loading_of}
use Rattle.rg_desk.specs.Desk.{DeskState, FeedIs, HasCopy, left_to_take, old_records}
use Rattle.rg_engine.specs.Flushed.{CallsOwn, ReadsAll}
use Rattle.rg_engine.specs.Layouts.{IsSideOf}
use Rattle.rg_engine.specs.OnVolume.{AreClean}
use Rattle.rg_engine.specs.Prepared.{PreparedSeen}
use Rattle.rg_engine.specs.Volume.{IsCount}
use Rattle.rg_outside.specs.Volume.{VolumeSeen}
use Rattle.rg_feed.specs.declared.fold.item.Stage.{Stage}
use Rattle.rg_image.specs.Rules.{copy_capacity}
use Rattle.rg_model.specs.Packed.{page_count}
use Rattle.rg_model.specs.Turn.{turn_of}
use Rattle.rg_outside.specs.Faults.{Rose}
use Rattle.rg_outside.specs.Moments.{IfTold}
use Rattle.rg_outside.specs.Told.{AddsAnswer, HandsOver}
use Rattle.rg_page.specs.Content.{slots_of}
use Rattle.rg_phase.specs.Made.{IsAsMade}
use Rattle.rg_phase.specs.declared.made.Made.{Made}
use Rattle.rg_laws_utility.specs.CopyWeight.Weighed.{weigh_feed}
use Rattle.rg_rules.specs.Stage.NumbersOf.{numbers_of}
use Rattle.rg_stmt.specs.declared.event.Event.{Event}
use Rattle.rg_stmt.specs.declared.event.Event.TheVariants as events
use Rattle.rg_stmt.specs.declared.layout.Sides.{Sides}
use Rattle.rg_base.specs.Copies.{other_of, set_of}
use Rattle.rg_laws_utility.specs.TraceStage.Tending.{is_booked, utility_entry}

-- STOP DEVICE
abbrev pub is_device_stop : Event → Bool
is_device_stop (events.Stop reasons.Device) = true
is_device_stop event = false

-- the operator was asked if there is an answer, and was told how many changes are left
abbrev pub AsksOnce :
    {O : Type 0} → (answers : O → Option (List Answer)) → (last : O → Option ℕ) → (left : ℕ) → O
    → Option Answer → O → Type 0
AsksOnce answers last left old None new = new ≡ old
AsksOnce answers last left old (Some answer) new =
    AddsAnswer (answers old) answer (answers new) × HandsOver left (answers new) (last new)

-- an event of a utility that runs: UNLOAD, the switch, or another one
abbrev pub is_made : Event → Bool
is_made (events.Unload page rows) = true
is_made (events.Switched copy sides) = true
is_made event = is_booked event

-- The event is the next one of a desk that is up or down, with this stage and so many changes,
-- where this session is the least that is in the drain's way.
abbrev pub NextMade :
    (down : Bool) → Option Stage → (changes : ℕ) → (covered : Option Session) → Option Answer
    → Event → Type 0
NextMade true stage changes covered None events.StepDown = Unit {0}
NextMade false None changes covered None events.Idle = Unit {0}
NextMade false (Some s) changes covered (Some answer) event =
    (is_made event ≡ true)
    × (is_some (turn_of changes covered answer (numbers_of s) s.drain event) ≡ true)
NextMade down stage changes covered answer event = ⊥

-- the copy that is current after such an event
abbrev pub copy_left : (copy : ℕ) → Event → ℕ
copy_left copy (events.Switched to sides) = to
copy_left copy event = copy

-- a switch is to the other copy
abbrev pub IsSwitchFrom : (copy : ℕ) → Event → Type 0
IsSwitchFrom copy (events.Switched to sides) = to ≡ other_of copy
IsSwitchFrom copy event = Unit {0}

-- a new copy of so many pages is kept that was written since the last record, and they read as they
-- are in memory
pub record KeepsWritten {V O : Type 0} (look : V → VolumeSeen) (pages : ℕ) (desk : DeskState V O)
    : Type 0 where
  pub shadow : PreparedSeen
  pub shadow_is : desk.shadow ≡ Some shadow
  pub current : shadow.records ≡ length desk.ground.log.records
  pub pages_are : length shadow.shade.pages ≡ pages
  pub reads :
      IfTold (look desk.volume).told (ReadsAll (set_of (other_of desk.copy)) shadow.shade.pages)

-- The desk turned to the new copy that it had kept, whose pages read as they are in memory, and did
-- so before. The layouts are those of the pages before and of these.
pub record Switches {V O : Type 0} (look : V → VolumeSeen) (old : DeskState V O) (sides : Sides)
    (new : DeskState V O) : Type 0 where
  pub shadow : PreparedSeen
  pub shadow_is : old.shadow ≡ Some shadow
  pub taken : HasCopy new shadow
  pub reads : IfTold (look new.volume).told (ReadsAll (set_of new.copy) new.contents)
  pub ready : IfTold (look old.volume).told (ReadsAll (set_of new.copy) new.contents)
  pub old_side : IsSideOf old.ground.pages sides.old
  pub new_side : IsSideOf (slots_of new.contents) sides.new

-- what an event tells of the new copy that is kept
abbrev pub TellsCopy :
    {V O : Type 0} → (look : V → VolumeSeen) → (old new : DeskState V O) → Event → Type 0
TellsCopy look old new (events.Written pages) = KeepsWritten look pages new
TellsCopy look old new (events.Switched to sides) = Switches look old sides new
TellsCopy look old new event = Unit {0}

-- A switch leaves a desk whose pages read as they are in memory. At any other event the pages and
-- their marks are as they were.
abbrev pub KeepsPages : {V O : Type 0} → (old new : DeskState V O) → Event → Type 0
KeepsPages old new (events.Switched to sides) = AreClean new.contents new.marks
KeepsPages old new event = (new.contents ≡ old.contents) × (new.marks ≡ old.marks)

-- the volume may be called for this event
abbrev pub may_call : Event → Bool
may_call (events.Written pages) = true
may_call (events.Switched to sides) = true
may_call (events.Stop reasons.Device) = true
may_call event = false

-- One entry was made, with this event and answer, and the number of calls up to it.
pub record Makes {V O : Type 0} (look : V → VolumeSeen) (old : DeskState V O)
    (answer : Option Answer) (event : Event) (new : DeskState V O) : Type 0 where
  pub calls : ℕ
  pub made : new.trace ≡ old.trace ++ utility_entry event answer calls ∷ []
  pub counted : IsCount (look new.volume) calls
  pub copy : new.copy ≡ copy_left old.copy event
  pub ring : new.ring ≡ old.ring
  pub to : IsSwitchFrom old.copy event
  pub capacity :
      (new.ground.capacity ≡ old.ground.capacity)
      ⊎ (new.ground.capacity
      ≡ copy_capacity (look old.volume).capacities (other_of old.copy))
  pub down :
      new.down ≡ true
      → (old.down ≡ true) ⊎ Rose (look old.volume).faults (look new.volume).faults
  pub stays_down : old.down ≡ true → new.down ≡ true
  pub device :
      is_device_stop event ≡ true → Rose (look old.volume).faults (look new.volume).faults
  pub quiet : may_call event ≡ false → new.volume ≡ old.volume
  pub told : TellsCopy look old new event
  pub pages : new.down ≡ false → KeepsPages old new event
  pub runs : is_some new.stage ≡ true → is_some old.stage ≡ true
  pub kept : new.kept ≡ None
  pub operator : new.operator ≡ old.operator
  pub older : new.older ≡ old.older
  pub log_pages : new.ground.log.pages ≡ old.ground.log.pages
  pub opened : new.opened ≡ old.opened
  pub first_copy : new.first_copy ≡ old.first_copy
  pub old_same : old_records new ≡ old_records old

-- what it called: nothing, or as far as a utility may that runs
abbrev pub StepCalls :
    {V O : Type 0} → (look : V → VolumeSeen) → DeskState V O → Option Answer → DeskState V O
    → Type 0
StepCalls look old None new = new.volume ≡ old.volume
StepCalls look old (Some answer) new =
    (is_some old.stage ≡ true)
    × CallsOwn (other_of old.copy) (look old.volume) (look new.volume)

-- This event of a utility at this stage is as the other copy has room, which may have so many
-- pages. What was sent weighs so much.
abbrev pub HasPagesFor : (capacity weight : ℕ) → Stage → Event → Type 0
HasPagesFor capacity weight s (events.Reload page rows) =
    (s.switched ≡ false) × (page_count s.options.freepage (s.filled + 1) ≤ capacity)
HasPagesFor capacity weight s (events.Stop reasons.NoSpace) =
    (s.switched ≡ false)
    × (s.sorted ≡ 0 → capacity < page_count s.options.freepage (s.filled + 1))
    × (s.unloaded ≤ s.reloaded → 3221 * capacity ≤ weight)
HasPagesFor capacity weight s event = Unit {0}

-- The same, where one runs. How far the new copy is filled is told by the event, up to the switch.
-- All rows are reloaded once a list is sorted, if they were before.
pub record Loads {V O : Type 0} (look : V → VolumeSeen) (old : DeskState V O) (event : Event)
    (new : DeskState V O) : Type 0 where
  pub space :
      IfSome old.stage
      (λ s. HasPagesFor (copy_capacity (look old.volume).capacities (other_of old.copy))
      (weigh_feed old.feed) s event)
  pub shows :
      IfSome old.stage (λ s. IfSome new.stage (λ t.
      t.switched ≡ false
      → (s.switched ≡ false)
      × (loading_of new.copy (numbers_of t)
      ≡ loading_after (loading_of old.copy (numbers_of s)) event)
      × (IsLoaded (numbers_of s) → IsLoaded (numbers_of t))))

-- A utility runs, and the operator has given this answer. This is made of the new copy, with so
-- many changes.
pub record Acts {V O : Type 0} (look : V → VolumeSeen) (old : DeskState V O) (answer : Answer)
    (made_of : Made) (taken : ℕ) (new : DeskState V O) : Type 0 where
  pub event : Event
  pub told : IsAsMade made_of old.stage taken event
  pub next : NextMade old.down old.stage old.changes old.covered (Some answer) event
  pub made : Makes look old (Some answer) event new
  pub loads : Loads look old event new
  pub only : StepCalls look old (Some answer) new

pub record Stepped {V O : Type 0} (look : V → VolumeSeen) (answers : O → Option (List Answer))
    (last : O → Option ℕ) (old : DeskState V O) (made_of : Made) (taken : ℕ)
    (new : DeskState V O) : Type 0 where
  pub answer : Option Answer
  pub event : Event
  pub told : IsAsMade made_of old.stage taken event
  pub next : NextMade old.down old.stage old.changes old.covered answer event
  pub asked : DeskState V O
  pub same :
      asked ≡ record old { spare = asked.spare; kept = answer; operator = asked.operator }
  pub operator : AsksOnce answers last (left_to_take old) old.operator answer asked.operator
  pub made : Makes look asked answer event new
  pub loads : Loads look old event new
  pub only : StepCalls look old answer new
  pub feed : old.down ≡ false → FeedIs old
