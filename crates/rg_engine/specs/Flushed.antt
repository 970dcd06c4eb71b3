-- What a flush does.
--
-- 1. The least page that is not clean is written to the copy's set. The log is forced first, where
--    the page's position is not forced yet.
-- 2. CLEAN is answered if and only if there is none. Then no call is made.
-- 3. Where a call fails the page is not clean, and the engine stays up.
-- 4. The engine is as before, but for how much of its log is forced.
-- 5. What a crash leaves at each moment of it is sound. Of the log it leaves a part that has all
--    that was forced before.
use Rattle.std.specs.Prelude.{◌≡◌, ◌≤◌, ◌⊎◌, ℕ, Bool, true, false, List, ◌∷◌, Option, Some, length}
use Rattle.rg_base.specs.Copies.{set_of}
use Rattle.rg_base.specs.declared.position.Position.{Position}
use Rattle.rg_base.specs.declared.set.Set.{Set}
use Rattle.rg_base.specs.declared.set.Set.TheVariants.{Log}
use Rattle.rg_outside.specs.Calls.{Call, Told, Wrote, FailedWrite, Read, Synced, FailedRead}
use Rattle.rg_outside.specs.Calls.{FailedSync, Refused, read_of}
use Rattle.rg_outside.specs.Faults.{Rose}
use Rattle.rg_outside.specs.Moments.{EachCall, EachImage, HoldsThroughout, IfTold}
use Rattle.rg_image.specs.Kept.{AreEntries}
use Rattle.rg_image.specs.Log.{SpellsFrom}
use Rattle.rg_image.specs.Pack.{end_of, start}
use Rattle.rg_log.specs.Kept.{Listed, log_pages}
use Rattle.rg_model.specs.State.{State}
use Rattle.rg_page.specs.Content.{Content, content_at}
use Rattle.rg_page.specs.Bytes.PageBytes.{page_bytes}
use Rattle.rg_space.specs.Space.{capacity_in}
use Rattle.rg_stmt.specs.declared.event.Event.{Event}
use Rattle.rg_stmt.specs.declared.event.Event.TheVariants.{Clean, Flush, FlushDevice, FlushDown}
use Rattle.rg_stmt.specs.declared.event.Event.TheVariants.{FlushNoMemory}
use Rattle.rg_laws_crash.specs.PageVersions.Versions.{Spells}
use Rattle.rg_engine.specs.Engine.{seen_in}
use Rattle.rg_engine.specs.OnVolume.{AreClean, IsLeastDirty, IsOnVolume, SoundThroughout}
use Rattle.rg_engine.specs.OnVolume.{is_clean_at, mark_at}
use Rattle.rg_engine.specs.Shows.{Shows}
use Rattle.rg_engine.specs.Volume.{CallsLog, Leaves, LeavesIfTidy}
use Rattle.rg_outside.specs.Volume.{VolumeSeen}
use Rattle.rg_engine.specs.declared.engine.Engine.{Engine}

-- a call that writes no page but of the log's set or of this one
abbrev pub WritesEither : Set → Call → Type 0
WritesEither set (Wrote s page bytes) = (s ≡ Log) ⊎ (s ≡ set)
WritesEither set (FailedWrite s page bytes reads) = (s ≡ Log) ⊎ (s ≡ set)
WritesEither set Read = Unit {0}
WritesEither set Synced = Unit {0}
WritesEither set FailedRead = Unit {0}
WritesEither set FailedSync = Unit {0}
WritesEither set Refused = Unit {0}

-- calls that write no page but of the log or of this copy
pub record CallsOwn (copy : ℕ) (old new : VolumeSeen) : Type 0 where
  pub only : EachCall old.told new.told (WritesEither (set_of copy))
  pub later : old.faults ≤ new.faults
  pub capacities : new.capacities ≡ old.capacities

-- the page was written by the last of the calls made since, which succeeded, and reads as it is in
-- memory
pub record WrotePage (old : Option Told) (set : Set) (page : ℕ) (x : Content) (t : Told) : Type 0
  where
    pub before : List Call
    pub last : t.calls ≡ Wrote set page (page_bytes x) ∷ before
    pub since : IfTold old (λ o. length o.calls ≤ length before)
    pub reads : Spells (read_of t.first t.calls set page) x

-- each page reads as it is in memory
abbrev pub ReadsAll : Set → List Content → Told → Type 0
ReadsAll set contents t =
    (p : ℕ) → 1 ≤ p → p ≤ length contents
    → Spells (read_of t.first t.calls set p) (content_at contents p)

-- the mark of a page is this position, and no other has changed
pub record MarksPage (page position : ℕ) (old new : List (Option Position)) : Type 0 where
  pub here : mark_at new page ≡ Some (record { 0 = position })
  pub others : (p : ℕ) → 1 ≤ p → (p ≡ page → ⊥) → mark_at new p ≡ mark_at old p

-- the marks of all pages are as they were
abbrev pub SameMarks : (old new : List (Option Position)) → Type 0
SameMarks old new = (p : ℕ) → 1 ≤ p → mark_at new p ≡ mark_at old p

-- the least page that is not clean is still not clean, and no other mark has changed
pub record StaysDirty (contents : List Content) (old new : List (Option Position)) : Type 0 where
  pub page : ℕ
  pub least : IsLeastDirty contents old page
  pub dirty : is_clean_at contents new page ≡ false
  pub others : (p : ℕ) → 1 ≤ p → (p ≡ page → ⊥) → mark_at new p ≡ mark_at old p

-- what a flush answers, over these pages of a copy
abbrev pub IsFlush :
    (copy : ℕ) → List Content → (marks later : List (Option Position)) → (old new : VolumeSeen)
    → Event → Type 0
IsFlush copy contents marks later old new (Flush page) =
    IsLeastDirty contents marks page
    × MarksPage page (content_at contents page).position marks later
    × IfTold new.told (WrotePage old.told (set_of copy) page (content_at contents page))
IsFlush copy contents marks later old new Clean =
    AreClean contents marks × (new ≡ old) × IfTold new.told (ReadsAll (set_of copy) contents)
    × SameMarks marks later
IsFlush copy contents marks later old new FlushDevice =
    Rose old.faults new.faults × StaysDirty contents marks later
IsFlush copy contents marks later old new FlushNoMemory =
    (new ≡ old) × SameMarks marks later
IsFlush copy contents marks later old new event = ⊥

-- what it answers of an engine that is up, or down
abbrev pub FlushIs :
    (down : Bool) → (copy : ℕ) → List Content → (marks later : List (Option Position))
    → (old new : VolumeSeen) → Event → Type 0
FlushIs true copy contents marks later old new event =
    (event ≡ FlushDown) × (new ≡ old) × (later ≡ marks)
FlushIs false copy contents marks later old new event =
    IsFlush copy contents marks later old new event

-- the engine is as before, but for how much of its log is forced
pub record OnlyForces (old new : Engine) : Type 0 where
  pub log : new.log ≡ record old.log { forced = new.log.forced }
  pub contents : (seen_in new).pages ≡ (seen_in old).pages
  pub capacity : capacity_in new.space ≡ capacity_in old.space
  pub units : new.units ≡ old.units
  pub top : new.top ≡ old.top
  pub opened : new.opened ≡ old.opened
  pub set_aside : new.set_aside ≡ old.set_aside
  pub further : old.log.forced ≤ new.log.forced
  pub shows : (st : State) (allowed : ℕ) → Shows st allowed old → Shows st allowed new

-- the records of a log are entries that fit its set, which has so many pages
pub record FitsSet (seen : VolumeSeen) (log : Listed) : Type 0 where
  pub entries : AreEntries log.records
  pub set : 1 ≤ length log.records → (end_of start log.records).page ≤ log.pages
  pub pages : log.pages ≡ log_pages seen.capacities

-- the log was forced further, and nothing else has changed
pub record ForcesLog (before now : VolumeSeen) (old new : Engine) : Type 0 where
  pub same : new ≡ record old { log = record old.log { forced = new.log.forced } }
  pub further : old.log.forced ≤ new.log.forced
  pub within : new.log.forced ≤ length new.log.records
  pub calls : CallsLog before now
  pub leaves : Leaves before old.log → Leaves now new.log
  pub through :
      Leaves before old.log
      → HoldsThroughout before.told now.told
      (EachImage (SpellsFrom old.log.pages old.log.records old.log.forced))

-- what a flush does to an engine and to marks, over a volume
pub record Flushes (copy : ℕ) (marks later : List (Option Position)) (before now : VolumeSeen)
    (old : Engine) (event : Event) (new : Engine) : Type 0 where
  pub forces : OnlyForces old new
  pub calls : CallsOwn copy before now
  pub leaves : Leaves before old.log → Leaves now new.log
  pub through :
      Leaves before old.log
      → HoldsThroughout before.told now.told
      (EachImage (SpellsFrom old.log.pages old.log.records old.log.forced))
  pub is_on : IsOnVolume copy new.log new.space later now
  pub sound : FitsSet before old.log → LeavesIfTidy before old.log → SoundThroughout before now
  pub is : IsFlush copy (seen_in old).pages marks later before now event

-- A flush is answered DOWN if and only if the engine is down. Then nothing changes.
abbrev pub TellsFlush :
    (down : Bool) → (copy : ℕ) → (marks later : List (Option Position)) → (before now : VolumeSeen)
    → Engine → Event → Engine → Type 0
TellsFlush true copy marks later before now old event new =
    (event ≡ FlushDown) × (new ≡ old) × (later ≡ marks) × (now ≡ before)
TellsFlush false copy marks later before now old event new =
    Flushes copy marks later before now old event new
