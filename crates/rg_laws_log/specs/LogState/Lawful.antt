-- What each act owes to the state that it finds.
--
-- 1. A Purge frees dead areas of ended units on one page. It may spare more units than are live,
--    as the unit that is about to begin.
-- 2. A Change is by a live unit, or by a new one with the next number, and not by one that has
--    begun to be undone. Its parts fit the pages that it finds, bring its row to its home, leave
--    every other row, and keep the areas of other units. No other live unit has written at its
--    home, or its key. Its row before is the row that is there.
-- 3. An Undo undoes the latest write of its unit, by the plan of that undo. A unit commits if it
--    has not begun to be undone, and has its RollBack once no write of it is left.
-- 4. A Switch comes while no unit is live. Its pages have the rows that are there.
-- 5. From a state that is consistent, such an act leads to one (`RecordsKeep`).
use Rattle.std.specs.Prelude.{◌≡◌, ◌≤◌, ◌⊎◌, ℕ, suc, true, false, List, [], ◌∷◌, length, Option}
use Rattle.std.specs.Prelude.{Some, None}
use Rattle.rg_base.specs.declared.place.Place.{Place}
use Rattle.rg_base.specs.declared.row.Row.{Row as TableRow}
use Rattle.rg_base.specs.declared.part.Part.{Part}
use Rattle.rg_home.specs.Slot.{Slot}
use Rattle.rg_home.specs.Rows.{row_at, ChangesHome}
use Rattle.rg_home.specs.Pages.{slot_of, applied, row_or_empty, FitsAll, TakesAll}
use Rattle.rg_home.specs.Plan.{purge_of}
use Rattle.rg_home.specs.Written.{Written}
use Rattle.rg_home.specs.Able.{Undoable, IsLive, HomeOf, Proper}
use Rattle.rg_home.specs.Undo.{planned_undo}
use Rattle.rg_laws_pages.specs.UndoRoom.Areas.{KeepsAreas}
use Rattle.rg_laws_pages.specs.UndoRoom.Dead.{DeadNames}
use Rattle.rg_laws_log.specs.LogState.Write.{Write, at_key, HitBy, latest_of, written_of, OfKey}
use Rattle.rg_home.specs.Table.{IsTable}
use Rattle.rg_laws_log.specs.LogState.Act.{Act, LogState, is_in, state}
use Rattle.rg_laws_log.specs.LogState.Act.{Purge, Change, Undo, Commit, RollBack, Switch}
use Rattle.rg_home.specs.Owners.{AllBelow}

-- the pages after the parts of a write
abbrev pub pages_with : List (List Slot) → Written → Option TableRow → List (List Slot)
pages_with pages c after = applied c.owner (row_or_empty after) pages c.parts

-- what the parts of a write make of the pages that its act finds, for these live units
pub record Makes
    (limit : ℕ) (live : List ℕ) (pages : List (List Slot)) (c : Written) (after : Option TableRow)
    : Type 0 where
  pub before : c.before ≡ row_at (slot_of pages) c.home
  pub fits : FitsAll c.owner (row_or_empty after) limit pages c.parts
  pub takes : TakesAll after c.parts
  pub changes : ChangesHome (slot_of pages) (slot_of (pages_with pages c after)) c.home after
  pub own : Undoable (Some c.owner) (slot_of (pages_with pages c after)) c
  pub areas :
      (u : ℕ) (p : Place) → (p ≡ c.home → u ≡ c.owner)
      → KeepsAreas (Some u) p (slot_of pages) (slot_of (pages_with pages c after))
  pub names :
      DeadNames live (slot_of pages) → DeadNames live (slot_of (pages_with pages c after))

-- a live unit that has not begun to be undone
abbrev pub IsOpen : LogState → ℕ → Type 0
IsOpen s t = IsLive s.live t × (is_in t s.rolling ≡ false)

-- such a unit, or the unit of the next number
pub record MayBegin (s : LogState) (t : ℕ) : Type 0 where
  pub number : IsLive s.live t ⊎ (t ≡ suc s.top)
  pub steady : is_in t s.rolling ≡ false

-- what a Change owes: its unit, its parts, its locks, and its rows
pub record MayWrite (limit : ℕ) (s : LogState) (w : Write) : Type 0 where
  pub unit : MayBegin s w.written.owner
  pub makes : Makes limit (w.written.owner ∷ s.live) s.pages w.written w.after
  pub home : HomeOf w.written.owner w.written.home (written_of s.writes)
  pub key : HitBy w.written.owner (at_key w.key) s.writes
  pub present : s.now w.key ≡ w.written.before
  pub of_key : OfKey w

-- what a Purge owes: it is that of one page, and spares all live units
pub record MayPurge (s : LogState) (parts : List Part) : Type 0 where
  pub more : List ℕ
  pub page : ℕ
  pub low : 1 ≤ page
  pub spares : (u : ℕ) → IsLive s.live u → IsLive more u
  pub is : parts ≡ purge_of more s.pages page true

-- what an Undo owes: it is that of the unit's latest write
pub record MayUndo
    (s : LogState) (t : ℕ) (home : Place) (after : Option TableRow) (parts : List Part)
    : Type 0 where
  pub write : Write
  pub latest : latest_of t s.writes ≡ Some write
  pub at : home ≡ write.written.home
  pub row : after ≡ write.written.before
  pub is : parts ≡ (planned_undo s.pages write.written).parts

-- what a Switch owes: no unit is live, and the new pages have the rows that are there
pub record MaySwitch (limit : ℕ) (s : LogState) (pages : List (List Slot)) : Type 0 where
  pub quiet : (u : ℕ) → IsLive s.live u → ⊥
  pub proper : Proper pages
  pub few : length pages ≤ limit
  pub below : AllBelow s.top (slot_of pages)
  pub table : IsTable (row_at (slot_of pages)) s.now

-- what an act owes to the state that it finds
abbrev pub Lawful : ℕ → LogState → Act → Type 0
Lawful limit s (Purge parts) = MayPurge s parts
Lawful limit s (Change w) = MayWrite limit s w
Lawful limit s (Undo t home after parts) = MayUndo s t home after parts
Lawful limit s (Commit t) = IsOpen s t
Lawful limit s (RollBack t) = IsLive s.live t × (latest_of t s.writes ≡ None)
Lawful limit s (Switch pages) = MaySwitch limit s pages

-- each act is lawful where it stands, from this first state on
abbrev pub Runs : ℕ → LogState → List Act → Type 0
Runs limit first [] = Unit {0}
Runs limit first (a ∷ acts) = Lawful limit (state first acts) a × Runs limit first acts

-- the parts of an act fit the pages that it finds, and the row that it brings has room
abbrev pub ActFits : ℕ → LogState → Act → Type 0
ActFits limit s (Purge parts) =
    FitsAll 0 (row_or_empty None) limit s.pages parts × TakesAll None parts
ActFits limit s (Change w) =
    FitsAll w.written.owner (row_or_empty w.after) limit s.pages w.written.parts
    × TakesAll w.after w.written.parts
ActFits limit s (Undo t home after parts) =
    FitsAll t (row_or_empty after) limit s.pages parts × TakesAll after parts
ActFits limit s (Commit t) = Unit {0}
ActFits limit s (RollBack t) = Unit {0}
ActFits limit s (Switch pages) = Unit {0}
