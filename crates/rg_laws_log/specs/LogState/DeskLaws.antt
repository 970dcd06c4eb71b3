-- What a desk appends for a write is lawful.
--
-- 1. The plans of a put, a change and a drop make Changes that the invariant can take, on the pages
--    that their purge leaves (`PlansMake`).
-- 2. A key that no other live unit has written gives the home of its row (`LocksGive`).
-- 3. So from a consistent state, a unit's number and its lock by key, the Purge of a plan is
--    lawful, and then the Change (`DesksWrite`). The purge of a plan may be empty: then its Purge
--    leaves the very same state, and is not appended (`EmptyPurgeStays`).
-- 4. The desk may plan for any list of units that has the unit and all that are live, and no other.
use Rattle.std.specs.Prelude.{◌≡◌, ◌≤◌, ℕ, true, List, [], ◌∷◌, length, Option, Some, None, IfSome}
use Rattle.rg_base.specs.RowBytes.{row_size}
use Rattle.rg_base.specs.declared.place.Place.{Place}
use Rattle.rg_base.specs.declared.row.Row.{Row as TableRow}
use Rattle.rg_base.specs.declared.part.Part.{Part}
use Rattle.rg_home.specs.Slot.{Slot}
use Rattle.rg_home.specs.Slot.{Free}
use Rattle.rg_home.specs.Rows.{row_at}
use Rattle.rg_home.specs.Pages.{slot_of, applied, row_or_empty}
use Rattle.rg_home.specs.Plan.{is_home, new_area, planned_put, planned_change, planned_drop}
use Rattle.rg_home.specs.Plan.{purge_of, pages_after}
use Rattle.rg_home.specs.declared.plan.Plan.{Plan}
use Rattle.rg_home.specs.Written.{Written}
use Rattle.rg_home.specs.Able.{IsLive, HomeOf}
use Rattle.rg_laws_pages.specs.UndoRoom.Laws.{change_of}
use Rattle.rg_laws_pages.specs.UndoRoom.Ready.{Ready}
use Rattle.rg_laws_log.specs.LogState.Write.{at_key, HitBy, write_of, written_of}
use Rattle.rg_laws_log.specs.LogState.Act.{Act, LogState, state, step}
use Rattle.rg_laws_log.specs.LogState.Act.{Purge, Change}
use Rattle.rg_laws_log.specs.LogState.Lawful.{Makes, MayBegin, Lawful, Runs}
use Rattle.rg_laws_log.specs.LogState.Consistent.{IsConsistent}

-- the plans make writes that the invariant can take, on the pages that their purge leaves
pub record PlansMake : Type 0 where
  pub put :
      (t limit : ℕ) (live : List ℕ) (base : Place → Option TableRow) (pages : List (List Slot))
      (cs : List Written) (after : TableRow) (capacity : ℕ)
      → Ready live pages cs base → row_size after ≤ 4046 → capacity ≤ limit
      → IfSome (planned_put live (row_size after) pages
      (new_area live (row_size after) capacity pages))
      (λ plan. Makes limit live (applied t after pages plan.purge)
      (change_of t plan.home None plan.parts) (Some after))
  pub change :
      (t limit : ℕ) (live : List ℕ) (base : Place → Option TableRow) (pages : List (List Slot))
      (cs : List Written) (home : Place) (after : TableRow) (capacity : ℕ)
      → Ready live pages cs base → row_size after ≤ 4046 → capacity ≤ limit
      → length pages ≤ limit → is_home (slot_of pages home) ≡ true
      → IfSome (planned_change live (row_size after) capacity pages home)
      (λ plan. Makes limit live (applied t after pages plan.purge)
      (change_of t home (row_at (slot_of pages) home) plan.parts) (Some after))
  pub drop :
      (t limit : ℕ) (live : List ℕ) (base : Place → Option TableRow) (pages : List (List Slot))
      (cs : List Written) (home : Place)
      → Ready live pages cs base → length pages ≤ limit → is_home (slot_of pages home) ≡ true
      → Makes limit live pages
      (change_of t home (row_at (slot_of pages) home)
      (planned_drop pages home (slot_of pages home)).parts)
      None

-- a unit that finds a row whose key no other unit has written finds no other unit's write at its
-- home, and it is the row of its key; and nobody has written at a Free slot
pub record LocksGive : Type 0 where
  pub row :
      (limit : ℕ) (s : LogState) (t : ℕ) (home : Place) (row : TableRow) → IsConsistent limit s
      → row_at (slot_of s.pages) home ≡ Some row → HitBy t (at_key row.key) s.writes
      → HomeOf t home (written_of s.writes) × (s.now row.key ≡ Some row)
  pub free :
      (limit : ℕ) (s : LogState) (t : ℕ) (home : Place) → IsConsistent limit s
      → slot_of s.pages home ≡ Free → HomeOf t home (written_of s.writes)

-- these units are the live ones and t
pub record AreLiveWith (s : LogState) (t : ℕ) (units : List ℕ) : Type 0 where
  pub only : (u : ℕ) → IsLive units u → IsLive (t ∷ s.live) u
  pub all : (u : ℕ) → IsLive (t ∷ s.live) u → IsLive units u

-- the acts of a purge: none where it frees nothing
abbrev pub purge_acts : List Part → List Act
purge_acts [] = []
purge_acts (x ∷ parts) = Purge (x ∷ parts) ∷ []

-- the Purge of a plan is lawful, and after it the Change; they leave the pages that the plan leaves
pub record DeskWrites
    (limit : ℕ) (s : LogState) (t : ℕ) (before after : Option TableRow) (plan : Plan)
    : Type 0 where
  pub home_row : plan.before ≡ before
  pub purge : Lawful limit s (Purge plan.purge)
  pub change :
      Lawful limit (step s (Purge plan.purge))
      (Change (write_of t plan.home before after plan.parts))
  pub runs :
      Runs limit s (Change (write_of t plan.home before after plan.parts)
      ∷ purge_acts plan.purge)
  pub leaves :
      state s (Change (write_of t plan.home before after plan.parts) ∷ purge_acts plan.purge)
      ≡ step (step s (Purge plan.purge))
      (Change (write_of t plan.home before after plan.parts))
  pub purged :
      (step s (Purge plan.purge)).pages ≡ applied t (row_or_empty after) s.pages plan.purge
  pub pages :
      (step (step s (Purge plan.purge))
      (Change (write_of t plan.home before after plan.parts))).pages
      ≡ pages_after t (row_or_empty after) s.pages plan

-- a desk's writes are lawful, given the number of the unit, the lock by key, and the row that is
-- there, or that none is
pub record DesksWrite : Type 0 where
  pub put :
      (limit : ℕ) (s : LogState) (t : ℕ) (units : List ℕ) (after : TableRow) (capacity : ℕ)
      → IsConsistent limit s → MayBegin s t → AreLiveWith s t units
      → s.now after.key ≡ None → HitBy t (at_key after.key) s.writes
      → row_size after ≤ 4046 → capacity ≤ limit
      → IfSome (planned_put units (row_size after) s.pages
      (new_area units (row_size after) capacity s.pages))
      (λ plan. DeskWrites limit s t None (Some after) plan)
  pub change :
      (limit : ℕ) (s : LogState) (t : ℕ) (units : List ℕ) (home : Place) (row after : TableRow)
      (capacity : ℕ)
      → IsConsistent limit s → MayBegin s t → AreLiveWith s t units
      → row_at (slot_of s.pages) home ≡ Some row → HitBy t (at_key row.key) s.writes
      → after.key ≡ row.key → row_size after ≤ 4046 → capacity ≤ limit
      → IfSome (planned_change units (row_size after) capacity s.pages home)
      (λ plan. (plan.home ≡ home) × DeskWrites limit s t (Some row) (Some after) plan)
  pub drop :
      (limit : ℕ) (s : LogState) (t : ℕ) (home : Place) (row : TableRow)
      → IsConsistent limit s → MayBegin s t
      → row_at (slot_of s.pages) home ≡ Some row → HitBy t (at_key row.key) s.writes
      → DeskWrites limit s t (Some row) None
      (planned_drop s.pages home (slot_of s.pages home))

-- a Purge of nothing leaves the same state, so it need not be appended
pub record EmptyPurgeStays : Type 0 where
  pub none : (s : LogState) → step s (Purge []) ≡ s
  pub acts : (s : LogState) (parts : List Part) → state s (purge_acts parts) ≡ step s (Purge parts)

-- a Purge of one page by a list of units that has all live ones is lawful
abbrev pub PurgesRun : Type 0
PurgesRun =
    (limit : ℕ) (s : LogState) (units : List ℕ) (page : ℕ)
    → ((u : ℕ) → IsLive s.live u → IsLive units u) → 1 ≤ page
    → Lawful limit s (Purge (purge_of units s.pages page true))
