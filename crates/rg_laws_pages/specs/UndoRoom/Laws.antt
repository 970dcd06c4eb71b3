-- What holds of undo, for every table space.
--
-- 1. An undo that is possible puts the row before back, changes and moves no other row, and needs
--    no space (`UndoDoes`).
-- 2. Each record keeps the space ready: a purge, a put, a change, a drop and an undo, with the list
--    of writes changed as the record says and the committed rows the same. So do the start and the
--    end of a unit.
-- 3. So a unit that is undone has its committed rows back (`UnitRows`), and one that ends has its
--    own rows committed (`CommittedRows`).
-- 4. It works since no home or area of a live unit goes away or shrinks (`AreasStay`), and since
--    locks keep the homes of units apart (`LocksKeepApart`).
use Rattle.std.specs.Prelude.{◌≡◌, ℕ, ◌≤◌, true, false, List, [], ◌∷◌, length, Option, Some, None}
use Rattle.std.specs.Prelude.{IfSome}
use Rattle.rg_base.specs.RowBytes.{row_size}
use Rattle.rg_base.specs.declared.place.Place.{Place}
use Rattle.rg_base.specs.declared.row.Row.{Row as TableRow}
use Rattle.rg_base.specs.declared.part.Part.{Part}
use Rattle.rg_home.specs.Slot.{Slot}
use Rattle.rg_home.specs.Rows.{is_dead, lies_at, row_at, ChangesHome}
use Rattle.rg_home.specs.Pages.{slot_of, applied}
use Rattle.rg_home.specs.Plan.{is_home, purge_of, new_area, planned_put, planned_change}
use Rattle.rg_home.specs.Plan.{planned_drop, pages_after}
use Rattle.rg_home.specs.Written.{Written}
use Rattle.rg_home.specs.Laws.{WritesHome}
use Rattle.rg_home.specs.Able.{Undoable, AllUndoable, IsLive, HomeOf, Proper}
use Rattle.rg_home.specs.Undo.{lies_undone, over_before, planned_undo, undone, undone_all}
use Rattle.rg_home.specs.Undo.{taken_back}
use Rattle.rg_laws_pages.specs.UndoRoom.Ready.{latest, less, only, without, HasHome, NoHome, Ready}
use Rattle.rg_laws_pages.specs.UndoRoom.Areas.{KeepsAreas}
use Rattle.rg_laws_pages.specs.UndoRoom.Dead.{DeadNames}
use Rattle.rg_laws_pages.specs.UndoRoom.Keyed.{LockedRow, Keyed}
use Rattle.rg_laws_pages.specs.UndoRoom.Needed.{NeededInTurn, InsertsAreThere}

-- what the record of these parts keeps
abbrev pub change_of : ℕ → Place → Option TableRow → List Part → Written
change_of t home before parts = record {
  owner = t;
  home = home;
  before = before;
  parts = parts;
}

-- an undo puts the row before back at its home, as any plan does that brings it; the row then lies
-- where it fits: at home, else in the Over area that it had; it purges nothing, and adds no page
abbrev pub UndoDoes : Type 0
UndoDoes =
    (c : Written) (pages : List (List Slot)) → Proper pages → Undoable None (slot_of pages) c
    → WritesHome c.owner (length pages) pages c.before (planned_undo pages c)
    × (lies_at c.home (slot_of (undone pages c) c.home)
    ≡ lies_undone c.home (over_before c.parts) c.before (slot_of pages c.home))
    × ((planned_undo pages c).purge ≡ [])
    × (length (undone pages c) ≡ length pages)

-- an empty table space is proper, and a proper one without live writes is ready
abbrev pub ReadyBegins : Type 0
ReadyBegins =
    Proper []
    × ((live : List ℕ) (pages : List (List Slot)) → Proper pages
    → Ready live pages [] (row_at (slot_of pages)))

-- a unit may begin at any time
abbrev pub UnitBegins : Type 0
UnitBegins =
    (live more : List ℕ) (base : Place → Option TableRow) (pages : List (List Slot))
    (cs : List Written)
    → ((u : ℕ) → IsLive live u → IsLive more u) → Ready live pages cs base
    → Ready more pages cs base

-- a purge keeps a space ready
abbrev pub PurgeKeeps : Type 0
PurgeKeeps =
    (live : List ℕ) (base : Place → Option TableRow) (pages : List (List Slot))
    (cs : List Written) (t n : ℕ) (after : TableRow)
    → 1 ≤ n → Ready live pages cs base
    → Ready live (applied t after pages (purge_of live pages n true)) cs base

-- so does a put, with its own write among those that can be undone
abbrev pub PutKeeps : Type 0
PutKeeps =
    (live : List ℕ) (base : Place → Option TableRow) (pages : List (List Slot))
    (cs : List Written) (t : ℕ) (after : TableRow) (capacity : ℕ)
    → Ready live pages cs base → IsLive live t → row_size after ≤ 4046
    → IfSome (planned_put live (row_size after) pages
    (new_area live (row_size after) capacity pages))
    (λ plan. Ready live (pages_after t after pages plan)
    (change_of t plan.home None plan.parts ∷ cs) base)

-- so does a change, at a home where no other live unit has written
abbrev pub ChangeKeeps : Type 0
ChangeKeeps =
    (live : List ℕ) (base : Place → Option TableRow) (pages : List (List Slot))
    (cs : List Written) (t : ℕ) (home : Place) (after : TableRow) (capacity : ℕ)
    → Ready live pages cs base → IsLive live t → HomeOf t home cs
    → row_size after ≤ 4046 → length pages ≤ capacity → is_home (slot_of pages home) ≡ true
    → IfSome (planned_change live (row_size after) capacity pages home)
    (λ plan. Ready live (pages_after t after pages plan)
    (change_of t home (row_at (slot_of pages) home) plan.parts ∷ cs) base)

-- so does a drop
abbrev pub DropKeeps : Type 0
DropKeeps =
    (live : List ℕ) (base : Place → Option TableRow) (pages : List (List Slot))
    (cs : List Written) (t : ℕ) (home : Place) (after : TableRow)
    → Ready live pages cs base → IsLive live t → HomeOf t home cs
    → is_home (slot_of pages home) ≡ true
    → Ready live
    (applied t after pages (planned_drop pages home (slot_of pages home)).parts)
    (change_of t home (row_at (slot_of pages) home)
    (planned_drop pages home (slot_of pages home)).parts ∷ cs)
    base

-- so does the undo of a unit's latest write, and of all of a unit's, the latest first
abbrev pub UndoKeeps : Type 0
UndoKeeps =
    (live : List ℕ) (base : Place → Option TableRow) (pages : List (List Slot))
    (cs : List Written) (t : ℕ) → Ready live pages cs base
    → ((c : Written) → latest t cs ≡ Some c → Ready live (undone pages c) (less t cs) base)
    × AllUndoable None (slot_of pages) (only t cs)
    × Ready live (undone_all pages (only t cs)) (without t cs) base

-- so does a unit's end, which takes its own writes with it
abbrev pub EndKeeps : Type 0
EndKeeps =
    (live rest : List ℕ) (base : Place → Option TableRow) (pages : List (List Slot))
    (cs : List Written) (t : ℕ)
    → ((u : ℕ) → IsLive live u → (u ≡ t → ⊥) → IsLive rest u) → Ready live pages cs base
    → Ready rest pages (without t cs)
    (λ p. taken_back (without t cs) p (row_at (slot_of pages) p))

-- once a unit is undone each of its homes has its committed row, and no other row has changed
abbrev pub UnitRows : Type 0
UnitRows =
    (live : List ℕ) (base : Place → Option TableRow) (pages : List (List Slot))
    (cs : List Written) (t : ℕ) → Ready live pages cs base → (p : Place)
    → (HasHome t p cs → row_at (slot_of (undone_all pages (only t cs))) p ≡ base p)
    × (NoHome p (only t cs)
    → row_at (slot_of (undone_all pages (only t cs))) p ≡ row_at (slot_of pages) p)

-- once it is committed its rows are the committed ones, and elsewhere the earlier ones are
abbrev pub CommittedRows : Type 0
CommittedRows =
    (live : List ℕ) (base : Place → Option TableRow) (pages : List (List Slot))
    (cs : List Written) (t : ℕ) → Ready live pages cs base → (p : Place)
    → (HasHome t p cs
    → taken_back (without t cs) p (row_at (slot_of pages) p) ≡ row_at (slot_of pages) p)
    × (NoHome p (only t cs)
    → taken_back (without t cs) p (row_at (slot_of pages) p) ≡ base p)

-- a dead home of a live unit names an area of its own, which each record keeps
pub record DeadKept : Type 0 where
  pub purge :
      (live : List ℕ) (t : ℕ) (after : TableRow) (pages : List (List Slot)) (n : ℕ)
      → Proper pages → DeadNames live (slot_of pages) → 1 ≤ n
      → DeadNames live (slot_of (applied t after pages (purge_of live pages n true)))
  pub put :
      (live : List ℕ) (t : ℕ) (after : TableRow) (pages : List (List Slot)) (capacity : ℕ)
      → Proper pages → DeadNames live (slot_of pages)
      → IfSome (planned_put live (row_size after) pages
      (new_area live (row_size after) capacity pages))
      (λ plan. DeadNames live (slot_of (pages_after t after pages plan)))
  pub change :
      (live : List ℕ) (t : ℕ) (after : TableRow) (pages : List (List Slot)) (capacity : ℕ)
      (home : Place)
      → Proper pages → DeadNames live (slot_of pages) → is_home (slot_of pages home) ≡ true
      → IfSome (planned_change live (row_size after) capacity pages home)
      (λ plan. DeadNames live (slot_of (pages_after t after pages plan)))
  pub drop :
      (live : List ℕ) (t : ℕ) (after : TableRow) (pages : List (List Slot)) (home : Place)
      → Proper pages → DeadNames live (slot_of pages) → is_home (slot_of pages home) ≡ true
      → DeadNames live (slot_of
      (applied t after pages (planned_drop pages home (slot_of pages home)).parts))
  pub undo :
      (live : List ℕ) (c : Written) (pages : List (List Slot))
      → Proper pages → DeadNames live (slot_of pages) → Undoable (Some c.owner) (slot_of pages) c
      → DeadNames live (slot_of (undone pages c))

-- No home and no Over area of a live unit u goes away or shrinks: not by a purge or a put, nor by a
-- change, a drop or an undo of unit t, at a home of another unit or where u is t. And a purge
-- leaves what is not dead as it is.
pub record AreasStay : Type 0 where
  pub purge :
      (live : List ℕ) (t u : ℕ) (after : TableRow) (pages : List (List Slot)) (n : ℕ) (p : Place)
      → Proper pages → IsLive live u → 1 ≤ n
      → KeepsAreas (Some u) p (slot_of pages)
      (slot_of (applied t after pages (purge_of live pages n true)))
  pub spared :
      (live : List ℕ) (t : ℕ) (after : TableRow) (pages : List (List Slot)) (n : ℕ) (p : Place)
      → Proper pages → 1 ≤ n → is_dead (slot_of pages p) ≡ false
      → slot_of (applied t after pages (purge_of live pages n true)) p ≡ slot_of pages p
  pub put :
      (live : List ℕ) (t u : ℕ) (after : TableRow) (pages : List (List Slot)) (capacity : ℕ)
      → Proper pages → IsLive live u
      → IfSome (planned_put live (row_size after) pages
      (new_area live (row_size after) capacity pages))
      (λ plan. (p : Place)
      → KeepsAreas (Some u) p (slot_of pages) (slot_of (pages_after t after pages plan)))
  pub change :
      (live : List ℕ) (t u : ℕ) (after : TableRow) (pages : List (List Slot)) (capacity : ℕ)
      (home : Place)
      → Proper pages → IsLive live u → is_home (slot_of pages home) ≡ true
      → IfSome (planned_change live (row_size after) capacity pages home)
      (λ plan. (p : Place) → (p ≡ home → u ≡ t)
      → KeepsAreas (Some u) p (slot_of pages) (slot_of (pages_after t after pages plan)))
  pub drop :
      (live : List ℕ) (t u : ℕ) (after : TableRow) (pages : List (List Slot)) (home p : Place)
      → Proper pages → IsLive live u → is_home (slot_of pages home) ≡ true → (p ≡ home → u ≡ t)
      → KeepsAreas (Some u) p (slot_of pages) (slot_of
      (applied t after pages (planned_drop pages home (slot_of pages home)).parts))
  pub undo :
      (u : ℕ) (c : Written) (pages : List (List Slot)) (p : Place)
      → Proper pages → Undoable None (slot_of pages) c → (p ≡ c.home → u ≡ c.owner)
      → KeepsAreas (Some u) p (slot_of pages) (slot_of (undone pages c))

-- where rows are locked by key, a unit that writes a row finds no other unit's write at its home,
-- and its own write keeps this so
abbrev pub LocksKeepApart : Type 0
LocksKeepApart =
    (locks : ℕ → Option ℕ) (at after : Place → Slot) (c : Written) (row : Option TableRow)
    (cs : List Written) → Keyed locks at cs
    → ((t : ℕ) (home : Place) (found : TableRow) → row_at at home ≡ Some found
    → ((u : ℕ) → locks found.key ≡ Some u → u ≡ t) → HomeOf t home cs)
    × (ChangesHome at after c.home row → LockedRow locks c.owner row
    → LockedRow locks c.owner c.before → HomeOf c.owner c.home cs
    → Keyed locks after (c ∷ cs))

-- an opening may test each write at its turn, or all before the first
abbrev pub TestedBefore : Type 0
TestedBefore =
    (cs : List Written) (pages : List (List Slot)) → Proper pages
    → (NeededInTurn pages cs
    → AllUndoable None (slot_of pages) cs × InsertsAreThere (row_at (slot_of pages)) cs)
    × (AllUndoable None (slot_of pages) cs → InsertsAreThere (row_at (slot_of pages)) cs
    → NeededInTurn pages cs)
