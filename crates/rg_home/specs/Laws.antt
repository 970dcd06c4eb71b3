-- What holds of plans, for every list of pages.
--
-- 1. A plan, carried out, changes the row of its home alone, and no other row moves. A purge, which
--    may come first, changes no row and moves none.
-- 2. The parts of a plan fit their pages, and each part that brings a row has an area that holds
--    it. So the pages stay proper. Drops need no space; undo needs none either, as the laws on it
--    show.
-- 3. A new area goes to the first page that admits it, there to the lowest free slot. There is none
--    exactly where the copy has all its pages and none of them admits.
use Rattle.std.specs.Prelude.{◌≡◌, ℕ, ◌+◌, ◌≤◌, ◌<◌, ◌↔◌, true, false, not, List, [], length}
use Rattle.std.specs.Prelude.{Option, Some, None, IfSome, if◌then◌else◌}
use Rattle.rg_base.specs.RowBytes.{row_size}
use Rattle.rg_base.specs.declared.place.Place.{Place}
use Rattle.rg_base.specs.declared.row.Row.{Row as TableRow}
use Rattle.rg_home.specs.Slot.{Slot}
use Rattle.rg_home.specs.Slot.{Free, Pointer}
use Rattle.rg_home.specs.Slots.{slot_at, is_free, capacity_of}
use Rattle.rg_home.specs.Rows.{row_at, lies_at, ChangesHome}
use Rattle.rg_home.specs.Pages.{page_at, slot_of, applied, FitsAll, TakesAll, row_or_empty}
use Rattle.rg_home.specs.declared.plan.Plan.{Plan}
use Rattle.rg_home.specs.declared.plan.Area.{Area}
use Rattle.rg_home.specs.Plan.{admits, fitting, is_home, lies_changed, new_area, pages_after}
use Rattle.rg_home.specs.Plan.{planned_change, planned_drop, planned_put, purge_of, purged, takes}
use Rattle.rg_home.specs.Able.{Proper}

-- the row that a plan brings is at its home, no other row changes or moves, and all parts fit
pub record WritesHome
    (owner limit : ℕ) (pages : List (List Slot)) (row : Option TableRow) (plan : Plan)
    : Type 0 where
  pub before : plan.before ≡ row_at (slot_of pages) plan.home
  pub changes :
      ChangesHome (slot_of pages) (slot_of (pages_after owner (row_or_empty row) pages plan))
      plan.home row
  pub takes : TakesAll row plan.parts
  pub purge_fits : FitsAll owner (row_or_empty row) limit pages plan.purge
  pub parts_fit :
      FitsAll owner (row_or_empty row) limit (applied owner (row_or_empty row) pages plan.purge)
      plan.parts
  pub proper : Proper (pages_after owner (row_or_empty row) pages plan)
  pub within : length (pages_after owner (row_or_empty row) pages plan) ≤ limit

-- rows and where they lie are the same
pub record KeepsRows (at after : Place → Slot) : Type 0 where
  pub rows : (p : Place) → row_at after p ≡ row_at at p
  pub lie : (p : Place) → lies_at p (after p) ≡ lies_at p (at p)

-- a page purged, and no other page touched
pub record PurgesPage (live : List ℕ) (n : ℕ) (pages after : List (List Slot)) : Type 0 where
  pub here : page_at after n ≡ purged live (page_at pages n)
  pub others : (m : ℕ) → (m ≡ n → ⊥) → page_at after m ≡ page_at pages m
  pub same : length after ≡ length pages

-- a purge of a page that is there
abbrev pub PurgeDoes : Type 0
PurgeDoes =
    (owner : ℕ) (row : TableRow) (live : List ℕ) (limit n : ℕ) (pages : List (List Slot))
    → 1 ≤ n → n ≤ length pages → length pages ≤ limit → Proper pages
    → FitsAll owner row limit pages (purge_of live pages n true)
    × PurgesPage live n pages (applied owner row pages (purge_of live pages n true))
    × KeepsRows (slot_of pages) (slot_of (applied owner row pages (purge_of live pages n true)))
    × Proper (applied owner row pages (purge_of live pages n true))

-- a put: its home held no row
abbrev pub PutDoes : Type 0
PutDoes =
    (owner : ℕ) (row : TableRow) (live : List ℕ) (capacity : ℕ) (pages : List (List Slot))
    → row_size row ≤ 4046 → length pages ≤ capacity → Proper pages
    → IfSome (planned_put live (row_size row) pages (new_area live (row_size row) capacity pages))
    (λ plan. (plan.before ≡ None) × WritesHome owner capacity pages (Some row) plan)

-- a change of the row at a home
abbrev pub ChangeDoes : Type 0
ChangeDoes =
    (owner : ℕ) (row : TableRow) (live : List ℕ) (capacity : ℕ) (pages : List (List Slot))
    (home : Place)
    → row_size row ≤ 4046 → length pages ≤ capacity → Proper pages
    → is_home (slot_of pages home) ≡ true
    → IfSome (planned_change live (row_size row) capacity pages home)
    (λ plan. (plan.home ≡ home) × WritesHome owner capacity pages (Some row) plan)

-- a drop of the row at a home, which purges nothing
abbrev pub DropDoes : Type 0
DropDoes =
    (owner capacity : ℕ) (pages : List (List Slot)) (home : Place)
    → length pages ≤ capacity → Proper pages → is_home (slot_of pages home) ≡ true
    → ((planned_drop pages home (slot_of pages home)).home ≡ home)
    × ((planned_drop pages home (slot_of pages home)).purge ≡ [])
    × WritesHome owner capacity pages None (planned_drop pages home (slot_of pages home))

-- after a put or a drop the row lies at home, or nowhere; after a change it lies at home where the
-- home takes it, else in the Over area that it has where that takes it, and else in a new one
pub record RowLies : Type 0 where
  pub put :
      (owner : ℕ) (row : TableRow) (live : List ℕ) (capacity : ℕ) (pages : List (List Slot))
      → Proper pages
      → IfSome (planned_put live (row_size row) pages
      (new_area live (row_size row) capacity pages))
      (λ plan. lies_at plan.home (slot_of (pages_after owner row pages plan) plan.home)
      ≡ Some plan.home)
  pub change :
      (owner : ℕ) (row : TableRow) (live : List ℕ) (capacity : ℕ) (pages : List (List Slot))
      (home : Place)
      → Proper pages → is_home (slot_of pages home) ≡ true
      → IfSome (planned_change live (row_size row) capacity pages home)
      (λ plan. lies_at home (slot_of (pages_after owner row pages plan) home)
      ≡ lies_changed live (row_size row) capacity pages home
      (fitting live (row_size row) (capacity_of (slot_of pages home)) (page_at pages home.page)))
  pub drop :
      (owner : ℕ) (row : TableRow) (pages : List (List Slot)) (home : Place)
      → Proper pages → is_home (slot_of pages home) ≡ true
      → lies_at home (slot_of
      (pages_after owner row pages (planned_drop pages home (slot_of pages home))) home)
      ≡ None

-- no page admits
abbrev pub NoneAdmits : List ℕ → ℕ → List (List Slot) → Type 0
NoneAdmits live b pages =
    (n : ℕ) → 1 ≤ n → n ≤ length pages → admits live b (page_at pages n) ≡ false

-- the page on which an area is made: as it stands, or purged first
abbrev pub page_for : List ℕ → List (List Slot) → Area → List Slot
page_for live pages area =
    if area.purges then purged live (page_at pages area.place.page)
    else page_at pages area.place.page

-- the first page that admits, or a new one after the last, purged only where it takes the area no
-- other way; and there the lowest free slot
pub record IsFirstFit
    (live : List ℕ) (b capacity : ℕ) (pages : List (List Slot)) (area : Area)
    : Type 0 where
  pub low : 1 ≤ area.place.page
  pub within : area.place.page ≤ capacity
  pub next : area.place.page ≤ length pages + 1
  pub admitted :
      area.place.page ≤ length pages → admits live b (page_at pages area.place.page) ≡ true
  pub first :
      (n : ℕ) → 1 ≤ n → n < area.place.page → admits live b (page_at pages n) ≡ false
  pub needed : area.purges ≡ not (takes b (page_at pages area.place.page))
  pub free : slot_at (page_for live pages area) area.place.slot ≡ Free
  pub lowest :
      (i : ℕ) → i < area.place.slot → is_free (slot_at (page_for live pages area) i) ≡ false

-- a new area is the first fit, and there is none exactly where the copy has all its pages and none
-- admits
pub record FirstFit : Type 0 where
  pub area :
      (live : List ℕ) (b capacity : ℕ) (pages : List (List Slot)) → length pages ≤ capacity
      → IfSome (new_area live b capacity pages) (IsFirstFit live b capacity pages)
  pub none :
      (live : List ℕ) (b capacity : ℕ) (pages : List (List Slot)) → length pages ≤ capacity
      → (new_area live b capacity pages ≡ None
      ↔ ((length pages ≡ capacity) × NoneAdmits live b pages))

-- neither at home nor in the Over area that it has does the row fit, grown as far as the page
-- allows
abbrev pub FitsNowhere : List ℕ → ℕ → List (List Slot) → Place → Type 0
FitsNowhere live b pages home =
    (fitting live b (capacity_of (slot_of pages home)) (page_at pages home.page) ≡ None)
    × ((c : ℕ) (over : Place) → slot_of pages home ≡ Pointer c over
    → fitting live b (capacity_of (slot_of pages over)) (page_at pages over.page) ≡ None)

-- a put is Full exactly where there is no new area, and a change where besides the row fits nowhere
pub record FullMeans : Type 0 where
  pub put :
      (live : List ℕ) (b capacity : ℕ) (pages : List (List Slot))
      → (planned_put live b pages (new_area live b capacity pages) ≡ None
      ↔ (new_area live b capacity pages ≡ None))
  pub change :
      (live : List ℕ) (b capacity : ℕ) (pages : List (List Slot)) (home : Place)
      → (planned_change live b capacity pages home ≡ None
      ↔ (FitsNowhere live b pages home × (new_area live b capacity pages ≡ None)))
