-- The plans of a put, a change and a drop, and first fit.
--
-- 1. A plan says what a write will do, before anything is written: its home, the row before, the
--    parts that purge one page first, and then those that write. The undo of it needs no more.
-- 2. A row that grows stays where it lies as long as its page has room. It goes home where it fits
--    there, else it stays in its Over area, and else it gets a new one.
-- 3. A new area goes to the first page by number that admits it, and there to the lowest Free slot.
-- 4. A page is purged only where the write that chose it needs the bytes: it frees the dead areas
--    of ended owners, all of them on that page. A dead area of a live unit is what its undo goes
--    back to.
use Rattle.std.specs.Prelude.{◌==◌, ℕ, ◌+◌, ◌-◌, nat_le, nat_lt, Bool, true, false, not, List, []}
use Rattle.std.specs.Prelude.{◌∷◌, map, Option, Some, None, if◌then◌else◌}
use Rattle.std.specs.List.{position_or_len, list_any}
use Rattle.rg_base.specs.declared.place.Place.{Place}
use Rattle.rg_base.specs.declared.row.Row.{Row as TableRow}
use Rattle.rg_base.specs.declared.part.Part.{Part}
use Rattle.rg_base.specs.declared.part.SlotOp.TheVariants as Op
use Rattle.rg_home.specs.Slot.{Slot}
use Rattle.rg_home.specs.Slot.{Free, Row, Pointer, DeadRow, DeadPointer, DeadOver}
use Rattle.rg_home.specs.Slots.{capacity_of, is_free, used, trim}
use Rattle.rg_home.specs.declared.plan.Plan.{Plan}
use Rattle.rg_home.specs.declared.plan.Area.{Area}
use Rattle.rg_home.specs.declared.plan.Fitting.{Fitting}
use Rattle.rg_home.specs.declared.plan.Look.{Look}
use Rattle.rg_home.specs.Pages.{page_at, slot_of, part_at, applied}
use Rattle.rg_home.specs.Rows.{row_at}

-- a dead area whose owner has ended
abbrev pub is_ended : List ℕ → Slot → Bool
is_ended live (DeadRow capacity owner) = not (list_any (λ t. t == owner) live)
is_ended live (DeadPointer capacity other owner) = not (list_any (λ t. t == owner) live)
is_ended live (DeadOver capacity home owner) = not (list_any (λ t. t == owner) live)
is_ended live _ = false

-- a slot purged
abbrev pub swept : List ℕ → Slot → Slot
swept live s = if is_ended live s then Free else s

-- a page purged
abbrev pub purged : List ℕ → List Slot → List Slot
purged live slots = trim (map (swept live) slots)

-- the bytes that are free on a page as it stands
abbrev pub free : List Slot → ℕ
free slots = 4064 - used slots

-- the bytes that would be free once it is purged
abbrev pub room : List ℕ → List Slot → ℕ
room live slots = free (purged live slots)

-- a new area fits the page as it stands
abbrev pub takes : ℕ → List Slot → Bool
takes b slots =
    if list_any is_free slots then nat_le b (free slots) else nat_le (b + 18) (free slots)

-- it fits the page once that is purged
abbrev pub admits : List ℕ → ℕ → List Slot → Bool
admits live b slots = takes b (purged live slots)

-- the lowest Free slot, else a new one
abbrev pub first_free : List Slot → ℕ
first_free slots = position_or_len is_free slots

-- the first page that admits, counted from 0, else a new one
abbrev pub first_page : List ℕ → ℕ → List (List Slot) → ℕ
first_page live b pages = position_or_len (admits live b) pages

-- a new area on page n: on the page as it stands, or once it is purged
abbrev pub area_when : List ℕ → ℕ → List Slot → Bool → Area
area_when live n slots true = record {
  place = record { page = n; slot = first_free slots };
  purges = false;
}
area_when live n slots false = record {
  place = record { page = n; slot = first_free (purged live slots) };
  purges = true;
}

-- a new area of b bytes on page n
abbrev pub area_on : List ℕ → ℕ → ℕ → List Slot → Area
area_on live b n slots = area_when live n slots (takes b slots)

-- a new area, where the copy may have so many pages
abbrev pub new_area : List ℕ → ℕ → ℕ → List (List Slot) → Option Area
new_area live b capacity pages =
    if nat_lt (first_page live b pages) capacity
    then Some (area_on live b (first_page live b pages + 1)
    (page_at pages (first_page live b pages + 1)))
    else None

-- how an area of a page takes a row of b bytes: it holds it, or can grow to hold it
abbrev pub fitting : List ℕ → ℕ → ℕ → List Slot → Option Fitting
fitting live b capacity slots =
    if nat_le b capacity then Some (record { capacity = capacity; purges = false })
    else (if nat_le (b - capacity) (room live slots)
    then Some (record { capacity = b; purges = nat_lt (free slots) (b - capacity) })
    else None)

-- the parts that purge page n, whose slots from i on are these
abbrev pub purge_from : List ℕ → ℕ → ℕ → List Slot → List Part
purge_from live n i [] = []
purge_from live n i (s ∷ slots) =
    if is_ended live s
    then part_at (record { page = n; slot = i }) Op.Free ∷ purge_from live n (i + 1) slots
    else purge_from live n (i + 1) slots

-- the parts that purge page n, where it is to be purged
abbrev pub purge_of : List ℕ → List (List Slot) → ℕ → Bool → List Part
purge_of live pages n purges = if purges then purge_from live n 0 (page_at pages n) else []

-- the part for the Over area that a home with this slot leaves
abbrev pub left_of : List (List Slot) → Place → Slot → List Part
left_of pages home (Pointer capacity other) =
    part_at other (Op.DeadOver (capacity_of (slot_of pages other)) home) ∷ []
left_of pages home _ = []

-- the pages after a plan: after its purge, and then its parts
abbrev pub pages_after : ℕ → TableRow → List (List Slot) → Plan → List (List Slot)
pages_after owner after pages plan =
    applied owner after (applied owner after pages plan.purge) plan.parts

-- the home of a row that is there
abbrev pub is_home : Slot → Bool
is_home (Row capacity row) = true
is_home (Pointer capacity other) = true
is_home _ = false

-- the plan of a put of b bytes: none where there is no new area
abbrev pub planned_put : List ℕ → ℕ → List (List Slot) → Option Area → Option Plan
planned_put live b pages None = None
planned_put live b pages (Some area) = Some (record {
  home = area.place;
  before = None;
  purge = purge_of live pages area.place.page area.purges;
  parts = part_at area.place (Op.Row b) ∷ [];
})

-- the row lies at home
abbrev pub to_home : List ℕ → List (List Slot) → Place → Fitting → Plan
to_home live pages home f = record {
  home = home;
  before = row_at (slot_of pages) home;
  purge = purge_of live pages home.page f.purges;
  parts = part_at home (Op.Row f.capacity) ∷ left_of pages home (slot_of pages home);
}

-- the row stays in its Over area
abbrev pub in_over : List ℕ → List (List Slot) → Place → Place → Fitting → Plan
in_over live pages home other f = record {
  home = home;
  before = row_at (slot_of pages) home;
  purge = purge_of live pages other.page f.purges;
  parts = part_at other (Op.Over f.capacity home) ∷ [];
}

-- the row gets a new Over area, and its home keeps its capacity: none where there is no new area
abbrev pub to_new : List ℕ → ℕ → List (List Slot) → Place → Option Area → Option Plan
to_new live b pages home None = None
to_new live b pages home (Some area) = Some (record {
  home = home;
  before = row_at (slot_of pages) home;
  purge = purge_of live pages area.place.page area.purges;
  parts =
      part_at home (Op.Pointer (capacity_of (slot_of pages home)) area.place)
      ∷ part_at area.place (Op.Over b home)
      ∷ left_of pages home (slot_of pages home);
})

-- in the Over area that is there, as it takes the row, else in a new one
abbrev pub from_over :
    List ℕ → ℕ → ℕ → List (List Slot) → Place → Place → Option Fitting → Option Plan
from_over live b capacity pages home other (Some f) = Some (in_over live pages home other f)
from_over live b capacity pages home other None =
    to_new live b pages home (new_area live b capacity pages)

-- away from home, where the home has this slot
abbrev pub away : List ℕ → ℕ → ℕ → List (List Slot) → Place → Slot → Option Plan
away live b capacity pages home (Pointer c other) =
    from_over live b capacity pages home other
    (fitting live b (capacity_of (slot_of pages other)) (page_at pages other.page))
away live b capacity pages home _ = to_new live b pages home (new_area live b capacity pages)

-- at home, as it takes the row, else away
abbrev pub changed : List ℕ → ℕ → ℕ → List (List Slot) → Place → Option Fitting → Option Plan
changed live b capacity pages home (Some f) = Some (to_home live pages home f)
changed live b capacity pages home None =
    away live b capacity pages home (slot_of pages home)

-- the plan of a change to a row of b bytes
abbrev pub planned_change : List ℕ → ℕ → ℕ → List (List Slot) → Place → Option Plan
planned_change live b capacity pages home =
    changed live b capacity pages home
    (fitting live b (capacity_of (slot_of pages home)) (page_at pages home.page))

-- the place of a new area
abbrev pub area_place : Option Area → Option Place
area_place None = None
area_place (Some area) = Some area.place

-- where a row that leaves its home, or has left it, lies after a change: in the Over area that it
-- has, as that takes it, else in a new one
abbrev pub lies_over : Option Place → Option Fitting → Option Area → Option Place
lies_over other (Some f) area = other
lies_over other None area = area_place area

-- the same, where the home has this slot
abbrev pub lies_away : List ℕ → ℕ → ℕ → List (List Slot) → Slot → Option Place
lies_away live b capacity pages (Pointer c other) =
    lies_over (Some other)
    (fitting live b (capacity_of (slot_of pages other)) (page_at pages other.page))
    (new_area live b capacity pages)
lies_away live b capacity pages _ = area_place (new_area live b capacity pages)

-- where a row of b bytes lies after a change: at home, as that takes it, else away
abbrev pub lies_changed : List ℕ → ℕ → ℕ → List (List Slot) → Place → Option Fitting → Option Place
lies_changed live b capacity pages home (Some f) = Some home
lies_changed live b capacity pages home None =
    lies_away live b capacity pages (slot_of pages home)

-- the plan of a drop, where the home has this slot: it purges nothing
abbrev pub planned_drop : List (List Slot) → Place → Slot → Plan
planned_drop pages home (Pointer capacity other) = record {
  home = home;
  before = row_at (slot_of pages) home;
  purge = [];
  parts =
      part_at home (Op.DeadPointer capacity other)
      ∷ part_at other (Op.DeadOver (capacity_of (slot_of pages other)) home)
      ∷ [];
}
planned_drop pages home s = record {
  home = home;
  before = row_at (slot_of pages) home;
  purge = [];
  parts = part_at home (Op.DeadRow (capacity_of s)) ∷ [];
}

-- the place that a home names
abbrev pub pointed_to : Slot → Option Place
pointed_to (Pointer capacity other) = Some other
pointed_to _ = None

-- what a plan has to know of the area at a place
abbrev pub looked : List ℕ → ℕ → List (List Slot) → Place → Look
looked live b pages p = record {
  capacity = capacity_of (slot_of pages p);
  other = pointed_to (slot_of pages p);
  fitting = fitting live b (capacity_of (slot_of pages p)) (page_at pages p.page);
}

-- one part, if there is one
abbrev pub listed : Option Part → List Part
listed None = []
listed (Some part) = part ∷ []
