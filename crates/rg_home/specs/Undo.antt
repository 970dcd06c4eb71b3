-- The plan of an undo, and a unit undone.
--
-- 1. An undo uses again the areas that are there, at the sizes that they have, so it needs no
--    space.
-- 2. A write without a row before is undone as a drop. Any other is undone at home where the row
--    before fits there, and else in the Over area that it had, which the parts of the write show.
-- 3. A unit is undone by its writes, the latest first. Then each of its homes has the row that it
--    had before the unit wrote there.
use Rattle.rg_base.specs.RowBytes.{row_size}
use Rattle.std.specs.Prelude.{Bool, true, false, nat_le, List, [], ◌∷◌, Option, Some, None}
use Rattle.std.specs.Prelude.{if◌then◌else◌}
use Rattle.rg_base.specs.declared.place.Place.{Place}
use Rattle.rg_base.specs.declared.row.Row.{Row as TableRow}
use Rattle.rg_base.specs.declared.part.Part.{Part}
use Rattle.rg_base.specs.declared.part.SlotOp.{SlotOp}
use Rattle.rg_base.specs.declared.part.SlotOp.TheVariants as Op
use Rattle.rg_home.specs.Slot.{Slot}
use Rattle.rg_home.specs.Slot.{Pointer}
use Rattle.rg_home.specs.Slots.{capacity_of}
use Rattle.rg_home.specs.declared.plan.Plan.{Plan}
use Rattle.rg_base.specs.Place.{same_place}
use Rattle.rg_home.specs.Rows.{row_at}
use Rattle.rg_home.specs.Pages.{slot_of, applied, row_or_empty, place_of, part_at}
use Rattle.rg_home.specs.Plan.{left_of, planned_drop}
use Rattle.rg_home.specs.Written.{Written}

-- the place of a part that leaves an Over area, else what the other parts show
abbrev pub left_place : SlotOp → Place → Option Place → Option Place
left_place (Op.DeadOver capacity home) p rest = Some p
left_place Op.Free p rest = rest
left_place (Op.Row capacity) p rest = rest
left_place (Op.Pointer capacity other) p rest = rest
left_place (Op.Over capacity home) p rest = rest
left_place (Op.DeadRow capacity) p rest = rest
left_place (Op.DeadPointer capacity other) p rest = rest

-- the Over area that parts leave
abbrev pub left_area : List Part → Option Place
left_area [] = None
left_area (x ∷ parts) = left_place x.op (place_of x) (left_area parts)

-- the Over area that a lone part leaves, or within which it changes the row
abbrev pub over_place : SlotOp → Place → Option Place
over_place (Op.DeadOver capacity home) p = Some p
over_place (Op.Over capacity home) p = Some p
over_place Op.Free p = None
over_place (Op.Row capacity) p = None
over_place (Op.Pointer capacity other) p = None
over_place (Op.DeadRow capacity) p = None
over_place (Op.DeadPointer capacity other) p = None

-- the Over area in which the row before these parts lay, if it lay in one
abbrev pub over_before : List Part → Option Place
over_before [] = None
over_before (x ∷ []) = over_place x.op (place_of x)
over_before (x ∷ y ∷ parts) = left_area (x ∷ y ∷ parts)

-- the row goes to the Over area q, from what lies at home
abbrev pub to_area : List (List Slot) → Place → Place → Slot → List Part
to_area pages home q s =
    part_at home (Op.Pointer (capacity_of s) q)
    ∷ part_at q (Op.Over (capacity_of (slot_of pages q)) home)
    ∷ left_of pages home s

-- it goes there, or is there already
abbrev pub back_from : List (List Slot) → Place → Place → Slot → Bool → List Part
back_from pages home q s true = part_at q (Op.Over (capacity_of (slot_of pages q)) home) ∷ []
back_from pages home q s false = to_area pages home q s

-- the home names q
abbrev pub lies_in : Place → Slot → Bool
lies_in q (Pointer capacity other) = same_place other q
lies_in q _ = false

-- the row before fits the home, or goes to its Over area
abbrev pub undo_row : List (List Slot) → Place → Option Place → Slot → Bool → List Part
undo_row pages home over s true = part_at home (Op.Row (capacity_of s)) ∷ left_of pages home s
undo_row pages home (Some q) s false = back_from pages home q s (lies_in q s)
undo_row pages home None s false = []

-- the parts of an undo, where the home has slot s
abbrev pub undo_parts :
    List (List Slot) → Place → Option Place → Option TableRow → Slot → List Part
undo_parts pages home over None s = (planned_drop pages home s).parts
undo_parts pages home over (Some row) s =
    undo_row pages home over s (nat_le (row_size row) (capacity_of s))

-- where the row before lies then, where the home has slot s: at home if it fits there, else in the
-- Over area that it had
abbrev pub lies_undone : Place → Option Place → Option TableRow → Slot → Option Place
lies_undone home over None s = None
lies_undone home over (Some row) s =
    if nat_le (row_size row) (capacity_of s) then Some home else over

-- the plan of an undo, which purges nothing
abbrev pub planned_undo : List (List Slot) → Written → Plan
planned_undo pages c = record {
  home = c.home;
  before = row_at (slot_of pages) c.home;
  purge = [];
  parts = undo_parts pages c.home (over_before c.parts) c.before (slot_of pages c.home);
}

-- the pages after a write is undone
abbrev pub undone : List (List Slot) → Written → List (List Slot)
undone pages c = applied c.owner (row_or_empty c.before) pages (planned_undo pages c).parts

-- the pages after these writes are undone, the latest first
abbrev pub undone_all : List (List Slot) → List Written → List (List Slot)
undone_all pages [] = pages
undone_all pages (c ∷ cs) = undone_all (undone pages c) cs

-- the row at a place once these writes are taken back, the latest first
abbrev pub taken_back : List Written → Place → Option TableRow → Option TableRow
taken_back [] p row = row
taken_back (c ∷ cs) p row = taken_back cs p (if same_place p c.home then c.before else row)
