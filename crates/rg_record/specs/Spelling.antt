-- The bytes of a record: position, transaction and back, then its kind with what the kind has.
use Rattle.std.specs.Prelude.{ℕ, ◌+◌, List, [], ◌∷◌, ◌++◌, length, Option, Some, None}
use Rattle.rg_base.specs.declared.part.Part.{Part}
use Rattle.rg_base.specs.declared.part.SlotOp.{SlotOp}
use Rattle.rg_base.specs.declared.part.SlotOp.TheVariants as slot_op
use Rattle.rg_base.specs.declared.place.Place.{Place}
use Rattle.rg_base.specs.declared.row.Row.{Row}
use Rattle.rg_base.specs.Field.{field}
use Rattle.rg_base.specs.RowBytes.{row_bytes, row_size}
use Rattle.rg_record.specs.declared.record.Kind.{Kind}
use Rattle.rg_record.specs.declared.record.Kind.TheVariants.{Change, Undo, Commit, RolledBack}
use Rattle.rg_record.specs.declared.record.Kind.TheVariants.{Purge, Switch}
use Rattle.rg_record.specs.declared.record.Record.{Record}

-- a place: its page in 4 bytes and its slot in 2
abbrev pub place_bytes : Place → List ℕ
place_bytes place = field 4 place.page ++ field 2 place.slot

-- what a part makes of its slot: a number, and then the capacity and the place that it has
unfoldable pub op_bytes : SlotOp → List ℕ
op_bytes slot_op.Free = 0 ∷ []
op_bytes (slot_op.Row capacity) = 1 ∷ field 2 capacity
op_bytes (slot_op.Pointer capacity other) = 2 ∷ (field 2 capacity ++ place_bytes other)
op_bytes (slot_op.Over capacity other) = 3 ∷ (field 2 capacity ++ place_bytes other)
op_bytes (slot_op.DeadRow capacity) = 4 ∷ field 2 capacity
op_bytes (slot_op.DeadPointer capacity other) = 5 ∷ (field 2 capacity ++ place_bytes other)
op_bytes (slot_op.DeadOver capacity other) = 6 ∷ (field 2 capacity ++ place_bytes other)

unfoldable pub op_size : SlotOp → ℕ
op_size slot_op.Free = 1
op_size (slot_op.Row capacity) = 3
op_size (slot_op.DeadRow capacity) = 3
op_size (slot_op.Pointer capacity other) = 9
op_size (slot_op.Over capacity other) = 9
op_size (slot_op.DeadPointer capacity other) = 9
op_size (slot_op.DeadOver capacity other) = 9

-- a part: its page in 4 bytes, its slot in 2, and what it makes of the slot
abbrev pub part_bytes : Part → List ℕ
part_bytes part = field 4 part.page ++ (field 2 part.slot ++ op_bytes part.op)

abbrev pub part_size : Part → ℕ
part_size part = 6 + op_size part.op

-- parts, one after the other
unfoldable pub parts_bytes : List Part → List ℕ
parts_bytes [] = []
parts_bytes (part ∷ parts) = part_bytes part ++ parts_bytes parts

unfoldable pub parts_size : List Part → ℕ
parts_size [] = 0
parts_size (part ∷ parts) = part_size part + parts_size parts

-- the number of the parts in 1 byte, and the parts
abbrev pub parts_field : List Part → List ℕ
parts_field parts = length parts ∷ parts_bytes parts

-- a row behind its length in 2 bytes; the length 0 says that there is none
unfoldable pub row_field : Option Row → List ℕ
row_field None = field 2 0
row_field (Some row) = field 2 (row_size row) ++ row_bytes row

unfoldable pub row_field_size : Option Row → ℕ
row_field_size None = 2
row_field_size (Some row) = 2 + row_size row

-- the number of the kind, and then what the kind has
unfoldable pub kind_bytes : Kind → List ℕ
kind_bytes (Change home before after parts) =
    1 ∷ (place_bytes home ++ (row_field before ++ (row_field after ++ parts_field parts)))
kind_bytes (Undo next home after parts) =
    2 ∷ (field 8 next.0 ++ (place_bytes home ++ (row_field after ++ parts_field parts)))
kind_bytes Commit = 3 ∷ []
kind_bytes RolledBack = 4 ∷ []
kind_bytes (Purge parts) = 5 ∷ parts_field parts
kind_bytes (Switch copy pages) = 6 ∷ copy ∷ field 4 pages

unfoldable pub kind_size : Kind → ℕ
kind_size (Change home before after parts) =
    8 + row_field_size before + row_field_size after + parts_size parts
kind_size (Undo next home after parts) = 16 + row_field_size after + parts_size parts
kind_size Commit = 1
kind_size RolledBack = 1
kind_size (Purge parts) = 2 + parts_size parts
kind_size (Switch copy pages) = 6

unfoldable pub record_bytes : Record → List ℕ
record_bytes entry =
    field 8 entry.position.0
    ++ (field 4 entry.tran.0 ++ (field 8 entry.back.0 ++ kind_bytes entry.kind))

-- how many bytes a record has
unfoldable pub record_size : Record → ℕ
record_size entry = 20 + kind_size entry.kind
