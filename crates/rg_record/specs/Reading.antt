-- Reading from left to right: a value, and the bytes after it. Bytes that are read so need not be a
-- spelling, and bytes that are one are read as its value.
use Rattle.std.specs.Prelude.{◌≡◌, ℕ, zero, suc, ◌-◌, Bool, ◌&&◌, List, [], ◌∷◌, length, take, drop}
use Rattle.std.specs.Prelude.{Option, Some, None, Result, Ok, Err, nat_lt, nat_le, ◌==◌}
use Rattle.std.specs.Prelude.{if◌then◌else◌}
use Rattle.std.specs.List.{list_all}
use Rattle.byteorder.specs.Endian.{big_number}
use Rattle.rg_base.specs.declared.part.Part.{Part}
use Rattle.rg_base.specs.declared.part.SlotOp.{SlotOp}
use Rattle.rg_base.specs.declared.part.SlotOp.TheVariants as slot_op
use Rattle.rg_base.specs.declared.place.Place.{Place}
use Rattle.rg_base.specs.declared.row.Row.{Row}
use Rattle.rg_base.specs.declared.row_bytes.RowFault.{RowFault}
use Rattle.rg_base.specs.declared.row_bytes.RowFault.TheVariants as row_fault
use Rattle.rg_base.specs.RowBytes.{row_of}
use Rattle.rg_record.specs.declared.record.Kind.{Kind}
use Rattle.rg_record.specs.declared.record.Kind.TheVariants.{Change, Undo, Commit, RolledBack}
use Rattle.rg_record.specs.declared.record.Kind.TheVariants.{Purge, Switch}
use Rattle.rg_record.specs.declared.record.Record.{Record}
use Rattle.rg_record.specs.declared.fault.RecordFault.{RecordFault}
use Rattle.rg_record.specs.declared.fault.RecordFault.TheVariants.{NotARecord, NoMemory}

infixl 10 ◌>>=◌
abbrev pub ◌>>=◌ : {A B : Type 0} → Option A → (A → Option B) → Option B
(Some x) >>= f = f x
None >>= f = None

-- a refusal other than out of memory says that nothing is read
abbrev pub Refuses : {Y : Type 0} → RecordFault → Option Y → Type 0
Refuses NotARecord read = read ≡ None
Refuses NoMemory read = Unit {0}

-- what a function gave is what reading gives, unless memory ran out
abbrev pub Gives : {X Y : Type 0} → (X → Y) → Result X RecordFault → Option Y → Type 0
Gives view (Ok x) read = read ≡ Some (view x)
Gives view (Err fault) read = Refuses fault read

abbrev pub code_at : List ℕ → Option (ℕ × List ℕ)
code_at [] = None
code_at (code ∷ rest) = Some (code, rest)

unfoldable pub number_at : ℕ → List ℕ → Option (ℕ × List ℕ)
number_at n bytes =
    if nat_lt (length bytes) n then None else Some (big_number n bytes, drop n bytes)

unfoldable pub place_at : List ℕ → Option (Place × List ℕ)
place_at bytes = do
  page ← number_at 4 bytes
  slot ← number_at 2 page.1
  Some (record { page = page.0; slot = slot.0 }, slot.1)

-- an operation with a capacity and a place
abbrev pub wide_op : ℕ → ℕ → Place → Option SlotOp
wide_op code capacity other =
    if code == 2 then Some (slot_op.Pointer capacity other)
    else (if code == 3 then Some (slot_op.Over capacity other)
    else (if code == 5 then Some (slot_op.DeadPointer capacity other)
    else (if code == 6 then Some (slot_op.DeadOver capacity other) else None)))

unfoldable pub wide_at : ℕ → ℕ → List ℕ → Option (SlotOp × List ℕ)
wide_at code capacity bytes = do
  other ← place_at bytes
  op ← wide_op code capacity other.0
  Some (op, other.1)

unfoldable pub op_at : List ℕ → Option (SlotOp × List ℕ)
op_at bytes = do
  code ← code_at bytes
  if code.0 == 0 then Some (slot_op.Free, code.1) else do
    capacity ← number_at 2 code.1
    if code.0 == 1 then Some (slot_op.Row capacity.0, capacity.1)
        else (if code.0 == 4 then Some (slot_op.DeadRow capacity.0, capacity.1)
        else wide_at code.0 capacity.0 capacity.1)

unfoldable pub part_at : List ℕ → Option (Part × List ℕ)
part_at bytes = do
  page ← number_at 4 bytes
  slot ← number_at 2 page.1
  op ← op_at slot.1
  Some (record { page = page.0; slot = slot.0; op = op.0 }, op.1)

unfoldable pub parts_at : ℕ → List ℕ → Option (List Part × List ℕ)
parts_at zero bytes = Some ([], bytes)
parts_at (suc n) bytes = do
  part ← part_at bytes
  others ← parts_at n part.1
  Some (part.0 ∷ others.0, others.1)

unfoldable pub parts_field_at : List ℕ → Option (List Part × List ℕ)
parts_field_at bytes = do
  count ← code_at bytes
  parts_at count.0 count.1

-- whether bytes are those of a row
abbrev pub is_letter : ℕ → Bool
is_letter byte = nat_le 33 byte && nat_le byte 126

unfoldable pub is_row : List ℕ → Bool
is_row bytes =
    nat_le 26 (length bytes) && (nat_le (length bytes) 826
    && ((big_number 2 (drop 24 bytes) == length bytes - 26) && list_all is_letter (drop 26 bytes)))

-- what a fault of a row is to a record
abbrev pub refusal : RowFault → RecordFault
refusal row_fault.NoMemory = NoMemory
refusal row_fault.Short = NotARecord
refusal row_fault.Length = NotARecord
refusal (row_fault.Byte at) = NotARecord

unfoldable pub row_in : List ℕ → Option (Option Row)
row_in bytes =
    if length bytes == 0 then Some None
    else (if is_row bytes then Some (Some (row_of bytes)) else None)

unfoldable pub row_field_at : List ℕ → Option (Option Row × List ℕ)
row_field_at bytes = do
  size ← number_at 2 bytes
  if nat_lt (length size.1) size.0 then None else do
    row ← row_in (take size.0 size.1)
    Some (row, drop size.0 size.1)

unfoldable pub change_at : List ℕ → Option Kind
change_at bytes = do
  home ← place_at bytes
  before ← row_field_at home.1
  after ← row_field_at before.1
  parts ← parts_field_at after.1
  Some (Change home.0 before.0 after.0 parts.0)

unfoldable pub undo_at : List ℕ → Option Kind
undo_at bytes = do
  next ← number_at 8 bytes
  home ← place_at next.1
  after ← row_field_at home.1
  parts ← parts_field_at after.1
  Some (Undo (record { 0 = next.0 }) home.0 after.0 parts.0)

unfoldable pub purge_at : List ℕ → Option Kind
purge_at bytes = do
  parts ← parts_field_at bytes
  Some (Purge parts.0)

unfoldable pub switch_at : List ℕ → Option Kind
switch_at bytes = do
  copy ← code_at bytes
  pages ← number_at 4 copy.1
  Some (Switch copy.0 pages.0)

unfoldable pub kind_at : List ℕ → Option Kind
kind_at bytes = do
  code ← code_at bytes
  if code.0 == 1 then change_at code.1
      else (if code.0 == 2 then undo_at code.1
      else (if code.0 == 3 then Some Commit
      else (if code.0 == 4 then Some RolledBack
      else (if code.0 == 5 then purge_at code.1
      else (if code.0 == 6 then switch_at code.1 else None)))))

unfoldable pub record_at : List ℕ → Option Record
record_at bytes = do
  position ← number_at 8 bytes
  tran ← number_at 4 position.1
  back ← number_at 8 tran.1
  kind ← kind_at back.1
  Some (record {
    position = record { 0 = position.0 };
    tran = record { 0 = tran.0 };
    back = record { 0 = back.0 };
    kind = kind;
  })
