-- Reading a data page from left to right. Bytes that are read so need not be a spelling; those that
-- are one are read as the page that they spell.
use Rattle.std.specs.Prelude.{◌≡◌, ℕ, zero, suc, ◌==◌, nat_lt, if◌then◌else◌, List, [], ◌∷◌, length}
use Rattle.std.specs.Prelude.{take, drop, Option, Some, None, Result, Ok, Err}
use Rattle.rg_base.specs.declared.part.SlotOp.{SlotOp}
use Rattle.rg_base.specs.declared.part.SlotOp.TheVariants as slot_op
use Rattle.rg_base.specs.declared.place.Place.{Place}
use Rattle.rg_home.specs.Pages.{made, row_or_empty}
use Rattle.rg_home.specs.Slot.{Slot}
use Rattle.rg_record.specs.declared.fault.RecordFault.{RecordFault}
use Rattle.rg_record.specs.declared.fault.RecordFault.TheVariants.{NotARecord}
use Rattle.rg_record.specs.declared.fault.RecordFault.TheVariants as record_fault
use Rattle.rg_record.specs.Reading.{◌>>=◌, code_at, number_at, place_at, row_in}
use Rattle.rg_page.specs.declared.bytes.entry.Entry.{Entry}
use Rattle.rg_page.specs.declared.bytes.entry.Head.{Head}
use Rattle.rg_page.specs.declared.bytes.fault.PageFault.{PageFault}
use Rattle.rg_page.specs.declared.bytes.fault.PageFault.TheVariants.{NotAPage, NoMemory}
use Rattle.rg_page.specs.Bytes.Content.{Content}

-- a refusal other than out of memory says that nothing is read
abbrev pub Refuses : {Y : Type 0} → PageFault → Option Y → Type 0
Refuses NotAPage read = read ≡ None
Refuses NoMemory read = Unit {0}

-- what a function gave is what reading gives, unless memory ran out
abbrev pub Gives : {X Y : Type 0} → (X → Y) → Result X PageFault → Option Y → Type 0
Gives view (Ok x) read = read ≡ Some (view x)
Gives view (Err fault) read = Refuses fault read

-- what a fault of a record's bytes is to a page
abbrev pub fault_of : RecordFault → PageFault
fault_of NotARecord = NotAPage
fault_of record_fault.NoMemory = NoMemory

-- the operation that makes a slot of this kind
abbrev pub op_of : (kind capacity : ℕ) → Place → Option SlotOp
op_of kind capacity other =
    if kind == 0 then Some slot_op.Free
    else (if kind == 1 then Some (slot_op.Row capacity)
    else (if kind == 2 then Some (slot_op.Pointer capacity other)
    else (if kind == 3 then Some (slot_op.Over capacity other)
    else (if kind == 4 then Some (slot_op.DeadRow capacity)
    else (if kind == 5 then Some (slot_op.DeadPointer capacity other)
    else (if kind == 6 then Some (slot_op.DeadOver capacity other) else None))))))

-- the slot that an entry is
abbrev pub slot_of : Entry → Slot
slot_of x = made x.owner.0 (row_or_empty x.row) x.op

-- an area of these sizes, and the bytes after it
unfoldable pub area_at : (capacity size : ℕ) → List ℕ → Option (List ℕ × List ℕ)
area_at capacity size bytes =
    if nat_lt (length bytes) capacity then None
    else (if nat_lt capacity size then None else Some (take size bytes, drop capacity bytes))

unfoldable pub slot_at : List ℕ → Option (Entry × List ℕ)
slot_at bytes = do
  kind ← code_at bytes
  none ← code_at kind.1
  capacity ← number_at 2 none.1
  size ← number_at 2 capacity.1
  owner ← number_at 4 size.1
  other ← place_at owner.1
  op ← op_of kind.0 capacity.0 other.0
  area ← area_at capacity.0 size.0 other.1
  row ← row_in area.0
  Some (record { op = op; owner = record { 0 = owner.0 }; row = row }, area.1)

unfoldable pub slots_at : (count : ℕ) → List ℕ → Option (List Slot × List ℕ)
slots_at zero bytes = Some ([], bytes)
slots_at (suc n) bytes = do
  entry ← slot_at bytes
  slots ← slots_at n entry.1
  Some (slot_of entry.0 ∷ slots.0, slots.1)

-- the bytes behind the first n
unfoldable pub past : ℕ → List ℕ → Option (List ℕ)
past n bytes = if nat_lt (length bytes) n then None else Some (drop n bytes)

-- the head of a page, whose first four bytes are not looked at, and the bytes after it
unfoldable pub head_at : List ℕ → Option (Head × List ℕ)
head_at bytes = do
  start ← past 4 bytes
  copy ← code_at start
  none ← code_at copy.1
  count ← number_at 2 none.1
  number ← number_at 4 count.1
  position ← number_at 8 number.1
  end ← number_at 2 position.1
  rest ← past 10 end.1
  Some (
    record {
      copy = copy.0;
      count = count.0;
      number = number.0;
      position = position.0;
    },
    rest,
  )

-- the page that bytes show
unfoldable pub page_shown : List ℕ → Option Content
page_shown bytes = do
  head ← head_at bytes
  slots ← slots_at head.0.count head.1
  Some (record {
    copy = head.0.copy;
    number = head.0.number;
    position = head.0.position;
    slots = slots.0;
  })
