-- The bytes of a data page.
--
-- 1. A page has a head of 32 bytes, its slots in the order of their numbers, zeros, and a directory
--    at its end. Numbers have their highest byte first.
-- 2. The head has `RGP1`, the copy, a zero, the number of slots in 2 bytes, the page's number in 4,
--    its position in 8, the offset of the first byte behind the slots in 2, and ten zeros.
-- 3. A slot has the number of its kind, a zero, its capacity in 2 bytes, the length of its row in
--    2, its owner in 4 and the place that it names in 6, and then its area: the row's bytes, and
--    zeros up to the capacity. What a kind has not is zero.
-- 4. The directory has the offset of each slot in 2 bytes, that of slot 0 last.
-- 5. The page without slots whose position is 0 is all zeros.
use Rattle.std.specs.Prelude.{ℕ, ◌+◌, ◌-◌, ◌==◌, ◌&&◌, Bool, true, false, List, [], ◌∷◌, ◌++◌}
use Rattle.std.specs.Prelude.{length, replicate}
use Rattle.rg_base.specs.declared.place.Place.{Place}
use Rattle.rg_base.specs.Field.{field}
use Rattle.rg_base.specs.RowBytes.{row_bytes}
use Rattle.rg_home.specs.Slot.{Slot, Free, Row, Pointer, Over, DeadRow, DeadPointer, DeadOver}
use Rattle.rg_home.specs.Slots.{capacity_of, used}
use Rattle.rg_record.specs.Spelling.{place_bytes}
use Rattle.rg_page.specs.Bytes.Content.{Content}

abbrev pub kind_number : Slot → ℕ
kind_number Free = 0
kind_number (Row capacity row) = 1
kind_number (Pointer capacity other) = 2
kind_number (Over capacity row home) = 3
kind_number (DeadRow capacity owner) = 4
kind_number (DeadPointer capacity other owner) = 5
kind_number (DeadOver capacity home owner) = 6

-- the bytes of the row that lies in a slot
abbrev pub row_in : Slot → List ℕ
row_in (Row capacity row) = row_bytes row
row_in (Over capacity row home) = row_bytes row
row_in slot = []

abbrev pub owner_of : Slot → ℕ
owner_of (DeadRow capacity owner) = owner
owner_of (DeadPointer capacity other owner) = owner
owner_of (DeadOver capacity home owner) = owner
owner_of slot = 0

-- no place
abbrev pub nowhere : Place
nowhere = record { page = 0; slot = 0 }

-- the place that a slot names
abbrev pub named_by : Slot → Place
named_by (Pointer capacity other) = other
named_by (Over capacity row home) = home
named_by (DeadPointer capacity other owner) = other
named_by (DeadOver capacity home owner) = home
named_by slot = nowhere

-- a slot of these fields
unfoldable pub fields_bytes :
    (kind capacity owner : ℕ) → (other : Place) → (row : List ℕ) → List ℕ
fields_bytes kind capacity owner other row =
    kind
    ∷ 0
    ∷ (field 2 capacity
    ++ (field 2 (length row)
    ++ (field 4 owner
    ++ (place_bytes other ++ (row ++ replicate (capacity - length row) 0)))))

abbrev pub slot_bytes : Slot → List ℕ
slot_bytes s = fields_bytes (kind_number s) (capacity_of s) (owner_of s) (named_by s) (row_in s)

unfoldable pub slots_bytes : List Slot → List ℕ
slots_bytes [] = []
slots_bytes (s ∷ slots) = slot_bytes s ++ slots_bytes slots

-- how many bytes slots have, without the directory
abbrev pub slots_size : List Slot → ℕ
slots_size [] = 0
slots_size (s ∷ slots) = 16 + capacity_of s + slots_size slots

-- the offsets of slots, the first of which begins at this one
unfoldable pub directory : (at : ℕ) → List Slot → List ℕ
directory at [] = []
directory at (s ∷ slots) = directory (at + (16 + capacity_of s)) slots ++ field 2 at

-- the head of a page of so many slots, behind which this offset is
unfoldable pub head_bytes : (copy count number position end : ℕ) → List ℕ
head_bytes copy count number position end =
    82
    ∷ 71
    ∷ 80
    ∷ 49
    ∷ copy
    ∷ 0
    ∷ (field 2 count
    ++ (field 4 number ++ (field 8 position ++ (field 2 end ++ replicate 10 0))))

-- the bytes of a page with slots, or with a position
unfoldable pub filled_bytes : Content → List ℕ
filled_bytes x =
    head_bytes x.copy (length x.slots) x.number x.position (32 + slots_size x.slots)
    ++ (slots_bytes x.slots
    ++ (replicate (4064 - used x.slots) 0 ++ directory 32 x.slots))

abbrev pub is_blank : Content → Bool
is_blank x = (x.position == 0) && (length x.slots == 0)

abbrev pub bytes_if : (blank : Bool) → Content → List ℕ
bytes_if true x = replicate 4096 0
bytes_if false x = filled_bytes x

-- the bytes of a page
abbrev pub page_bytes : Content → List ℕ
page_bytes x = bytes_if (is_blank x) x
