-- How many bytes slots and pages have.
use Rattle.std.proofs.Common.{◌≡◌, ◌≤◌, ◌+◌, ◌*◌, ◌-◌, ℕ, true, false, List, [], ◌∷◌, ◌++◌, length}
use Rattle.std.proofs.Common.{replicate, refl, arith, length-append}
use Rattle.std.proofs.lemmas.List.{length-replicate}
use Rattle.std.specs.List.{AllByRecursion}
use Rattle.rg_base.specs.declared.place.Place.{Place}
use Rattle.rg_base.specs.Field.{field}
use Rattle.rg_base.proofs.Fields.{length-field}
use Rattle.rg_base.proofs.RowBytes.{length-row_bytes}
use Rattle.rg_home.specs.Slot.{Slot, Free, Row, Pointer, Over, DeadRow, DeadPointer, DeadOver}
use Rattle.rg_home.specs.Slots.{capacity_of, used}
use Rattle.rg_record.specs.Spelling.{place_bytes}
use Rattle.rg_page.specs.Bytes.PageBytes.{bytes_if, directory, fields_bytes, filled_bytes}
use Rattle.rg_page.specs.Bytes.PageBytes.{head_bytes, is_blank, kind_number, named_by, owner_of}
use Rattle.rg_page.specs.Bytes.PageBytes.{page_bytes, row_in, slot_bytes, slots_bytes, slots_size}
use Rattle.rg_page.specs.Bytes.Content.{FitsPage, FitsSlot, Content}

-- a slot's area holds its row
pub row_held : (s : Slot) → FitsSlot s → length (row_in s) ≤ capacity_of s
row_held Free fits = omega arith
row_held (Row capacity row) fits = omega (arith, length-row_bytes row, fits.2)
row_held (Pointer capacity other) fits = omega arith
row_held (Over capacity row home) fits = omega (arith, length-row_bytes row, fits.2)
row_held (DeadRow capacity owner) fits = omega arith
row_held (DeadPointer capacity other owner) fits = omega arith
row_held (DeadOver capacity home owner) fits = omega arith

-- a slot has 16 bytes and its area
pub length-fields : (kind capacity owner : ℕ) (other : Place) (row : List ℕ) → length row ≤ capacity
    → length (fields_bytes kind capacity owner other row) ≡ 16 + capacity
unfolding fields_bytes
length-fields kind capacity owner other row held =
    let zeros : List ℕ = replicate (capacity - length row) 0 in
    let place : List ℕ = place_bytes other in
    let area = length-append row zeros in
    let named = length-append place (row ++ zeros) in
    let owned = length-append (field 4 owner) (place ++ (row ++ zeros)) in
    let sized = length-append (field 2 (length row)) (field 4 owner ++ (place ++ (row ++ zeros))) in
    let whole = length-append (field 2 capacity)
    (field 2 (length row) ++ (field 4 owner ++ (place ++ (row ++ zeros)))) in
    omega (
      arith,
      area,
      named,
      owned,
      sized,
      whole,
      length-replicate {A = ℕ} (capacity - length row) 0,
      length-append (field 4 other.page) (field 2 other.slot),
      length-field 4 other.page,
      length-field 2 other.slot,
      length-field 4 owner,
      length-field 2 (length row),
      length-field 2 capacity,
      held,
    )

length-slot : (s : Slot) → FitsSlot s → length (slot_bytes s) ≡ 16 + capacity_of s
length-slot s fits = length-fields (kind_number s) (capacity_of s) (owner_of s) (named_by s)
    (row_in s) (row_held s fits)

length-slots : (slots : List Slot) → AllByRecursion FitsSlot slots
    → length (slots_bytes slots) ≡ slots_size slots
unfolding slots_bytes
length-slots [] fits = refl
length-slots (s ∷ slots) fits = omega (
  arith,
  length-append (slot_bytes s) (slots_bytes slots),
  length-slot s fits.0,
  length-slots slots fits.1,
)

length-directory : (at : ℕ) (slots : List Slot) → length (directory at slots) ≡ 2 * length slots
unfolding directory
length-directory at [] = refl
length-directory at (s ∷ slots) = omega (
  arith,
  length-append (directory (at + (16 + capacity_of s)) slots) (field 2 at),
  length-directory (at + (16 + capacity_of s)) slots,
  length-field 2 at,
)

-- the bytes that slots take, with the directory
pub used_is : (slots : List Slot) → used slots ≡ slots_size slots + 2 * length slots
used_is [] = refl
used_is (s ∷ slots) = omega (arith, used_is slots)

-- a head has 32 bytes
pub length-head : (copy count number position end : ℕ)
    → length (head_bytes copy count number position end) ≡ 32
unfolding head_bytes
length-head copy count number position end =
    let d = length-append (field 2 end) (replicate 10 0) in
    let e = length-append (field 8 position) (field 2 end ++ replicate 10 0) in
    let f = length-append (field 4 number) (field 8 position ++ (field 2 end ++ replicate 10 0)) in
    let g = length-append (field 2 count)
    (field 4 number ++ (field 8 position ++ (field 2 end ++ replicate 10 0))) in
    omega (
      arith,
      d,
      e,
      f,
      g,
      length-replicate {A = ℕ} 10 0,
      length-field 2 end,
      length-field 8 position,
      length-field 4 number,
      length-field 2 count,
    )

length-filled : (x : Content) → FitsPage x → length (filled_bytes x) ≡ 4096
unfolding filled_bytes
length-filled x fits =
    let head : List ℕ =
    head_bytes x.copy (length x.slots) x.number x.position (32 + slots_size x.slots) in
    let end : List ℕ = replicate (4064 - used x.slots) 0 ++ directory 32 x.slots in
    let a = length-append (replicate (4064 - used x.slots) 0) (directory 32 x.slots) in
    let b = length-append (slots_bytes x.slots) end in
    let c = length-append head (slots_bytes x.slots ++ end) in
    omega (
      arith,
      a,
      b,
      c,
      length-head x.copy (length x.slots) x.number x.position (32 + slots_size x.slots),
      length-replicate {A = ℕ} (4064 - used x.slots) 0,
      length-directory 32 x.slots,
      length-slots x.slots fits.slots,
      used_is x.slots,
      fits.within,
    )

pub length-page : (x : Content) → FitsPage x → length (page_bytes x) ≡ 4096
length-page x fits = elim (is_blank x) as (λ t. length (bytes_if t x) ≡ 4096) [
  | true ↦ length-replicate {A = ℕ} 4096 0
  | false ↦ length-filled x fits
]
