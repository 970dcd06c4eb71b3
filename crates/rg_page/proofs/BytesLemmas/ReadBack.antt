-- What a spelling is read as: the page that it spells.
use Rattle.std.proofs.Common.{◌≡◌, ◌<◌, ◌≤◌, ◌+◌, ◌-◌, ◌^◌, ◌==◌, ℕ, suc, Bool, true, false}
use Rattle.std.proofs.Common.{List, [], ◌∷◌, ◌++◌, length, replicate, take, nat_lt, Option, Some}
use Rattle.std.proofs.Common.{None, refl, sym, ◌∙◌, ap, arith, append_assoc, length-append}
use Rattle.std.proofs.lemmas.Bool.{eqb-true, le-ltb, and_parts}
use Rattle.std.proofs.lemmas.List.{drop_at, take_at, length-replicate}
use Rattle.std.specs.List.{AllByRecursion}
use Rattle.rg_base.specs.declared.place.Place.{Place}
use Rattle.rg_base.specs.declared.row.Row.{Row as TableRow}
use Rattle.rg_base.specs.Field.{field}
use Rattle.rg_base.specs.declared.part.SlotOp.{SlotOp}
use Rattle.rg_base.specs.declared.part.SlotOp.TheVariants as slot_op
use Rattle.rg_base.specs.RowBytes.{row_bytes}
use Rattle.rg_base.proofs.RowBytes.{length-row_bytes}
use Rattle.rg_home.specs.Pages.{TakesRow}
use Rattle.rg_home.specs.Slot.{Slot, Free, Row, Pointer, Over, DeadRow, DeadPointer, DeadOver}
use Rattle.rg_home.specs.Slots.{capacity_of, used}
use Rattle.rg_base.specs.Values.{FitsRow}
use Rattle.rg_record.specs.Fits.{FitsPlace}
use Rattle.rg_record.specs.Reading.{place_at}
use Rattle.rg_record.specs.Reading.{row_in as row_read}
use Rattle.rg_record.specs.Spelling.{place_bytes}
use Rattle.rg_record.proofs.Again.{number_again}
use Rattle.rg_record.proofs.Rows.{row_again}
use Rattle.rg_page.specs.Bytes.PageBytes.{bytes_if, directory, fields_bytes, filled_bytes}
use Rattle.rg_page.specs.Bytes.PageBytes.{head_bytes, is_blank, kind_number, named_by, nowhere}
use Rattle.rg_page.specs.Bytes.PageBytes.{owner_of, page_bytes, row_in, slot_bytes, slots_bytes}
use Rattle.rg_page.specs.Bytes.PageBytes.{slots_size}
use Rattle.rg_page.specs.declared.bytes.entry.Entry.{Entry}
use Rattle.rg_page.specs.declared.bytes.entry.Head.{Head}
use Rattle.rg_page.specs.Bytes.Reading.{area_at, head_at, op_of, page_shown, past, slot_at, slot_of}
use Rattle.rg_page.specs.Bytes.Reading.{slots_at}
use Rattle.rg_page.specs.Bytes.Content.{FitsPage, FitsSlot, Content}
use Rattle.rg_page.proofs.BytesLemmas.Whole.{row_held, used_is}

place_again : (place : Place) (rest : List ℕ) → FitsPlace place
    → place_at (place_bytes place ++ rest) ≡ Some (place, rest)
unfolding place_at
place_again place rest fits =
    ap place_at (append_assoc (field 4 place.page) (field 2 place.slot) rest)
    ∙ rw (
      number_again 4 place.page (field 2 place.slot ++ rest) fits.page,
      number_again 2 place.slot rest fits.slot,
    )
    refl

fields_rest : (kind capacity owner : ℕ) (other : Place) (row rest : List ℕ)
    → fields_bytes kind capacity owner other row ++ rest
    ≡ kind ∷ 0
    ∷ (field 2 capacity
    ++ (field 2 (length row)
    ++ (field 4 owner
    ++ (place_bytes other ++ ((row ++ replicate (capacity - length row) 0) ++ rest)))))
unfolding fields_bytes
fields_rest kind capacity owner other row rest =
    let area : List ℕ = row ++ replicate (capacity - length row) 0 in
    ap (λ (x : List ℕ). kind ∷ 0 ∷ x)
    (append_assoc (field 2 capacity)
    (field 2 (length row) ++ (field 4 owner ++ (place_bytes other ++ area))) rest)
    ∙ ap (λ (x : List ℕ). kind ∷ 0 ∷ (field 2 capacity ++ x))
    (append_assoc (field 2 (length row)) (field 4 owner ++ (place_bytes other ++ area)) rest)
    ∙ ap (λ (x : List ℕ). kind ∷ 0 ∷ (field 2 capacity ++ (field 2 (length row) ++ x)))
    (append_assoc (field 4 owner) (place_bytes other ++ area) rest)
    ∙ ap
    (λ (x : List ℕ). kind ∷ 0
    ∷ (field 2 capacity ++ (field 2 (length row) ++ (field 4 owner ++ x))))
    (append_assoc (place_bytes other) area rest)

-- the area of a slot, and what is behind it
area_again : (capacity : ℕ) (row rest : List ℕ) → length row ≤ capacity
    → area_at capacity (length row) ((row ++ replicate (capacity - length row) 0) ++ rest)
    ≡ Some (row, rest)
unfolding area_at
area_again capacity row rest held =
    let zeros : List ℕ = replicate (capacity - length row) 0 in
    let whole : length (row ++ zeros) ≡ capacity = omega
    (arith, length-append row zeros, length-replicate {A = ℕ} (capacity - length row) 0, held) in
    let long : nat_lt (length ((row ++ zeros) ++ rest)) capacity ≡ false =
    le-ltb _ _ (omega (arith, length-append (row ++ zeros) rest, whole)) in
    let within : nat_lt capacity (length row) ≡ false = le-ltb _ _ held in
    let front : take (length row) ((row ++ zeros) ++ rest) ≡ row =
    ap (take (length row)) (append_assoc row zeros rest)
    ∙ take_at row (zeros ++ rest) (length row) refl in
    rw (long, within, front, drop_at (row ++ zeros) rest capacity whole) refl

-- the row of a slot that has one
abbrev row_if : Slot → Option TableRow
row_if Free = None
row_if (Row capacity row) = Some row
row_if (Pointer capacity other) = None
row_if (Over capacity row home) = Some row
row_if (DeadRow capacity owner) = None
row_if (DeadPointer capacity other owner) = None
row_if (DeadOver capacity home owner) = None

-- the operation that makes a slot
abbrev op_for : Slot → SlotOp
op_for Free = slot_op.Free
op_for (Row capacity row) = slot_op.Row capacity
op_for (Pointer capacity other) = slot_op.Pointer capacity other
op_for (Over capacity row home) = slot_op.Over capacity home
op_for (DeadRow capacity owner) = slot_op.DeadRow capacity
op_for (DeadPointer capacity other owner) = slot_op.DeadPointer capacity other
op_for (DeadOver capacity home owner) = slot_op.DeadOver capacity home

-- what is read of a slot
abbrev pub entry_of : Slot → Entry
entry_of s = record { op = op_for s; owner = record { 0 = owner_of s }; row = row_if s }

pub entry_is : (s : Slot) → slot_of (entry_of s) ≡ s
entry_is Free = refl
entry_is (Row capacity row) = refl
entry_is (Pointer capacity other) = refl
entry_is (Over capacity row home) = refl
entry_is (DeadRow capacity owner) = refl
entry_is (DeadPointer capacity other owner) = refl
entry_is (DeadOver capacity home owner) = refl

-- a slot that has a spelling takes its row
pub entry_takes : (s : Slot) → FitsSlot s → TakesRow (entry_of s).row (entry_of s).op
entry_takes Free fits = tt
entry_takes (Row capacity row) fits = fits.2
entry_takes (Pointer capacity other) fits = tt
entry_takes (Over capacity row home) fits = fits.2
entry_takes (DeadRow capacity owner) fits = tt
entry_takes (DeadPointer capacity other owner) fits = tt
entry_takes (DeadOver capacity home owner) fits = tt

-- what is known of the fields of a slot
record Bounds (s : Slot) : Type 0 where
  capacity : capacity_of s < 2 ^ 16
  size : length (row_in s) < 2 ^ 16
  owner : owner_of s < 2 ^ 32
  place : FitsPlace (named_by s)
  op : op_of (kind_number s) (capacity_of s) (named_by s) ≡ Some (op_for s)
  row : row_read (row_in s) ≡ Some (row_if s)

no_place : FitsPlace nowhere
no_place = record { page = omega arith; slot = omega arith }

no_row : row_read [] ≡ Some None
unfolding row_read
no_row = refl

row_low : (row : TableRow) → FitsRow row → length (row_bytes row) < 2 ^ 16
row_low row fits = omega (arith, length-row_bytes row, fits.text.short)

bounds : (s : Slot) → FitsSlot s → Bounds s
bounds Free fits = record {
  capacity = omega arith;
  size = omega arith;
  owner = omega arith;
  place = no_place;
  op = refl;
  row = no_row;
}
bounds (Row capacity row) fits = record {
  capacity = fits.0;
  size = row_low row fits.1;
  owner = omega arith;
  place = no_place;
  op = refl;
  row = row_again row fits.1;
}
bounds (Pointer capacity other) fits = record {
  capacity = fits.0;
  size = omega arith;
  owner = omega arith;
  place = fits.1;
  op = refl;
  row = no_row;
}
bounds (Over capacity row home) fits = record {
  capacity = fits.0;
  size = row_low row fits.1;
  owner = omega arith;
  place = fits.3;
  op = refl;
  row = row_again row fits.1;
}
bounds (DeadRow capacity owner) fits = record {
  capacity = fits.0;
  size = omega arith;
  owner = fits.1;
  place = no_place;
  op = refl;
  row = no_row;
}
bounds (DeadPointer capacity other owner) fits = record {
  capacity = fits.0;
  size = omega arith;
  owner = fits.2;
  place = fits.1;
  op = refl;
  row = no_row;
}
bounds (DeadOver capacity home owner) fits = record {
  capacity = fits.0;
  size = omega arith;
  owner = fits.2;
  place = fits.1;
  op = refl;
  row = no_row;
}

pub slot_again : (s : Slot) (rest : List ℕ) → FitsSlot s
    → slot_at (slot_bytes s ++ rest) ≡ Some (entry_of s, rest)
unfolding slot_at
slot_again s rest fits =
    let known = bounds s fits in
    let area : List ℕ = (row_in s ++ replicate (capacity_of s - length (row_in s)) 0) ++ rest in
    ap slot_at
    (fields_rest (kind_number s) (capacity_of s) (owner_of s) (named_by s) (row_in s) rest)
    ∙ rw (
      number_again 2 (capacity_of s)
          (field 2 (length (row_in s))
          ++ (field 4 (owner_of s) ++ (place_bytes (named_by s) ++ area))) known.capacity,
      number_again 2 (length (row_in s))
          (field 4 (owner_of s) ++ (place_bytes (named_by s) ++ area)) known.size,
      number_again 4 (owner_of s) (place_bytes (named_by s) ++ area) known.owner,
      place_again (named_by s) area known.place,
      known.op,
      area_again (capacity_of s) (row_in s) rest (row_held s fits),
      known.row,
    )
    refl

slots_again : (slots : List Slot) (rest : List ℕ) → AllByRecursion FitsSlot slots
    → slots_at (length slots) (slots_bytes slots ++ rest) ≡ Some (slots, rest)
unfolding slots_at slots_bytes
slots_again [] rest fits = refl
slots_again (s ∷ slots) rest fits =
    ap (slots_at (suc (length slots))) (append_assoc (slot_bytes s) (slots_bytes slots) rest)
    ∙ rw (slot_again s (slots_bytes slots ++ rest) fits.0, slots_again slots rest fits.1) refl
    ∙ ap (λ (t : Slot). Some (t ∷ slots, rest)) (entry_is s)

-- what a head says
abbrev pub head_of : (copy count number position : ℕ) → Head
head_of copy count number position =
    record { copy = copy; count = count; number = number; position = position }

past_again : (front rest : List ℕ) (n : ℕ) → length front ≡ n → past n (front ++ rest) ≡ Some rest
unfolding past
past_again front rest n is =
    let long : nat_lt (length (front ++ rest)) n ≡ false =
    le-ltb _ _ (omega (arith, length-append front rest, is)) in
    rw (long, drop_at front rest n is) refl

pub head_again : (copy count number position end : ℕ) (rest : List ℕ) → count < 2 ^ 16
    → number < 2 ^ 32 → position < 2 ^ 64 → end < 2 ^ 16
    → head_at (head_bytes copy count number position end ++ rest)
    ≡ Some (head_of copy count number position, rest)
unfolding head_at head_bytes
head_again copy count number position end rest high_count high_number high_position high_end =
    let zeros : List ℕ = replicate 10 0 in
    let tail : List ℕ = zeros ++ rest in
    let regrouped : head_bytes copy count number position end ++ rest
    ≡ (82 ∷ 71 ∷ 80 ∷ 49 ∷ []) ++ (copy ∷ 0
    ∷ (field 2 count ++ (field 4 number ++ (field 8 position ++ (field 2 end ++ tail))))) =
    ap (λ (x : List ℕ). 82 ∷ 71 ∷ 80 ∷ 49 ∷ copy ∷ 0 ∷ x)
    (append_assoc (field 2 count) (field 4 number ++ (field 8 position ++ (field 2 end ++ zeros)))
    rest)
    ∙ ap (λ (x : List ℕ). 82 ∷ 71 ∷ 80 ∷ 49 ∷ copy ∷ 0 ∷ (field 2 count ++ x))
    (append_assoc (field 4 number) (field 8 position ++ (field 2 end ++ zeros)) rest)
    ∙ ap (λ (x : List ℕ). 82 ∷ 71 ∷ 80 ∷ 49 ∷ copy ∷ 0 ∷ (field 2 count ++ (field 4 number ++ x)))
    (append_assoc (field 8 position) (field 2 end ++ zeros) rest)
    ∙ ap
    (λ (x : List ℕ). 82 ∷ 71 ∷ 80 ∷ 49 ∷ copy ∷ 0
    ∷ (field 2 count ++ (field 4 number ++ (field 8 position ++ x))))
    (append_assoc (field 2 end) zeros rest) in
    ap head_at regrouped
    ∙ rw (
      past_again (82 ∷ 71 ∷ 80 ∷ 49 ∷ [])
          (copy ∷ 0
          ∷ (field 2 count ++ (field 4 number ++ (field 8 position ++ (field 2 end ++ tail))))) 4
          refl,
      number_again 2 count (field 4 number ++ (field 8 position ++ (field 2 end ++ tail)))
          high_count,
      number_again 4 number (field 8 position ++ (field 2 end ++ tail)) high_number,
      number_again 8 position (field 2 end ++ tail) high_position,
      number_again 2 end tail high_end,
      past_again zeros rest 10 refl,
    )
    refl

pub page_again : (x : Content) → FitsPage x → page_shown (filled_bytes x) ≡ Some x
unfolding page_shown filled_bytes
page_again x fits =
    let end : List ℕ = replicate (4064 - used x.slots) 0 ++ directory 32 x.slots in
    let count : length x.slots < 2 ^ 16 = omega (arith, used_is x.slots, fits.within) in
    let last : 32 + slots_size x.slots < 2 ^ 16 = omega (arith, used_is x.slots, fits.within) in
    rw (
      head_again x.copy (length x.slots) x.number x.position (32 + slots_size x.slots)
          (slots_bytes x.slots ++ end) count fits.number fits.position last,
      slots_again x.slots end fits.slots,
    )
    refl

-- ---- one spelling

first_of : List ℕ → ℕ
first_of [] = 0
first_of (b ∷ bytes) = b

-- a page that is not blank has no zeros in front
not_zeros : (x : Content) → filled_bytes x ≡ replicate 4096 0 → ⊥
unfolding filled_bytes head_bytes first_of
not_zeros x same = let e : 82 ≡ 0 = ap first_of same in omega (arith, e)

no_slots : (slots : List Slot) → length slots ≡ 0 → slots ≡ []
no_slots [] none = refl
no_slots (s ∷ slots) none = absurd (omega (arith, none))

-- what is known of a blank page
blank_is : (x : Content) → is_blank x ≡ true
    → x ≡ record { copy = x.copy; number = x.number; position = 0; slots = [] }
blank_is x blank =
    let parts = and_parts (x.position == 0) (length x.slots == 0) blank in
    let position : x.position ≡ 0 = eqb-true x.position 0 parts.0 in
    let slots : x.slots ≡ [] = no_slots x.slots (eqb-true (length x.slots) 0 parts.1) in
    ap
    (λ (p : ℕ).
    let y : Content = record { copy = x.copy; number = x.number; position = p; slots = x.slots } in
    y) position
    ∙ ap
    (λ (s : List Slot).
    let y : Content = record { copy = x.copy; number = x.number; position = 0; slots = s } in y)
    slots

some_same : (x y : Content) → Some x ≡ Some y → x ≡ y
some_same x y e = cc (e)

pub one_spelling : (x y : Content) → FitsPage x → FitsPage y → x.copy ≡ y.copy → x.number ≡ y.number
    → page_bytes x ≡ page_bytes y → x ≡ y
one_spelling x y fits_x fits_y copy number same = go (is_blank x) (is_blank y) refl refl same
  where
    go : (a b : Bool) → is_blank x ≡ a → is_blank y ≡ b → bytes_if a x ≡ bytes_if b y → x ≡ y
    go true true blank_x blank_y e =
        blank_is x blank_x
        ∙ ap
        (λ (c : ℕ).
        let z : Content = record { copy = c; number = x.number; position = 0; slots = [] } in z)
        copy
        ∙ ap
        (λ (n : ℕ).
        let z : Content = record { copy = y.copy; number = n; position = 0; slots = [] } in z)
        number
        ∙ sym (blank_is y blank_y)
    go true false blank_x some_y e = absurd (not_zeros y (sym e))
    go false true some_x blank_y e = absurd (not_zeros x e)
    go false false some_x some_y e =
        some_same x y (sym (page_again x fits_x) ∙ ap page_shown e ∙ page_again y fits_y)

pub zeros_are_blank : (x : Content) → page_bytes x ≡ replicate 4096 0 → is_blank x ≡ true
zeros_are_blank x zeros = go (is_blank x) refl zeros
  where
    go : (a : Bool) → is_blank x ≡ a → bytes_if a x ≡ replicate 4096 0 → is_blank x ≡ true
    go true blank e = blank
    go false some e = absurd (not_zeros x e)
