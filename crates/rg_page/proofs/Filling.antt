-- Slots that are read one after another, each put on the page at its number.
use Rattle.std.proofs.Common.{◌≡◌, ◌<◌, ◌+◌, ℕ, zero, suc, List, [], ◌∷◌, ◌++◌, length, drop, take}
use Rattle.std.proofs.Common.{Some, refl, sym, ap, ◌∙◌, arith, append_assoc}
use Rattle.std.proofs.lemmas.List.{length-take-le, take_more}
use Rattle.std.specs.List.{AllByRecursion}
use Rattle.rg_home.specs.Slot.{Slot, Free, Row, Pointer, Over, DeadRow, DeadPointer, DeadOver}
use Rattle.rg_home.specs.Slots.{Fits, cut, placed, slot_at, trim, used}
use Rattle.rg_home.proofs.Offers.{used-trim}
use Rattle.rg_page.specs.Bytes.Content.{FitsSlot}
use Rattle.rg_page.specs.Bytes.PageBytes.{slot_bytes, slots_bytes}
use Rattle.rg_page.specs.Bytes.Reading.{slot_at as slot_read}
use Rattle.rg_page.proofs.BytesLemmas.ReadBack.{entry_of, slot_again}
use Rattle.rg_page.proofs.Room.{used-some}

cut_placed : (x : Slot) (ys : List Slot) (n : ℕ) (s : Slot)
    → placed (cut x ys) (suc n) s ≡ cut x (placed ys n s)
cut_placed Free [] n s = refl
cut_placed Free (y ∷ ys) n s = refl
cut_placed (Row a b) ys n s = refl
cut_placed (Pointer a b) ys n s = refl
cut_placed (Over a b d) ys n s = refl
cut_placed (DeadRow a b) ys n s = refl
cut_placed (DeadPointer a b d) ys n s = refl
cut_placed (DeadOver a b d) ys n s = refl

-- a slot put behind slots, of which those that are Free at the end were dropped
placed_trim : (xs : List Slot) (s : Slot) → placed (trim xs) (length xs) s ≡ trim (xs ++ s ∷ [])
placed_trim [] s = refl
placed_trim (x ∷ xs) s = cut_placed x (trim xs) (length xs) s ∙ ap (cut x) (placed_trim xs s)

pub trim-more : (slots : List Slot) (i : ℕ) → i < length slots
    → placed (trim (take i slots)) i (slot_at slots i) ≡ trim (take (i + 1) slots)
trim-more slots i below =
    let front : List Slot = take i slots in
    let s : Slot = slot_at slots i in
    let count : i ≡ length front = sym (length-take-le i slots (omega (arith, below))) in
    ap (λ (k : ℕ). placed (trim front) k s) count
    ∙ placed_trim front s
    ∙ ap trim (sym (take_more slots i Free below))

-- the page stays within its bytes
pub put_fits : (slots : List Slot) (i : ℕ) → i < length slots → Fits slots
    → Fits (placed (trim (take i slots)) i (slot_at slots i))
put_fits slots i below fits =
    omega (
      arith,
      ap used (trim-more slots i below),
      used-trim (take (i + 1) slots),
      used-some slots (i + 1),
      fits,
    )

pub fits_at : (slots : List Slot) (i : ℕ) → i < length slots → AllByRecursion FitsSlot slots
    → FitsSlot (slot_at slots i)
fits_at [] i below fits = absurd (omega arith)
fits_at (s ∷ slots) zero below fits = fits.0
fits_at (s ∷ slots) (suc i) below fits = fits_at slots i (omega (arith, below)) fits.1

slots_from : (slots : List Slot) (i : ℕ) → i < length slots
    → slots_bytes (drop i slots) ≡ slot_bytes (slot_at slots i) ++ slots_bytes (drop (i + 1) slots)
unfolding slots_bytes
slots_from [] i below = absurd (omega arith)
slots_from (s ∷ slots) zero below = refl
slots_from (s ∷ slots) (suc i) below =
    let e : suc i + 1 ≡ suc (i + 1) = omega arith in
    slots_from slots i (omega (arith, below))
    ∙ ap (λ (k : ℕ). slot_bytes (slot_at slots i) ++ slots_bytes (drop k (s ∷ slots))) (sym e)

-- what is read of the next slot
pub next_read : (slots : List Slot) (i : ℕ) (rest tail : List ℕ) → i < length slots
    → AllByRecursion FitsSlot slots
    → rest ≡ slots_bytes (drop i slots) ++ tail
    → slot_read rest ≡ Some (entry_of (slot_at slots i), slots_bytes (drop (i + 1) slots) ++ tail)
next_read slots i rest tail below fits is =
    let s : Slot = slot_at slots i in
    let after : List ℕ = slots_bytes (drop (i + 1) slots) in
    ap slot_read
    (is ∙ ap (λ (bytes : List ℕ). bytes ++ tail) (slots_from slots i below)
    ∙ append_assoc (slot_bytes s) after tail)
    ∙ slot_again s (after ++ tail) (fits_at slots i below fits)
