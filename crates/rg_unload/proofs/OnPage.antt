-- The rows whose homes are on a page.
use Rattle.std.proofs.Common.{◌≡◌, ℕ, zero, suc, ◌+◌, ◌==◌, ◌&&◌, ◌≤◌, ◌<◌, nat_lt, Bool, true}
use Rattle.std.proofs.Common.{false, List, ◌++◌, Option, Some, None, if◌then◌else◌, length}
use Rattle.std.proofs.Common.{refl, sym, ap, subst, ◌∙◌, arith}
use Rattle.std.proofs.lemmas.Bool.{eqb-true, eqb-false, ltb-false, ltb-true}
use Rattle.std.proofs.lemmas.Bool.Decides.{nat_tests}
use Rattle.std.proofs.lemmas.List.{get_or_past}
use Rattle.rg_base.specs.declared.place.Place.{Place}
use Rattle.rg_base.specs.declared.row.Row.{Row}
use Rattle.rg_base.proofs.Small.{nat_pair_itself}
use Rattle.rg_feed.specs.Fold.Fold.{row_in}
use Rattle.rg_feed.specs.Fold.Lawful.{AreRowsOf}
use Rattle.rg_home.specs.Pages.{page_at, slot_of}
use Rattle.rg_home.specs.Rows.{home_row, row_at}
use Rattle.rg_home.specs.Slot.{Free, Slot}
use Rattle.rg_space.specs.Homes.{home_with, homes_on, place_on, rows_from}

other_slot : (n a b : ℕ) → (a ≡ b → ⊥) → (n == n && a == b) ≡ false
other_slot n a b h = go (a == b) refl
  where
    go : (t : Bool) → (a == b) ≡ t → (n == n && t) ≡ false
    go true e = absurd (h (eqb-true a b e))
    go false e = grind (arith, nat_tests)

-- a row of another slot, before others
skip : (n a b : ℕ) (row : Option Row) (rest : List (Place × Row)) → (a ≡ b → ⊥)
    → row_in (home_with (place_on n a) row ++ rest) (place_on n b) ≡ row_in rest (place_on n b)
skip n a b None rest h = refl
skip n a b (Some row) rest h =
    ap (λ (t : Bool). if t then Some row else row_in rest (place_on n b)) (other_slot n a b h)

-- the row of this slot
here : (n a : ℕ) (row : Option Row) (rest : List (Place × Row)) → row_in rest (place_on n a) ≡ None
    → row_in (home_with (place_on n a) row ++ rest) (place_on n a) ≡ row
here n a None rest h = h
here n a (Some row) rest h =
    ap (λ (t : Bool). if t then Some row else row_in rest (place_on n a)) (nat_pair_itself n a)

-- of the rows of slots from i on, none is of a slot below
none_below : (at : Place → Slot) (n i count s : ℕ) → s < i
    → row_in (rows_from at n i count) (place_on n s) ≡ None
none_below at n i zero s h = refl
none_below at n i (suc count) s h =
    skip n i s (row_at at (place_on n i)) (rows_from at n (i + 1) count) (λ e. omega arith)
    ∙ none_below at n (i + 1) count s (omega arith)

-- and none of a slot past them
none_above : (at : Place → Slot) (n i count s : ℕ) → i + count ≤ s
    → row_in (rows_from at n i count) (place_on n s) ≡ None
none_above at n i zero s h = refl
none_above at n i (suc count) s h =
    skip n i s (row_at at (place_on n i)) (rows_from at n (i + 1) count) (λ e. omega arith)
    ∙ none_above at n (i + 1) count s (omega arith)

found : (at : Place → Slot) (n i count s : ℕ) → i ≤ s → s < i + count
    → row_in (rows_from at n i count) (place_on n s) ≡ row_at at (place_on n s)
found at n i zero s l h = absurd (omega arith)
found at n i (suc count) s l h =
    go (i == s) refl (λ (m : i + 1 ≤ s). found at n (i + 1) count s m (omega arith))
  where
    go : (t : Bool) → (i == s) ≡ t
        → (i + 1 ≤ s
        → row_in (rows_from at n (i + 1) count) (place_on n s) ≡ row_at at (place_on n s))
        →
        row_in (home_with (place_on n i) (row_at at (place_on n i)) ++ rows_from at n (i + 1) count)
        (place_on n s) ≡ row_at at (place_on n s)
    go true e rest =
        subst
        (λ (k : ℕ).
        row_in (home_with (place_on n i) (row_at at (place_on n i)) ++ rows_from at n (i + 1) count)
        (place_on n k) ≡ row_at at (place_on n k))
        (eqb-true i s e)
        (here n i (row_at at (place_on n i)) (rows_from at n (i + 1) count)
        (none_below at n (i + 1) count i (omega arith)))
    go false e rest =
        let off : (i ≡ s → ⊥) = eqb-false i s e in
        skip n i s (row_at at (place_on n i)) (rows_from at n (i + 1) count) off
        ∙ rest (omega (arith, off))

-- each place of the page has the row that the pages have there
pub row_of_copy : (pages : List (List Slot)) (n s : ℕ)
    → row_in (homes_on pages n) (place_on n s) ≡ row_at (slot_of pages) (place_on n s)
row_of_copy pages n s = go (nat_lt s (length (page_at pages n))) refl
  where
    go : (t : Bool) → nat_lt s (length (page_at pages n)) ≡ t
        → row_in (homes_on pages n) (place_on n s) ≡ row_at (slot_of pages) (place_on n s)
    go true e = found (slot_of pages) n 0 (length (page_at pages n)) s (omega arith)
        (omega (arith, ltb-true s (length (page_at pages n)) e))
    go false e =
        none_above (slot_of pages) n 0 (length (page_at pages n)) s
        (omega (arith, ltb-false s (length (page_at pages n)) e))
        ∙ sym
        (ap (home_row (slot_of pages))
        (get_or_past (page_at pages n) s Free (ltb-false s (length (page_at pages n)) e)))

-- the rows have different homes, all on the page
rows_of_from : (at : Place → Slot) (n i count : ℕ) → AreRowsOf n (rows_from at n i count)
rows_of_from at n i zero = tt
rows_of_from at n i (suc count) = go (row_at at (place_on n i)) (rows_of_from at n (i + 1) count)
  where
    go : (row : Option Row) → AreRowsOf n (rows_from at n (i + 1) count)
        → AreRowsOf n (home_with (place_on n i) row ++ rows_from at n (i + 1) count)
    go None rest = rest
    go (Some row) rest = (refl, none_below at n (i + 1) count i (omega arith), rest)

pub rows_of_copy : (pages : List (List Slot)) (n : ℕ) → AreRowsOf n (homes_on pages n)
rows_of_copy pages n = rows_of_from (slot_of pages) n 0 (length (page_at pages n))
