-- The rows of a page, one slot after the other.
use Rattle.std.proofs.Common.{◌≡◌, ℕ, zero, suc, ◌+◌, List, ◌++◌, map, refl, sym, ap, ◌∙◌, arith}
use Rattle.std.proofs.Common.{append_assoc, append-nil}
use Rattle.std.proofs.lemmas.List.{map-append}
use Rattle.rg_base.specs.declared.place.Place.{Place}
use Rattle.rg_base.specs.declared.row.Row.{Row as TableRow}
use Rattle.rg_home.specs.Rows.{row_at}
use Rattle.rg_home.specs.Slot.{Slot}
use Rattle.rg_base.specs.declared.values.Values.{Values}
use Rattle.rg_space.specs.Homes.{homed_values, place_on, home_with, rows_from}

abbrev one : (Place → Slot) → (n i : ℕ) → List (Place × TableRow)
one at n i = home_with (place_on n i) (row_at at (place_on n i))

-- one slot more, at the end
rows_more : (at : Place → Slot) (n i count : ℕ)
    → rows_from at n i (suc count) ≡ rows_from at n i count ++ one at n (i + count)
rows_more at n i zero = append-nil (one at n i) ∙ ap (one at n) (add_zero i)
  where
    add_zero : (i : ℕ) → i ≡ i + 0
    add_zero i = omega arith
rows_more at n i (suc count) =
    ap (λ (rest : List (Place × TableRow)). one at n i ++ rest)
    (rows_more at n (i + 1) count
    ∙ ap (λ (k : ℕ). rows_from at n (i + 1) count ++ one at n k) (shift i count))
    ∙ sym (append_assoc (one at n i) (rows_from at n (i + 1) count) (one at n (i + suc count)))
  where
    shift : (i count : ℕ) → (i + 1) + count ≡ i + suc count
    shift i count = omega arith

-- the row of slot i added to those before it
pub row_added : (at : Place → Slot) (n i : ℕ) (rows after : List (Place × TableRow))
    → rows ≡ rows_from at n 0 i → after ≡ rows ++ one at n i → after ≡ rows_from at n 0 (i + 1)
row_added at n i rows after so_far is =
    is ∙ ap (λ (rs : List (Place × TableRow)). rs ++ one at n i) so_far
    ∙ ap (λ (k : ℕ). rows_from at n 0 i ++ one at n k) (zero_add i) ∙ sym (rows_more at n 0 i)
    ∙ ap (rows_from at n 0) (next i)
  where
    zero_add : (i : ℕ) → i ≡ 0 + i
    zero_add i = omega arith

    next : (i : ℕ) → suc i ≡ i + 1
    next i = omega arith

-- the values of slot i's row added to those of the rows before it
pub values_added : (at : Place → Slot) (n i : ℕ) (values after : List (Place × Values))
    → values ≡ map homed_values (rows_from at n 0 i)
    → after ≡ values ++ map homed_values (one at n i)
    → after ≡ map homed_values (rows_from at n 0 (i + 1))
values_added at n i values after so_far is =
    is ∙ ap (λ (vs : List (Place × Values)). vs ++ map homed_values (one at n i)) so_far
    ∙ sym (map-append homed_values (rows_from at n 0 i) (one at n i))
    ∙ ap (map homed_values)
    (row_added at n i (rows_from at n 0 i) (rows_from at n 0 i ++ one at n i) refl refl)
