-- What entries list of rows: each has its row, and two of them have two rows.
use Rattle.std.proofs.Common.{◌≡◌, ◌==◌, ◌&&◌, ◌≤◌, ℕ, ◌+◌, true, List, [], ◌∷◌, Option, Some, None}
use Rattle.std.proofs.Common.{refl, sym, ◌∙◌, inl, inr, arith}
use Rattle.std.specs.Prelude.{nat_le}
use Rattle.std.proofs.lemmas.Bool.{and_parts, eqb-true, leb-true, or_cases, or_left, or_right}
use Rattle.std.proofs.lemmas.Bool.{false≢true}
use Rattle.rg_base.specs.declared.place.Place.{Place}
use Rattle.rg_base.specs.declared.row.Row.{Row}
use Rattle.rg_base.specs.declared.which.Which.{Which}
use Rattle.rg_base.proofs.Each.{Each-map}
use Rattle.rg_model.specs.Layout.{value_of, same_entry, is_place_before, is_entry_before}
use Rattle.std.specs.List.{AllByRecursion}
use Rattle.rg_index.specs.Entries.{has_entry}
use Rattle.rg_index.specs.Listed.{IsListingOf, has_value}
use Rattle.rg_index.proofs.Order.{same_itself}

-- the row at the place of an entry, which has its value
pub record IsRowOf (which : Which) (rows : Place → Option Row) (e : ℕ × Place) : Type 0 where
  pub row : Row
  pub is : rows e.1 ≡ Some row
  pub value : value_of which row ≡ e.0

-- each entry of a list is one that the list has
each_member : (all es : List (ℕ × Place))
    → ((q : ℕ × Place) → has_entry es q ≡ true → has_entry all q ≡ true)
    → AllByRecursion (λ e. has_entry all e ≡ true) es
each_member all [] among = tt
each_member all (e ∷ es) among = (
  among e (or_left (same_entry e e) (has_entry es e) (same_itself e)),
  each_member all es (λ q there. among q (or_right (same_entry q e) (has_entry es q) there)),
)

pub itself_there : (es : List (ℕ × Place)) → AllByRecursion (λ e. has_entry es e ≡ true) es
itself_there es = each_member es es (λ q there. there)

pub row_there : (which : Which) (rows : Place → Option Row) (e : ℕ × Place)
    → has_value which e.0 (rows e.1) ≡ true → IsRowOf which rows e
row_there which rows e has = go (rows e.1) refl has
  where
    go : (row : Option Row) → rows e.1 ≡ row → has_value which e.0 row ≡ true → IsRowOf which rows e
    go None is has = absurd (false≢true has)
    go (Some row) is has =
        record { row = row; is = is; value = sym (eqb-true e.0 (value_of which row) has) }

pub each_row : (which : Which) (rows : Place → Option Row) (es : List (ℕ × Place))
    → IsListingOf which rows es → AllByRecursion (IsRowOf which rows) es
each_row which rows es is = Each-map (λ e. has_entry es e ≡ true) (IsRowOf which rows)
    (λ e there. row_there which rows e (sym (is e.0 e.1) ∙ there)) es (itself_there es)

-- an entry that is not below another in value, and before it, has the same value, and its place is
-- before
pub same_value : (a b : ℕ × Place) → is_entry_before a b ≡ true → b.0 ≤ a.0
    → (a.0 ≡ b.0) × (is_place_before a.1 b.1 ≡ true)
same_value a b before le =
    elim (or_cases (nat_le (a.0 + 1) b.0) (a.0 == b.0 && is_place_before a.1 b.1) before) [
      | inl less ↦ absurd (omega (arith, leb-true (a.0 + 1) b.0 less))
      | inr same ↦
          (let parts = and_parts (a.0 == b.0) (is_place_before a.1 b.1) same in
          (eqb-true a.0 b.0 parts.0, parts.1))
    ]
