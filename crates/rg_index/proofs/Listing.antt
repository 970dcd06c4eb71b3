-- An index and the rows that it lists.
use Rattle.std.proofs.Common.{◌≡◌, ◌==◌, ◌&&◌, ◌||◌, ℕ, Bool, true, false, List, [], ◌∷◌, ◌++◌, not}
use Rattle.std.proofs.Common.{Option, Some, None, refl, sym, ◌∙◌, ap, subst, inl, inr}
use Rattle.std.proofs.Common.{if◌then◌else◌, arith}
use Rattle.std.proofs.lemmas.Bool.{and_parts, cases_Bool, not-true}
use Rattle.std.proofs.lemmas.Bool.Decides.{nat_tests}
use Rattle.std.specs.List.{flat_map, list_all}
use Rattle.std.specs.FinMap as fin
use Rattle.rg_base.specs.declared.place.Place.{Place}
use Rattle.rg_base.specs.declared.row.Row.{Row}
use Rattle.rg_base.specs.declared.which.Which.{Which}
use Rattle.rg_stmt.specs.declared.layout.Spot.{Spot}
use Rattle.rg_base.specs.Place.{same_place}
use Rattle.rg_base.proofs.SamePlace.{same_place-true, same_place-refl, same_place-turned}
use Rattle.rg_model.specs.Layout.{value_of, same_entry, put_entry, sorted_entries}
use Rattle.rg_model.specs.Layout.{listing, listed_entry, homes, are_different}
use Rattle.rg_model.specs.State.{Table}
use Rattle.rg_index.specs.Entries.{IsRising, has_entry, without_entry}
use Rattle.rg_index.specs.Listed.{has_value, IsListingOf, SetsRow, spot_row}
use Rattle.rg_index.proofs.Lists.{has_entry-put_entry, has_entry-without_entry, IsRising-put_entry}
use Rattle.rg_index.proofs.Lists.{same_members}

-- cases at the place of a change
at_place : (p place : Place) (T : Place → Type 0) → T place → (same_place p place ≡ false → T p)
    → T p
at_place p place T here other =
    elim (cases_Bool (same_place p place)) [
      | inl same ↦ subst T (sym (same_place-true p place same)) here
      | inr apart ↦ other apart
    ]

-- ---- one row more, or fewer

pub absent_without_row : (which : Which) (row_at : Place → Option Row) (entries : List (ℕ × Place))
    (value : ℕ) (place : Place) → IsListingOf which row_at entries → row_at place ≡ None
    → has_entry entries (value, place) ≡ false
absent_without_row which row_at entries value place is none =
    is value place ∙ ap (has_value which value) none

pub more_rows : (which : Which) (old new : Place → Option Row) (place : Place) (row : Row)
    (entries : List (ℕ × Place))
    → IsListingOf which old entries → old place ≡ None → SetsRow old new place (Some row)
    → IsListingOf which new (put_entry (value_of which row, place) entries)
more_rows which old new place row entries is none sets value p =
    has_entry-put_entry (value_of which row, place) entries (value, p)
    ∙ ap (λ b. (value == value_of which row && same_place p place) || b) (is value p)
    ∙ at_place p place
    (λ q. ((value == value_of which row && same_place q place) || has_value which value (old q))
    ≡ has_value which value (new q))
    ((λ i. (value == value_of which row && same_place-refl place i)
    || has_value which value (none i))
    ∙ only (value == value_of which row) ∙ sym (ap (has_value which value) sets.set))
    (λ apart. (λ i. (value == value_of which row && apart i) || has_value which value (old p))
    ∙ rest (value == value_of which row) (has_value which value (old p))
    ∙ sym (ap (has_value which value) (sets.others p apart)))
  where
    only : (a : Bool) → ((a && true) || false) ≡ a
    only true = refl
    only false = refl

    rest : (a b : Bool) → ((a && false) || b) ≡ b
    rest true b = refl
    rest false b = refl

pub fewer_rows : (which : Which) (old new : Place → Option Row) (place : Place) (row : Row)
    (entries : List (ℕ × Place))
    → IsListingOf which old entries → old place ≡ Some row → SetsRow old new place None
    → IsListingOf which new (without_entry (value_of which row, place) entries)
fewer_rows which old new place row entries is some sets value p =
    has_entry-without_entry (value_of which row, place) entries (value, p)
    ∙ ap (λ b. not (value_of which row == value && same_place place p) && b) (is value p)
    ∙ at_place p place
    (λ q. (not (value_of which row == value && same_place place q) && has_value which value (old q))
    ≡ has_value which value (new q))
    ((λ i. not (value_of which row == value && same_place-refl place i)
    && has_value which value (some i))
    ∙ gone (value_of which row) value ∙ sym (ap (has_value which value) sets.set))
    (λ apart.
    (λ i. not (value_of which row == value && (same_place-turned place p ∙ apart) i)
    && has_value which value (old p))
    ∙ rest (value_of which row == value) (has_value which value (old p))
    ∙ sym (ap (has_value which value) (sets.others p apart)))
  where
    gone : (a b : ℕ) → (not (a == b && true) && (b == a)) ≡ false
    gone a b = grind (arith, nat_tests)

    rest : (a b : Bool) → (not (a && false) && b) ≡ b
    rest true b = refl
    rest false b = refl

-- a row that keeps its value
pub same_rows : (which : Which) (old new : Place → Option Row) (place : Place) (before after : Row)
    (entries : List (ℕ × Place))
    → IsListingOf which old entries → old place ≡ Some before → SetsRow old new place (Some after)
    → value_of which after ≡ value_of which before → IsListingOf which new entries
same_rows which old new place before after entries is some sets same value p =
    is value p
    ∙ at_place p place (λ q. has_value which value (old q) ≡ has_value which value (new q))
    (ap (has_value which value) some ∙ ap (λ v. value == v) (sym same)
    ∙ sym (ap (has_value which value) sets.set))
    (λ apart. sym (ap (has_value which value) (sets.others p apart)))

-- ---- the listing of spots

-- no entry stands twice
abbrev AreApart : List (ℕ × Place) → Type 0
AreApart [] = Unit {0}
AreApart (e ∷ es) = (has_entry es e ≡ false) × AreApart es

has_entry-sorted : (es : List (ℕ × Place)) (q : ℕ × Place)
    → has_entry (sorted_entries es) q ≡ has_entry es q
has_entry-sorted [] q = refl
has_entry-sorted (e ∷ es) q = has_entry-put_entry e (sorted_entries es) q
    ∙ ap (λ b. same_entry q e || b) (has_entry-sorted es q)

IsRising-sorted : (es : List (ℕ × Place)) → AreApart es → IsRising (sorted_entries es)
IsRising-sorted [] apart = tt
IsRising-sorted (e ∷ es) apart = IsRising-put_entry e (sorted_entries es)
    (IsRising-sorted es apart.1) (has_entry-sorted es e ∙ apart.0)

abbrev entries_of : Which → Table → List Spot → List (ℕ × Place)
entries_of which table spots =
    flat_map (λ spot. listed_entry which spot.place (fin.get table spot.key)) spots

no_spot : (table : Table) (spots : List Spot) (place : Place)
    → list_all (λ later. not (same_place place later)) (homes spots) ≡ true
    → spot_row table spots place ≡ None
no_spot table [] place apart = refl
no_spot table (spot ∷ spots) place apart =
    let parts = and_parts (not (same_place place spot.place))
    (list_all (λ later. not (same_place place later)) (homes spots)) apart in
    (λ i. if not-true (same_place place spot.place) parts.0 i then fin.get table spot.key
    else spot_row table spots place) ∙ no_spot table spots place parts.1

one_more : (which : Which) (place : Place) (row : Option Row) (es : List (ℕ × Place)) (value : ℕ)
    (p : Place)
    → has_entry (listed_entry which place row ++ es) (value, p)
    ≡ ((has_value which value row && same_place p place) || has_entry es (value, p))
one_more which place None es value p = refl
one_more which place (Some row) es value p = refl

has_entry-entries_of : (which : Which) (table : Table) (spots : List Spot)
    → are_different (homes spots) ≡ true
    → IsListingOf which (spot_row table spots) (entries_of which table spots)
has_entry-entries_of which table [] apart value p = refl
has_entry-entries_of which table (spot ∷ spots) apart value p =
    let parts = and_parts (list_all (λ later. not (same_place spot.place later)) (homes spots))
    (are_different (homes spots)) apart in
    let row = fin.get table spot.key in
    one_more which spot.place row (entries_of which table spots) value p
    ∙ ap (λ b. (has_value which value row && same_place p spot.place) || b)
    (has_entry-entries_of which table spots parts.1 value p)
    ∙ at_place p spot.place
    (λ q.
    ((has_value which value row && same_place q spot.place)
    || has_value which value (spot_row table spots q))
    ≡ has_value which value (if same_place q spot.place then row else spot_row table spots q))
    ((λ i. (has_value which value row && same_place-refl spot.place i)
    || has_value which value (no_spot table spots spot.place parts.0 i))
    ∙ only (has_value which value row)
    ∙ (λ i. has_value which value
    (if sym (same_place-refl spot.place) i then row else spot_row table spots spot.place)))
    (λ other.
    (λ i. (has_value which value row && other i) || has_value which value (spot_row table spots p))
    ∙ rest (has_value which value row) (has_value which value (spot_row table spots p))
    ∙ (λ i. has_value which value (if sym other i then row else spot_row table spots p)))
  where
    only : (a : Bool) → ((a && true) || false) ≡ a
    only true = refl
    only false = refl

    rest : (a b : Bool) → ((a && false) || b) ≡ b
    rest true b = refl
    rest false b = refl

AreApart-entries_of : (which : Which) (table : Table) (spots : List Spot)
    → are_different (homes spots) ≡ true → AreApart (entries_of which table spots)
AreApart-entries_of which table [] apart = tt
AreApart-entries_of which table (spot ∷ spots) apart =
    let parts = and_parts (list_all (λ later. not (same_place spot.place later)) (homes spots))
    (are_different (homes spots)) apart in
    more (fin.get table spot.key)
    (λ value. absent_without_row which (spot_row table spots) (entries_of which table spots) value
    spot.place (has_entry-entries_of which table spots parts.1)
    (no_spot table spots spot.place parts.0)) (AreApart-entries_of which table spots parts.1)
  where
    more : (row : Option Row)
        → ((value : ℕ) → has_entry (entries_of which table spots) (value, spot.place) ≡ false)
        → AreApart (entries_of which table spots)
        → AreApart (listed_entry which spot.place row ++ entries_of which table spots)
    more None absent rest = rest
    more (Some row) absent rest = (absent (value_of which row), rest)

pub listing_rises : (which : Which) (table : Table) (spots : List Spot)
    → are_different (homes spots) ≡ true → IsRising (listing which table spots)
listing_rises which table spots apart =
    IsRising-sorted (entries_of which table spots) (AreApart-entries_of which table spots apart)

pub listing_of_spots : (which : Which) (table : Table) (spots : List Spot)
    → are_different (homes spots) ≡ true
    → IsListingOf which (spot_row table spots) (listing which table spots)
listing_of_spots which table spots apart value p =
    has_entry-sorted (entries_of which table spots) (value, p)
    ∙ has_entry-entries_of which table spots apart value p

pub one_listing : (which : Which) (row_at : Place → Option Row) (xs ys : List (ℕ × Place))
    → IsRising xs → IsRising ys → IsListingOf which row_at xs → IsListingOf which row_at ys
    → xs ≡ ys
one_listing which row_at xs ys a b is it =
    same_members xs ys a b (λ q. is q.0 q.1 ∙ sym (it q.0 q.1))

pub listing_is : (which : Which) (row_at : Place → Option Row) (table : Table) (spots : List Spot)
    (entries : List (ℕ × Place)) → are_different (homes spots) ≡ true
    → ((place : Place) → row_at place ≡ spot_row table spots place) → IsRising entries
    → IsListingOf which row_at entries → entries ≡ listing which table spots
listing_is which row_at table spots entries apart same rising is =
    one_listing which row_at entries (listing which table spots) rising
    (listing_rises which table spots apart) is
    (λ value place. listing_of_spots which table spots apart value place
    ∙ ap (has_value which value) (sym (same place)))
