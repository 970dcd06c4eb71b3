-- How an index follows the row of one home.
use Rattle.std.proofs.Common.{◌≡◌, ℕ, Bool, true, false, List, Option, Some, None, refl, sym, ◌∙◌}
use Rattle.std.proofs.Common.{ap, subst, arith}
use Rattle.std.specs.Prelude.{◌==◌, ◌&&◌, not, if◌then◌else◌}
use Rattle.std.proofs.lemmas.Bool.{eqb-true}
use Rattle.std.proofs.lemmas.Bool.Decides.{nat_tests}
use Rattle.std.proofs.Math.Bool.{and-false}
use Rattle.rg_base.specs.declared.place.Place.{Place}
use Rattle.rg_base.specs.declared.row.Row.{Row}
use Rattle.rg_base.specs.declared.which.Which.{Which}
use Rattle.rg_base.specs.Place.{same_place}
use Rattle.rg_model.specs.Layout.{put_entry, value_of, same_entry}
use Rattle.rg_index.specs.Entries.{has_entry, without_entry}
use Rattle.rg_index.specs.Listed.{IsListingOf, SetsRow, has_value}
use Rattle.rg_index.proofs.Listing.{more_rows, fewer_rows}
use Rattle.rg_index.proofs.Lists.{has_entry-without_entry}

pub row_comes : (which : Which) (xs ys : List (ℕ × Place)) (home : Place)
    (before after : Option Row) (row : Row) (value : ℕ)
    → before ≡ None → after ≡ Some row → value ≡ value_of which row
    → ys ≡ put_entry (value, home) xs
    → (old new : Place → Option Row) → IsListingOf which old xs → old home ≡ before
    → SetsRow old new home after → IsListingOf which new ys
row_comes which xs ys home before after row value b a v e old new is here sets =
    subst (IsListingOf which new) (ap (λ (x : ℕ). put_entry (x, home) xs) (sym v) ∙ sym e)
    (more_rows which old new home row xs is (here ∙ b) (subst (SetsRow old new home) a sets))

pub row_goes : (which : Which) (xs ys : List (ℕ × Place)) (home : Place) (before after : Option Row)
    (row : Row) (value : ℕ)
    → before ≡ Some row → after ≡ None → value ≡ value_of which row
    → ys ≡ without_entry (value, home) xs
    → (old new : Place → Option Row) → IsListingOf which old xs → old home ≡ before
    → SetsRow old new home after → IsListingOf which new ys
row_goes which xs ys home before after row value b a v e old new is here sets =
    subst (IsListingOf which new) (ap (λ (x : ℕ). without_entry (x, home) xs) (sym v) ∙ sym e)
    (fewer_rows which old new home row xs is (here ∙ b) (subst (SetsRow old new home) a sets))

-- the row goes first, and then the other comes
pub row_changes : (which : Which) (xs ys zs : List (ℕ × Place)) (home : Place)
    (before after : Option Row) (row next : Row) (value more : ℕ)
    → before ≡ Some row → after ≡ Some next → value ≡ value_of which row
    → more ≡ value_of which next
    → ys ≡ without_entry (value, home) xs → zs ≡ put_entry (more, home) ys
    → (old new : Place → Option Row) → IsListingOf which old xs → old home ≡ before
    → SetsRow old new home after → IsListingOf which new zs
row_changes which xs ys zs home before after row next value more b a v w e f old new is here sets =
    row_comes which ys zs home None after next more refl a w f mid new
    (row_goes which xs ys home before None row value b refl v e old mid is here
    (record {
      set = at (same_place home home) (self home);
      others = λ p apart. ap (λ (t : Bool). if t then None else old p) apart;
    }))
    (at (same_place home home) (self home))
    (record {
      set = sets.set;
      others =
          λ p apart. sets.others p apart ∙ sym (ap (λ (t : Bool). if t then None else old p) apart);
    })
  where
    mid : Place → Option Row
    mid p = if same_place p home then None else old p

    self : (p : Place) → same_place p p ≡ true
    self p = grind (arith, nat_tests)

    at : (t : Bool) → t ≡ true → (if t then None else old home) ≡ None
    at t e = ap (λ (t : Bool). if t then None else old home) e

-- no entry with another value is at the home
pub other_absent : (which : Which) (xs ys : List (ℕ × Place)) (home : Place) (row : Row)
    (before : Option Row) (value more : ℕ)
    → ((x : ℕ) → has_entry xs (x, home) ≡ has_value which x before) → before ≡ Some row
    → value ≡ value_of which row → (more ≡ value → ⊥)
    → ys ≡ without_entry (value, home) xs → has_entry ys (more, home) ≡ false
other_absent which xs ys home row before value more listed b v apart e =
    ap (λ (es : List (ℕ × Place)). has_entry es (more, home)) e
    ∙ has_entry-without_entry (value, home) xs (more, home)
    ∙ ap (λ (t : Bool). not (same_entry (value, home) (more, home)) && t)
    (listed more ∙ ap (has_value which more) b ∙ differs (more == value_of which row) refl)
    ∙ and-false (not (same_entry (value, home) (more, home)))
  where
    differs : (t : Bool) → (more == value_of which row) ≡ t → t ≡ false
    differs true f = absurd (apart (eqb-true more (value_of which row) f ∙ sym v))
    differs false f = refl
