-- Places before one another.
use Rattle.std.proofs.Common.{◌≡◌, true, sym, subst, arith}
use Rattle.std.proofs.lemmas.Bool.Decides.{nat_tests}
use Rattle.rg_base.specs.declared.place.Place.{Place}
use Rattle.rg_model.specs.Layout.{is_place_before}

pub never_itself : (p : Place) → is_place_before p p ≡ true → ⊥
never_itself p e = grind (arith, nat_tests, e)

pub not_itself : (p q : Place) → is_place_before p q ≡ true → p ≡ q → ⊥
not_itself p q before e =
    never_itself p (subst (λ r. is_place_before p r ≡ true) (sym e) before)

pub never_both : (p q : Place) → is_place_before p q ≡ true → is_place_before q p ≡ true → ⊥
never_both p q e f = grind (arith, nat_tests)
