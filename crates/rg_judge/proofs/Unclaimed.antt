-- Nobody holds a claim.
use Rattle.std.proofs.Common.{◌≡◌, ◌==◌, ℕ, suc, true, false, not, List, [], ◌∷◌, filter, length}
use Rattle.std.proofs.Common.{refl, sym, ◌∙◌, ap, arith}
use Rattle.std.specs.FinMap as map
use Rattle.std.specs.FinMap.{len-entries}
use Rattle.std.specs.Option.{is_some}
use Rattle.std.proofs.lemmas.Bool.Decides.{nat_tests}
use Rattle.rg_base.specs.declared.options.DrainFor.TheVariants.{All}
use Rattle.rg_base.specs.declared.options.DrainState.TheVariants.{Asked}
use Rattle.rg_base.specs.declared.session.Class.{Class}
use Rattle.rg_base.specs.declared.session.Class.TheVariants.{Reader, Writer}
use Rattle.rg_model.specs.Claims.{first_session, is_holder, least_holder}
use Rattle.rg_model.specs.State.{Claims}

holds_any : (n : ℕ) (class : Class) → is_holder (Asked All) (n, class) ≡ true
holds_any n Reader = refl
holds_any n Writer = refl

none_first : (es : List (ℕ × Class))
    → not (is_some (first_session (filter (is_holder (Asked All)) es))) ≡ (length es == 0)
none_first [] = refl
none_first (e ∷ es) = rw (holds_any e.0 e.1) (zero_not (length es)) where
  zero_not : (n : ℕ) → false ≡ (suc n == 0)
  zero_not n = grind (arith, nat_tests)

-- nobody holds a class where all are drained
pub unclaimed : (claims : Claims)
    → not (is_some (least_holder (Asked All) claims)) ≡ (map.len claims == 0)
unclaimed claims = none_first (map.entries claims) ∙ ap (λ n. n == 0) (sym (len-entries claims))
