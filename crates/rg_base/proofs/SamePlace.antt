-- Places that are the same.
use Rattle.std.proofs.Common.{◌≡◌, ◌==◌, ◌&&◌, ℕ, Bool, true, false, refl, ap, arith}
use Rattle.std.proofs.lemmas.Bool.{eqb-true, eq-eqb, and_parts, and_from}
use Rattle.std.proofs.lemmas.Bool.Decides.{nat_tests}
use Rattle.rg_base.specs.declared.place.Place.{Place}
use Rattle.rg_base.specs.Place.{same_place}

pub place_is : (p q : Place) → p.page ≡ q.page → p.slot ≡ q.slot → p ≡ q
place_is p q page slot = λ i. record { page = page i; slot = slot i }

pub same_place-true : (p q : Place) → same_place p q ≡ true → p ≡ q
same_place-true p q e =
    let parts = and_parts _ _ e in
    place_is p q (eqb-true p.page q.page parts.0) (eqb-true p.slot q.slot parts.1)

pub same_place-refl : (p : Place) → same_place p p ≡ true
same_place-refl p = and_from _ _ (eq-eqb p.page p.page refl) (eq-eqb p.slot p.slot refl)

pub same_place-turned : (p q : Place) → same_place p q ≡ same_place q p
same_place-turned p q = go p.page p.slot q.page q.slot
  where
    go : (a b c d : ℕ) → (a == c && b == d) ≡ (c == a && d == b)
    go a b c d = grind (arith, nat_tests)

pub same_place-sym : (p q : Place) → same_place p q ≡ false → same_place q p ≡ false
same_place-sym p q e = go (same_place q p) refl
  where
    go : (b : Bool) → same_place q p ≡ b → same_place q p ≡ false
    go false h = h
    go true h = absurd (cc (e, same_place-refl p, ap (same_place p) (same_place-true q p h)))

pub apart : (p q : Place) → (p ≡ q → ⊥) → same_place p q ≡ false
apart p q n = go (same_place p q) refl
  where
    go : (b : Bool) → same_place p q ≡ b → same_place p q ≡ false
    go false h = h
    go true h = absurd (n (same_place-true p q h))
