-- What a test says.
use Rattle.std.proofs.Common.{◌≡◌, Bool, true, false, Some, None, Result, Ok, Err, IfOk}
use Rattle.std.proofs.Common.{refl, ap, subst}
use Rattle.rg_base.specs.declared.place.Place.{Place}
use Rattle.rg_base.specs.Place.{same_place}
use Rattle.rg_base.proofs.SamePlace.{same_place-true, same_place-refl}
use Rattle.rg_check.specs.PageTests.Places.{Says}

pub says_yes : (b : Bool) (P : Type 0) → b ≡ true → Says b P → P
says_yes b P e says = subst (λ (x : Bool). Says x P) e says

pub says_no : (b : Bool) (P : Type 0) → b ≡ false → Says b P → P → ⊥
says_no b P e says = subst (λ (x : Bool). Says x P) e says

pub says_both : (b : Bool) (P Q : Type 0) → (P → Q) → (Q → P) → Says b P → Says b Q
says_both true P Q to back p = to p
says_both false P Q to back denied = λ q. denied (back q)

pub says_place : (p q : Place) → Says (same_place p q) (p ≡ q)
says_place p q = go (same_place p q) refl
  where
    go : (b : Bool) → same_place p q ≡ b → Says b (p ≡ q)
    go true e = same_place-true p q e
    go false e = λ f. cc (e, same_place-refl q, ap (λ (r : Place). same_place r q) f)

pub none_some : {A : Type 0} (x : A) → None ≡ Some x → ⊥
none_some x e = cc (e)

pub ok_map : {A E : Type 0} (r : Result A E) (P Q : A → Type 0) → ((x : A) → P x → Q x) → IfOk r P
    → IfOk r Q
ok_map (Ok x) P Q f h = f x h
ok_map (Err e) P Q f h = h
