-- Tests of numbers and of truth values.
use Rattle.std.proofs.Common.{◌≡◌, ◌&&◌, ◌||◌, ◌<◌, nat_lt, ℕ, Bool, true}
use Rattle.std.proofs.Common.{false, not, cond, Option, Some, None, is_some, refl, arith}
use Rattle.std.proofs.lemmas.Bool.Decides.{nat_tests}

pub not_below : (a b : ℕ) → (a < b → ⊥) → nat_lt a b ≡ false
not_below a b ge = grind (arith, nat_tests)

pub twice : {X : Type 0} (b : Bool) (x y z : X) → cond b x (cond b y z) ≡ cond b x z
twice true x y z = refl
twice false x y z = refl

pub some_or : {X : Type 0} (b : Bool) (x : X) (o : Option X)
    → is_some (cond b (Some x) o) ≡ (b || is_some o)
some_or true x o = refl
some_or false x o = refl

pub none_or : {X : Type 0} (b : Bool) (o : Option X)
    → is_some (cond b None o) ≡ (not b && is_some o)
none_or true o = refl
none_or false o = refl

pub and_comm : (a b : Bool) → (a && b) ≡ (b && a)
and_comm true b = by b where
  by : (b : Bool) → b ≡ (b && true)
  by true = refl
  by false = refl
and_comm false b = by b where
  by : (b : Bool) → false ≡ (b && false)
  by true = refl
  by false = refl

pub not_and : (a : Bool) → (not a && a) ≡ false
not_and true = refl
not_and false = refl
