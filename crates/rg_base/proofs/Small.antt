-- Small facts on truth values, options, lists and comparisons of numbers, which std does not have.
use Rattle.std.proofs.Common.{◌≡◌, ◌==◌, ◌<◌, ◌≤◌, ◌+◌, ◌++◌, ◌&&◌, ℕ, zero, suc, Bool, true, false}
use Rattle.std.proofs.Common.{List}
use Rattle.std.proofs.Common.{[], ◌∷◌, take, drop, Option, Some, None, is_some, refl}
use Rattle.std.proofs.Common.{◌∙◌}
use Rattle.std.proofs.Common.{ap, arith}
use Rattle.std.proofs.Math.Dec.{T}
use Rattle.std.specs.Ordering.{nat_cmp, eq_by_cmp, is_lt}
use Rattle.std.proofs.lemmas.Bool.Decides.{nat_tests}

-- ---- truth values

pub not_both : (b : Bool) → b ≡ true → b ≡ false → ⊥
not_both true e f = absurd (cc (f))
not_both false e f = absurd (cc (e))

pub second_true : (a b : Bool) → (a && b) ≡ true → b ≡ true
second_true true b e = e
second_true false b e = absurd (cc (e))

pub both_hold : (a b : Bool) → T a → T b → T (a && b)
both_hold true b p q = q
both_hold false b p q = absurd p

pub true_of : (b : Bool) → T b → b ≡ true
true_of true h = refl
true_of false h = absurd h

-- ---- options and lists

pub none_of : {V : Type 0} (o : Option V) → is_some o ≡ false → o ≡ None
none_of None e = refl
none_of (Some x) e = absurd (cc (e))

pub take_suc : {A : Type 0} (k : ℕ) (xs : List A)
    → take (suc k) xs ≡ take k xs ++ take 1 (drop k xs)
take_suc zero [] = refl
take_suc zero (x ∷ xs) = refl
take_suc (suc k) [] = refl
take_suc (suc k) (x ∷ xs) = ap (λ ys. x ∷ ys) (take_suc k xs)

-- ---- comparisons of numbers

pub nat_itself : (n : ℕ) → (n == n) ≡ true
nat_itself n = grind (arith, nat_tests)

pub nat_turned : (m n : ℕ) → (m == n) ≡ (n == m)
nat_turned m n = grind (arith, nat_tests)

pub nat_apart_turned : (a b : ℕ) → (a == b) ≡ false → (b == a) ≡ false
nat_apart_turned a b e = grind (arith, nat_tests)

pub nat_pair_itself : (n a : ℕ) → (n == n && a == a) ≡ true
nat_pair_itself n a = grind (arith, nat_tests)

pub nat_some : (n : ℕ) → (n == 0) ≡ false → 1 ≤ n
nat_some n e = grind (arith, nat_tests)

pub cmp_same : (a : ℕ) → eq_by_cmp nat_cmp a a ≡ true
cmp_same a = grind (arith, nat_tests)

pub cmp_equal : (a b : ℕ) → a ≡ b → eq_by_cmp nat_cmp a b ≡ true
cmp_equal a b e = grind (arith, nat_tests)

pub cmp_apart : (a b : ℕ) → (a ≡ b → ⊥) → eq_by_cmp nat_cmp a b ≡ false
cmp_apart a b differ = grind (arith, nat_tests)

pub cmp_one : (a b : ℕ) → eq_by_cmp nat_cmp a b ≡ true → a ≡ b
cmp_one a b e = grind (arith, nat_tests)

pub cmp_turned : (a b : ℕ) → eq_by_cmp nat_cmp a b ≡ (b == a)
cmp_turned a b = grind (arith, nat_tests)

pub cmp_below : (a b : ℕ) → a < b → is_lt (nat_cmp a b) ≡ true
cmp_below a b lt = grind (arith, nat_tests)

-- ---- sums

pub plus_suc : (i k : ℕ) → i + suc k ≡ i + 1 + k
plus_suc i k = omega arith
