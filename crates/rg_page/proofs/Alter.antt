-- A list with one item put at its number, past others where there are fewer.
use Rattle.std.proofs.Common.{◌≡◌, ◌≤◌, ◌<◌, ℕ, zero, suc, ◌+◌, List, [], ◌∷◌, ◌++◌, length, take}
use Rattle.std.proofs.Common.{set, refl, ap, arith}
use Rattle.rg_home.specs.Pages.{altered}

module _ {A : Type 0} (d : A) (f : A → A) where
  pub altered-more : (xs : List A) (n : ℕ) → length xs < n
      → altered d f (xs ++ d ∷ []) n ≡ altered d f xs n
  altered-more [] zero below = absurd (omega arith)
  altered-more [] (suc n) below = refl
  altered-more (x ∷ xs) zero below = absurd (omega arith)
  altered-more (x ∷ xs) (suc n) below =
      ap (λ (ys : List A). x ∷ ys) (altered-more xs n (omega arith))

  pub altered-end : (xs : List A) (n : ℕ) → length xs ≡ n → altered d f xs n ≡ xs ++ f d ∷ []
  altered-end [] zero e = refl
  altered-end [] (suc n) e = absurd (omega arith)
  altered-end (x ∷ xs) zero e = absurd (omega arith)
  altered-end (x ∷ xs) (suc n) e = ap (λ (ys : List A). x ∷ ys) (altered-end xs n (omega arith))

  pub altered-front : (xs : List A) (n m : ℕ) → m ≤ length xs → length xs ≤ n
      → take m (altered d f xs n) ≡ take m xs
  altered-front xs n zero few past = refl
  altered-front [] n (suc m) few past = absurd (omega arith)
  altered-front (x ∷ xs) zero (suc m) few past = absurd (omega arith)
  altered-front (x ∷ xs) (suc n) (suc m) few past =
      ap (λ (ys : List A). x ∷ ys) (altered-front xs n m (omega arith) (omega arith))

  pub length-altered_past : (xs : List A) (n : ℕ) → length xs ≤ n
      → length (altered d f xs n) ≡ n + 1
  length-altered_past [] zero past = omega arith
  length-altered_past [] (suc n) past = omega (arith, length-altered_past [] n (omega arith))
  length-altered_past (x ∷ xs) zero past = absurd (omega arith)
  length-altered_past (x ∷ xs) (suc n) past = omega (arith, length-altered_past xs n (omega arith))

pub altered-set : {A : Type 0} (d x : A) (xs : List A) (n : ℕ) → n < length xs
    → altered d (λ _. x) xs n ≡ set xs n x
altered-set d x [] n below = absurd (omega arith)
altered-set d x (y ∷ xs) zero below = refl
altered-set d x (y ∷ xs) (suc n) below =
    ap (λ (ys : List _). y ∷ ys) (altered-set d x xs n (omega arith))
