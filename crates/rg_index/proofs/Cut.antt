-- A binary search cuts a list that rises in two.
use Rattle.std.proofs.Common.{◌≡◌, ◌<◌, ◌≤◌, zero, suc, ℕ, Bool, true, false, List, [], ◌∷◌, length}
use Rattle.std.proofs.Common.{take, drop, get_or, arith}
use Rattle.std.specs.List.Sorted.{IsPartitionedBy, IsPartitionPoint}
use Rattle.rg_base.specs.declared.place.Place.{Place}
use Rattle.rg_base.proofs.Each.{Each-at}
use Rattle.rg_model.specs.Layout.{is_entry_before}
use Rattle.std.specs.List.{AllByRecursion}
use Rattle.rg_index.specs.Entries.{IsRising}
use Rattle.rg_index.specs.Split.{IsCutBy}

-- a test that passes what is before each entry that passes
pub partitioned : (p : ℕ × Place → Bool)
    → ((a b : ℕ × Place) → is_entry_before a b ≡ true → p b ≡ true → p a ≡ true)
    → (es : List (ℕ × Place)) → IsRising es → IsPartitionedBy p es
partitioned p down [] rising i j d le lt e = absurd (omega arith)
partitioned p down (x ∷ es) rising zero zero d le lt e = e
partitioned p down (x ∷ es) rising zero (suc j) d le lt e =
    down x (get_or es j d)
    (Each-at (λ later. is_entry_before x later ≡ true) es j d (omega arith) rising.0) e
partitioned p down (x ∷ es) rising (suc i) zero d le lt e = absurd (omega arith)
partitioned p down (x ∷ es) rising (suc i) (suc j) d le lt e =
    partitioned p down es rising.1 i j d (omega arith) (omega arith) e

module _ {X : Type 0} (P : X → Type 0) where
  each_below : (xs : List X) (i : ℕ) → i ≤ length xs
      → ((k : ℕ) (d : X) → 0 ≤ k → k < i → P (get_or xs k d)) → AllByRecursion P (take i xs)
  each_below xs zero le all = tt
  each_below [] (suc i) le all = tt
  each_below (x ∷ xs) (suc i) le all = (
    all 0 x (omega arith) (omega arith),
    each_below xs i (omega arith) (λ k d low lt. all (suc k) d (omega arith) (omega arith)),
  )

  each_from : (xs : List X) (i : ℕ) → ((k : ℕ) (d : X) → i ≤ k → k < length xs → P (get_or xs k d))
      → AllByRecursion P (drop i xs)
  each_from [] zero all = tt
  each_from [] (suc i) all = tt
  each_from (x ∷ xs) zero all = (
    all 0 x (omega arith) (omega arith),
    each_from xs zero (λ k d low lt. all (suc k) d (omega arith) (omega arith)),
  )
  each_from (x ∷ xs) (suc i) all =
      each_from xs i (λ k d low lt. all (suc k) d (omega arith) (omega arith))

pub cut_at : {X : Type 0} (p : X → Bool) (xs : List X) (i : ℕ) → i ≤ length xs
    → IsPartitionPoint (λ y. p y ≡ true) (λ y. p y ≡ false) xs i → IsCutBy p xs i
cut_at p xs i le point =
    (le, each_below (λ x. p x ≡ true) xs i le point.0, each_from (λ x. p x ≡ false) xs i point.1)
