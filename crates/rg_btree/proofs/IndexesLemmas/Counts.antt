-- Lists of numbers that ascend are one where each number stands in both equally often.
use Rattle.std.proofs.Common.{◌≡◌, ◌==◌, ◌<◌, ◌≤◌, ℕ, suc, ◌+◌, Bool, cond, List, [], ◌∷◌, length}
use Rattle.std.proofs.Common.{get_or, sum_by, IsSorted, refl, sym, ◌∙◌, ap, inl, inr, arith}
use Rattle.std.specs.List.Sorted.{IsNonDecreasing}
use Rattle.std.specs.Ordering.{nat_cmp}
use Rattle.std.proofs.lemmas.Bool.{cases_order, eq-eqb, ne_eqb}
use Rattle.std.proofs.lemmas.List.Sorted.{IsNonDecreasingBy-from_sort}
use Rattle.std.proofs.lemmas.List.Sums.{sum_by-cons}
use Rattle.std.specs.List.{AllByRecursion}
use Rattle.rg_base.proofs.Each.{Each-map}

-- how often a number stands in a list
abbrev pub count : ℕ → List ℕ → ℕ
count k xs = sum_by (λ x. cond (x == k) 1 0) xs

pub count-cons : (k x : ℕ) (xs : List ℕ) → count k (x ∷ xs) ≡ cond (x == k) 1 0 + count k xs
count-cons k x xs = sum_by-cons (λ y. cond (y == k) 1 0) x xs

pub count-same : (k x : ℕ) (xs : List ℕ) → x ≡ k → count k (x ∷ xs) ≡ suc (count k xs)
count-same k x xs e =
    count-cons k x xs ∙ (let one = eq-eqb x k e in ap (λ (b : Bool). cond b 1 0 + count k xs) one)
    ∙ plus_one (count k xs)
  where
    plus_one : (n : ℕ) → 1 + n ≡ suc n
    plus_one n = omega arith

pub count-other : (k x : ℕ) (xs : List ℕ) → (x ≡ k → ⊥) → count k (x ∷ xs) ≡ count k xs
count-other k x xs ne = count-cons k x xs
    ∙ (let none = ne_eqb x k ne in ap (λ (b : Bool). cond b 1 0 + count k xs) none)
    ∙ plus_none (count k xs)
  where
    plus_none : (n : ℕ) → 0 + n ≡ n
    plus_none n = omega arith

pub count-above : (k : ℕ) (xs : List ℕ) → AllByRecursion (λ x. k < x) xs → count k xs ≡ 0
count-above k [] each = refl
count-above k (x ∷ xs) each =
    count-other k x xs (λ e. omega (arith, e, each.0)) ∙ count-above k xs each.1

-- no number is below one before it
abbrev pub Ascend : List ℕ → Type 0
Ascend [] = Unit {0}
Ascend (x ∷ xs) = AllByRecursion (λ y. x ≤ y) xs × Ascend xs

each_at : (P : ℕ → Type 0) (xs : List ℕ) → ((j : ℕ) → j < length xs → P (get_or xs j 0))
    → AllByRecursion P xs
each_at P [] at = tt
each_at P (x ∷ xs) at = (at 0 (omega arith), each_at P xs (λ j lt. at (suc j) (omega arith)))

ascend_from : (xs : List ℕ) → IsNonDecreasing xs → Ascend xs
ascend_from [] up = tt
ascend_from (x ∷ xs) up = (
  each_at (λ y. x ≤ y) xs (λ j lt. up 0 (suc j) 0 (omega arith) (omega arith)),
  ascend_from xs (λ i j d le lt. up (suc i) (suc j) d (omega arith) (omega arith)),
)

-- what std's sort leaves ascends
pub sorted_ascend : (xs : List ℕ) → IsSorted nat_cmp xs → Ascend xs
sorted_ascend xs sorted = ascend_from xs (IsNonDecreasingBy-from_sort (λ x. x) xs sorted)

-- a number below all of a list doesn't stand in it
lower : (k x : ℕ) (xs : List ℕ) → k < x → AllByRecursion (λ y. x ≤ y) xs → count k (x ∷ xs) ≡ 0
lower k x xs lt each =
    count-above k (x ∷ xs) (lt, Each-map (λ y. x ≤ y) (λ y. k < y) (λ y le. omega arith) xs each)

pub same_counts : (xs ys : List ℕ) → Ascend xs → Ascend ys → ((k : ℕ) → count k xs ≡ count k ys)
    → xs ≡ ys
same_counts [] [] a b same = refl
same_counts [] (y ∷ ys) a b same = absurd (omega (arith, same y, count-same y y ys refl))
same_counts (x ∷ xs) [] a b same = absurd (omega (arith, same x, count-same x x xs refl))
same_counts (x ∷ xs) (y ∷ ys) a b same =
    let heads : x ≡ y = elim (cases_order x y) [
      | inl e ↦ e
      | inr (inl lt) ↦ absurd (omega (arith, same x, count-same x x xs refl, lower x y ys lt b.0))
      | inr (inr lt) ↦ absurd (omega (arith, same y, count-same y y ys refl, lower y x xs lt a.0))
    ] in
    λ i. heads i ∷ same_counts xs ys a.1 b.1 (λ k. rest k heads) i
  where
    rest : (k : ℕ) → x ≡ y → count k xs ≡ count k ys
    rest k e =
        let all = sym (count-cons k x xs) ∙ same k ∙ count-cons k y ys in
        let first : ◌≡◌ {A = ℕ} (cond (x == k) 1 0) (cond (y == k) 1 0) =
        ap (λ (z : ℕ). cond (z == k) 1 0) e in
        omega (arith, all, first)
