-- Children of which one may be one short.
use Rattle.std.proofs.Common.{◌≡◌, ◌+◌, ◌-◌, ◌*◌, ◌<◌, ◌≤◌, zero, suc, ℕ, List, ◌∷◌, ◌++◌, length}
use Rattle.std.proofs.Common.{take, drop, get_or, sym, ◌∙◌, ap, subst, inl, inr, arith}
use Rattle.std.proofs.Math.Nat.{mul-le-mul_right}
use Rattle.std.proofs.lemmas.Bool.{cases_order}
use Rattle.std.proofs.lemmas.List.{take-take, drop-drop, get_or-take, get_or-drop, length-take-le}
use Rattle.std.proofs.lemmas.List.{length-drop}
use Rattle.std.proofs.Math.Seq.{split_at}
use Rattle.rg_bulk.specs.Branch.{Branch}
use Rattle.std.specs.List.{AllByRecursion}
use Rattle.rg_base.proofs.Each.{Each-append, Each-at, Each-take, Each-drop}
use Rattle.rg_bulk.specs.Shape.{IsKid, IsRoot, least_fill, least_entries}
use Rattle.rg_btree.specs.Short.{IsShort}
use Rattle.rg_btree.proofs.Kids.{HasEntry, kids_have_entries}

least_pos : (b : ℕ) → 1 ≤ least_entries b
least_pos zero = omega arith
least_pos (suc b) = let rest = least_pos b in omega arith

some_product : (m n a : ℕ) → 1 ≤ m → 1 ≤ n → m * n ≤ a → 0 < a
some_product m n a p q le = let more = mul-le-mul_right n p in omega arith

short_has_entry : (h : ℕ) (kid : Branch) → IsRoot kid → kid.height ≡ h → least_fill h ≤ kid.fill + 1
    → 0 < length kid.entries
short_has_entry zero kid root level fill = let leaf = root.leaf level in let same = leaf.1 in
    omega arith
short_has_entry (suc b) kid root level fill = some_product kid.fill (least_entries b)
    (length kid.entries) (omega arith) (least_pos b) (root.levels b level)

-- the one at i, and all others
pub all_of : (P : Branch → Type 0) (kids : List Branch) (i : ℕ) (kid : Branch) → i < length kids
    → kid ≡ get_or kids i kid → AllByRecursion P (take i kids)
    → AllByRecursion P (drop (suc i) kids) → P kid
    → AllByRecursion P kids
all_of P kids i kid low is front back one =
    subst (AllByRecursion P)
    (sym (split_at kids i kid low ∙ ap (λ k. take i kids ++ k ∷ drop (suc i) kids) (sym is)))
    (Each-append P (take i kids) (kid ∷ drop (suc i) kids) front (one, back))

pub all_have_entries : (h : ℕ) (kids : List Branch) (i : ℕ) (kid : Branch) → i < length kids
    → kid ≡ get_or kids i kid → AllByRecursion (IsKid h) (take i kids)
    → AllByRecursion (IsKid h) (drop (suc i) kids) → AllByRecursion (IsShort h) kids → IsRoot kid
    → AllByRecursion HasEntry kids
all_have_entries h kids i kid low is front back short root =
    let at = subst (IsShort h) (sym is) (Each-at (IsShort h) kids i kid low short) in
    all_of HasEntry kids i kid low is (kids_have_entries h (take i kids) front)
    (kids_have_entries h (drop (suc i) kids) back) (short_has_entry h kid root at.level at.fill)

pub each_earlier : (P : Branch → Type 0) (kids : List Branch) (i j : ℕ) → j ≤ i
    → AllByRecursion P (take i kids) → AllByRecursion P (take j kids)
each_earlier P kids i j le each =
    subst (AllByRecursion P) (take-take j i kids le) (Each-take P j (take i kids) each)

pub each_later : (P : Branch → Type 0) (kids : List Branch) (i j : ℕ) → i ≤ j
    → AllByRecursion P (drop i kids) → AllByRecursion P (drop j kids)
each_later P kids i j le each =
    let e : i + (j - i) ≡ j = omega arith in
    subst (AllByRecursion P) (drop-drop (j - i) i kids ∙ ap (λ n. drop n kids) e)
    (Each-drop P (j - i) (drop i kids) each)

earlier_at : (P : Branch → Type 0) (kids : List Branch) (i j : ℕ) (d : Branch) → j < i
    → i < length kids → AllByRecursion P (take i kids) → P (get_or kids j d)
earlier_at P kids i j d lt low each = subst P (get_or-take i kids j d lt)
    (Each-at P (take i kids) j d (omega (arith, length-take-le i kids (omega arith))) each)

later_at : (P : Branch → Type 0) (kids : List Branch) (i j : ℕ) (d : Branch) → i < j
    → j < length kids → AllByRecursion P (drop (suc i) kids) → P (get_or kids j d)
later_at P kids i j d lt low each =
    let e : suc i + (j - suc i) ≡ j = omega arith in
    subst P (get_or-drop (suc i) kids (j - suc i) d ∙ ap (λ n. get_or kids n d) e)
    (Each-at P (drop (suc i) kids) (j - suc i) d (omega (arith, length-drop (suc i) kids)) each)

-- the two that are evened out: one is short at most, and the other not
pub both_fill : (h : ℕ) (kids : List Branch) (i left : ℕ) (d : Branch) → i < length kids
    → suc left < length kids → left ≤ i → i ≤ suc left → AllByRecursion (IsKid h) (take i kids)
    → AllByRecursion (IsKid h) (drop (suc i) kids) → AllByRecursion (IsShort h) kids
    → 2 * least_fill h ≤ (get_or kids left d).fill + (get_or kids (suc left) d).fill + 1
both_fill h kids i left d low within le ge front back short =
    elim (cases_order left i) [
      | inl e ↦
          let here = (Each-at (IsShort h) kids left d (omega arith) short).fill in
          let other = (later_at (IsKid h) kids i (suc left) d (omega arith) within back).fill in
          omega arith
      | inr (inl lt) ↦
          let here = (Each-at (IsShort h) kids (suc left) d within short).fill in
          let other = (earlier_at (IsKid h) kids i left d lt low front).fill in
          omega arith
      | inr (inr gt) ↦ absurd (omega arith)
    ]
