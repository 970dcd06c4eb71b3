-- One more parent above a level.
use Rattle.std.proofs.Common.{◌≡◌, ◌+◌, ◌-◌, ◌*◌, ◌<◌, ◌≤◌, zero, suc, ℕ, List, [], ◌∷◌, ◌++◌}
use Rattle.std.proofs.Common.{length, take, drop, append_assoc, refl, sym, ◌∙◌, ap, subst, inl, inr}
use Rattle.std.proofs.Common.{arith}
use Rattle.std.proofs.lemmas.List.{take-append-drop, append-nil, length-take-le, length-drop}
use Rattle.std.proofs.lemmas.List.{length_push}
use Rattle.std.proofs.lemmas.Bool.{cases_lt}
use Rattle.std.proofs.lemmas.List.Concat.{flat_map-append}
use Rattle.rg_bulk.specs.Branch.{Branch, branch_of, joined, total}
use Rattle.std.specs.List.{AllByRecursion}
use Rattle.rg_base.proofs.Each.{Each-append, Each-left, Each-right}
use Rattle.rg_bulk.specs.Shape.{IsKid}
use Rattle.rg_bulk.specs.Share.{IsShare}
use Rattle.rg_bulk.proofs.Filled.{parent_may_be_kid}

pub joined-append : (xs ys : List Branch) → joined (xs ++ ys) ≡ joined xs ++ joined ys
joined-append xs ys = flat_map-append (λ kid. kid.entries) xs ys

pub total-append : (number : Branch → ℕ) (xs ys : List Branch)
    → total number (xs ++ ys) ≡ total number xs + total number ys
total-append number [] ys = omega arith
total-append number (x ∷ xs) ys = let rest = total-append number xs ys in omega arith

-- the first of a level, and those behind
pub each_cut : (P : Branch → Type 0) (level : List Branch) (n : ℕ) → AllByRecursion P level
    → AllByRecursion P (take n level) × AllByRecursion P (drop n level)
each_cut P level n each =
    let cut = subst (AllByRecursion P) (sym (take-append-drop n level)) each in (
      Each-left P (take n level) (drop n level) cut,
      Each-right P (take n level) (drop n level) cut,
    )

pub record IsStep (h : ℕ) (start above level : List Branch) : Type 0 where
  pub all : joined start ≡ joined above ++ joined level
  pub full : AllByRecursion (IsKid (suc h)) above
  pub left : AllByRecursion (IsKid h) level
  pub enough : 0 < length level → 112 ≤ length level
  pub begun : length above ≡ 0 → 225 < length level
  pub several : length level ≡ 0 → 2 ≤ length above
  pub nodes : total (λ kid. kid.nodes) above + total (λ kid. kid.nodes) level
      ≡ total (λ kid. kid.nodes) start + length above
  pub inners : total (λ kid. kid.inners) above + total (λ kid. kid.inners) level
      ≡ total (λ kid. kid.inners) start + length above
  pub fewer : 2 * length above + length level ≤ length start

share_sizes : (a n size : ℕ) → IsShare n 225 112 size → 0 < n → (0 < n → 112 ≤ n)
    → (a ≡ 0 → 225 < n)
    → (size ≤ n) × (112 ≤ size) × (0 < n - size → 112 ≤ n - size) × (n - size ≡ 0 → 1 ≤ a)
share_sizes a n size shared some enough begun =
    let fits = shared.fits in
    let many = enough some in
    elim (cases_lt 225 n) [
      | inl more ↦ let full = shared.enough more in let leaves = shared.leaves more in
          (omega arith, omega arith, λ there. omega arith, λ none. absurd (omega arith))
      | inr few ↦ let is = shared.all few in
          (omega arith, omega arith, λ there. absurd (omega arith), λ none. at_least a begun few)
    ]
  where
    at_least : (k : ℕ) → (k ≡ 0 → 225 < n) → n ≤ 225 → 1 ≤ k
    at_least zero begins few = absurd (omega (arith, begins refl))
    at_least (suc k) begins few = omega arith

pub stepped : (h : ℕ) (all above level : List Branch) (size : ℕ) → IsStep h all above level
    → IsShare (length level) 225 112 size → 0 < length level
    → IsStep h all (above ++ branch_of (suc h) [] (take size level) ∷ []) (drop size level)
stepped h all above level size at shared some =
    let fewer = at.fewer in
    let sizes = share_sizes (length above) (length level) size shared some at.enough at.begun in
    let le = sizes.0 in
    let much = sizes.1 in
    let count = length-take-le size level le in
    let rest = length-drop size level in
    let more = length_push above (branch_of (suc h) [] (take size level)) in
    let parts = each_cut (IsKid h) level size at.left in
    let nodes = at.nodes in
    let inners = at.inners in
    let cut_nodes = ap (total (λ kid. kid.nodes)) (sym (take-append-drop size level))
    ∙ total-append (λ kid. kid.nodes) (take size level) (drop size level) in
    let cut_inners = ap (total (λ kid. kid.inners)) (sym (take-append-drop size level))
    ∙ total-append (λ kid. kid.inners) (take size level) (drop size level) in
    let more_nodes =
    total-append (λ kid. kid.nodes) above (branch_of (suc h) [] (take size level) ∷ []) in
    let more_inners =
    total-append (λ kid. kid.inners) above (branch_of (suc h) [] (take size level) ∷ []) in
    record {
      all = at.all ∙ joined_on;
      full = Each-append (IsKid (suc h)) above (branch_of (suc h) [] (take size level) ∷ [])
          at.full (parent_may_be_kid h (take size level) parts.0 (omega arith), tt);
      left = parts.1;
      enough = λ there. omega (arith, sizes.2 (omega arith));
      begun = λ none. omega arith;
      several = λ none. omega (arith, sizes.3 (omega arith));
      nodes = omega arith;
      inners = omega arith;
      fewer = omega arith;
    }
  where
    joined_on : joined above ++ joined level
        ≡ joined (above ++ branch_of (suc h) [] (take size level) ∷ []) ++ joined (drop size level)
    joined_on =
        ap (λ es. joined above ++ es)
        (ap joined (sym (take-append-drop size level))
        ∙ joined-append (take size level) (drop size level))
        ∙ sym (append_assoc (joined above) (joined (take size level)) (joined (drop size level)))
        ∙ ap (λ es. es ++ joined (drop size level))
        (ap (λ es. joined above ++ es) (sym (append-nil (joined (take size level))))
        ∙ sym (joined-append above (branch_of (suc h) [] (take size level) ∷ [])))
