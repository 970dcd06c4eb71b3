-- The children of a node: their entries, their first entries, and one of them that is replaced.
use Rattle.std.proofs.Common.{◌≡◌, ◌+◌, ◌-◌, ◌<◌, zero, suc, ℕ, true, List, [], ◌∷◌, ◌++◌, length}
use Rattle.std.proofs.Common.{take, drop, set, get_or, refl, sym, ◌∙◌, ap, subst, arith}
use Rattle.std.proofs.Common.{length-append, ◌≤◌, Option, Some, None}
use Rattle.std.specs.Option.{option_to_list}
use Rattle.std.proofs.lemmas.List.{map-append, set_split}
use Rattle.std.proofs.Math.Seq.{split_at}
use Rattle.rg_base.specs.declared.place.Place.{Place}
use Rattle.rg_base.proofs.Each.{Each-left, Each-right, Each-map, Each-append}
use Rattle.rg_model.specs.Layout.{is_entry_before}
use Rattle.std.specs.List.{AllByRecursion}
use Rattle.rg_index.specs.Entries.{IsRising}
use Rattle.rg_index.proofs.Lists.{rising_right}
use Rattle.rg_bulk.specs.Branch.{Branch, branch_of, first_of, joined, total}
use Rattle.rg_bulk.specs.Shape.{IsKid, IsInner, IsNode}
use Rattle.rg_bulk.proofs.Filled.{kid_has_entry}
use Rattle.rg_bulk.proofs.Levels.{joined-append, total-append}
use Rattle.rg_btree.specs.Child.{firsts}

-- ---- a node that is no leaf

above : (h : ℕ) → (h ≡ 0 → ⊥) → h ≡ suc (h - 1)
above h high = omega arith

pub inner_of : (h : ℕ) (keys : List (ℕ × Place)) (kids : List Branch) (kr dr : ℕ) → (h ≡ 0 → ⊥)
    → IsNode h keys kids kr dr → IsInner (h - 1) keys kids kr dr
inner_of h keys kids kr dr high node = subst (λ k. IsNode k keys kids kr dr) (above h high) node

pub node_of : (h : ℕ) (keys : List (ℕ × Place)) (kids : List Branch) (kr dr : ℕ) → (h ≡ 0 → ⊥)
    → IsInner (h - 1) keys kids kr dr → IsNode h keys kids kr dr
node_of h keys kids kr dr high inner =
    subst (λ k. IsNode k keys kids kr dr) (sym (above h high)) inner

pub branch_is : (h : ℕ) (keys : List (ℕ × Place)) (kids : List Branch) → (h ≡ 0 → ⊥)
    → branch_of h keys kids ≡ branch_of (suc (h - 1)) [] kids
branch_is h keys kids high = ap (λ k. branch_of k keys kids) (above h high)

-- ---- lists of branches

abbrev pub HasEntry : Branch → Type 0
HasEntry kid = 0 < length kid.entries

pub kids_have_entries : (h : ℕ) (kids : List Branch) → AllByRecursion (IsKid h) kids
    → AllByRecursion HasEntry kids
kids_have_entries h kids each =
    Each-map (IsKid h) HasEntry (λ kid is. kid_has_entry h kid is) kids each

-- an entry that stands before all of a list stands before its first, and so on for each child
first_each : (P : ℕ × Place → Type 0) (es : List (ℕ × Place)) → 0 < length es → AllByRecursion P es
    → P (first_of es)
first_each P [] some each = absurd (omega arith)
first_each P (e ∷ es) some each = each.0

pub firsts_each : (P : ℕ × Place → Type 0) (kids : List Branch) → AllByRecursion HasEntry kids
    → AllByRecursion P (joined kids) → AllByRecursion P (firsts kids)
firsts_each P [] some each = tt
firsts_each P (kid ∷ kids) some each = (
  first_each P kid.entries some.0 (Each-left P kid.entries (joined kids) each),
  firsts_each P kids some.1 (Each-right P kid.entries (joined kids) each),
)

pub firsts_rise : (kids : List Branch) → AllByRecursion HasEntry kids → IsRising (joined kids)
    → IsRising (firsts kids)
firsts_rise [] some rising = tt
firsts_rise (kid ∷ kids) some rising = (
  firsts_each (λ later. is_entry_before (first_of kid.entries) later ≡ true) kids some.1
      (behind kid.entries some.0 rising),
  firsts_rise kids some.1 (rising_right kid.entries (joined kids) rising),
)
  where
    behind : (es : List (ℕ × Place)) → 0 < length es → IsRising (es ++ joined kids)
        → AllByRecursion (λ later. is_entry_before (first_of es) later ≡ true) (joined kids)
    behind [] lt rises = absurd (omega arith)
    behind (e ∷ es) lt rises =
        Each-right (λ later. is_entry_before e later ≡ true) es (joined kids) rises.0

-- ---- one of a list

pub Each-set : {X : Type 0} (P : X → Type 0) (xs : List X) (i : ℕ) (x : X) → P x
    → AllByRecursion P xs
    → AllByRecursion P (set xs i x)
Each-set P [] i x one each = tt
Each-set P (y ∷ xs) zero x one each = (one, each.1)
Each-set P (y ∷ xs) (suc i) x one each = (each.0, Each-set P xs i x one each.1)

-- what stands before and behind one that is replaced
pub take_set : {X : Type 0} (xs : List X) (i : ℕ) (x : X) → take i (set xs i x) ≡ take i xs
take_set [] i x = refl
take_set (y ∷ xs) zero x = refl
take_set (y ∷ xs) (suc i) x = ap (λ ys. y ∷ ys) (take_set xs i x)

pub drop_set : {X : Type 0} (xs : List X) (i : ℕ) (x : X)
    → drop (suc i) (set xs i x) ≡ drop (suc i) xs
drop_set [] i x = refl
drop_set (y ∷ xs) zero x = refl
drop_set (y ∷ xs) (suc i) x = drop_set xs i x

pub take_more_set : {X : Type 0} (xs : List X) (i : ℕ) (x : X) → i < length xs
    → take (suc i) (set xs i x) ≡ take i xs ++ x ∷ []
take_more_set [] i x lt = absurd (omega arith)
take_more_set (y ∷ xs) zero x lt = refl
take_more_set (y ∷ xs) (suc i) x lt = ap (λ ys. y ∷ ys) (take_more_set xs i x (omega arith))

pub firsts-take : (n : ℕ) (kids : List Branch) → take n (firsts kids) ≡ firsts (take n kids)
firsts-take zero kids = refl
firsts-take (suc n) [] = refl
firsts-take (suc n) (kid ∷ kids) = ap (λ es. first_of kid.entries ∷ es) (firsts-take n kids)

pub firsts-drop : (n : ℕ) (kids : List Branch) → drop n (firsts kids) ≡ firsts (drop n kids)
firsts-drop zero kids = refl
firsts-drop (suc n) [] = refl
firsts-drop (suc n) (kid ∷ kids) = firsts-drop n kids

-- the keys of children of which one was renewed
pub keys_renewed :
    (keys : List (ℕ × Place)) (kids : List Branch) (i : ℕ) (d : Branch) (key : ℕ × Place)
    → i < length kids → length keys ≡ length kids → take i keys ≡ firsts (take i kids)
    → drop (suc i) keys ≡ firsts (drop (suc i) kids) → key ≡ first_of d.entries
    → d ≡ get_or kids i d → set keys i key ≡ firsts kids
keys_renewed keys kids i d key low same front back first is =
    set_split keys i key (omega arith)
    ∙ (λ j. front j ++ (first j) ∷ back j)
    ∙ sym (map-append (λ kid. first_of kid.entries) (take i kids) (d ∷ drop (suc i) kids))
    ∙ ap firsts (ap (λ k. take i kids ++ k ∷ drop (suc i) kids) is ∙ sym (split_at kids i d low))

-- ---- some of a list's branches are replaced by others

pub record IsReplaced (front olds news back before after : List Branch) : Type 0 where
  pub was : before ≡ front ++ (olds ++ back)
  pub is : after ≡ front ++ (news ++ back)

module _ (front olds news back before after : List Branch)
    (swap : IsReplaced front olds news back before after) where
  pub each_after : (P : Branch → Type 0) → AllByRecursion P before → AllByRecursion P news
      → AllByRecursion P after
  each_after P each new =
      let parts = subst (AllByRecursion P) swap.was each in
      let behind = Each-right P olds back (Each-right P front (olds ++ back) parts) in
      subst (AllByRecursion P) (sym swap.is)
      (Each-append P front (news ++ back) (Each-left P front (olds ++ back) parts)
      (Each-append P news back new behind))

  pub total_after : (number : Branch → ℕ)
      → total number after + total number olds ≡ total number before + total number news
  total_after number =
      let a = ap (total number) swap.was in
      let b = ap (total number) swap.is in
      let c = total-append number front (olds ++ back) in
      let d = total-append number olds back in
      let e = total-append number front (news ++ back) in
      let f = total-append number news back in
      omega arith

  pub length_after : length after + length olds ≡ length before + length news
  length_after =
      let a = ap length swap.was in
      let b = ap length swap.is in
      let c = length-append front (olds ++ back) in
      let d = length-append olds back in
      let e = length-append front (news ++ back) in
      let f = length-append news back in
      omega arith

  pub joined_before : joined before ≡ joined front ++ (joined olds ++ joined back)
  joined_before = ap joined swap.was ∙ joined-append front (olds ++ back)
      ∙ ap (λ es. joined front ++ es) (joined-append olds back)

  pub joined_after : joined after ≡ joined front ++ (joined news ++ joined back)
  joined_after = ap joined swap.is ∙ joined-append front (news ++ back)
      ∙ ap (λ es. joined front ++ es) (joined-append news back)

pub at_most_one : (kid : Option Branch) → length (option_to_list kid) ≤ 1
at_most_one None = omega arith
at_most_one (Some kid) = omega arith
