-- What is known of a node's children, taken together.
use Rattle.std.proofs.Common.{◌≡◌, ◌+◌, ◌*◌, ◌<◌, ◌≤◌, zero, suc, ℕ, List, [], ◌∷◌, ◌++◌, length}
use Rattle.std.proofs.Common.{map, get_or, refl, sym, ◌∙◌, ap, subst, arith, length-append}
use Rattle.std.proofs.lemmas.List.{length-map}
use Rattle.rg_base.specs.declared.place.Place.{Place}
use Rattle.rg_bulk.specs.Branch.{Branch, branch_of, first_of, joined, total}
use Rattle.std.specs.List.{AllByRecursion}
use Rattle.rg_bulk.specs.Shape.{IsKid, IsNode, IsRoot, least_fill, least_entries}

-- ---- each of a list

-- ---- sums over children

pub least_of_kids : (h : ℕ) (kids : List Branch) → AllByRecursion (IsKid h) kids
    → length kids * least_entries h ≤ length (joined kids)
least_of_kids h [] each = grind arith
least_of_kids h (kid ∷ kids) each =
    let here = each.0.entries in
    let rest = least_of_kids h kids each.1 in
    let long = length-append kid.entries (joined kids) in
    one_more (least_entries h) (length kids) (length kid.entries) (length (joined kids))
    (length (kid.entries ++ joined kids)) here rest long
  where
    one_more : (m n a b c : ℕ) → m ≤ a → n * m ≤ b → c ≡ a + b → suc n * m ≤ c
    one_more m n a b c p q e = grind arith

pub nodes_of_kids : (h : ℕ) (kids : List Branch) → AllByRecursion (IsKid h) kids
    → 126 * total (λ kid. kid.nodes) kids + 2 * length kids ≤ length (joined kids)
nodes_of_kids h [] each = omega arith
nodes_of_kids h (kid ∷ kids) each =
    let here = each.0.nodes in
    let rest = nodes_of_kids h kids each.1 in
    omega (arith, length-append kid.entries (joined kids))

pub inners_of_kids : (h : ℕ) (kids : List Branch) → AllByRecursion (IsKid h) kids
    → 14208 * total (λ kid. kid.inners) kids + 128 * length kids ≤ length (joined kids)
inners_of_kids h [] each = omega arith
inners_of_kids h (kid ∷ kids) each =
    let here = each.0.inners in
    let rest = inners_of_kids h kids each.1 in
    omega (arith, length-append kid.entries (joined kids))

-- a parent of enough children may be a child
pub parent_may_be_kid : (h : ℕ) (kids : List Branch) → AllByRecursion (IsKid h) kids
    → 112 ≤ length kids
    → IsKid (suc h) (branch_of (suc h) [] kids)
parent_may_be_kid h kids each full =
    let nodes = nodes_of_kids h kids each in
    let inners = inners_of_kids h kids each in
    let entries = least_of_kids h kids each in
    record {
      level = refl;
      fill = full;
      entries = enough (least_entries h) (length kids) (length (joined kids)) full entries;
      nodes = omega arith;
      inners = omega arith;
    }
  where
    enough : (m n a : ℕ) → 112 ≤ n → n * m ≤ a → 112 * m ≤ a
    enough m n a p q = grind (arith, Rattle.std.proofs.Math.Nat.mul-le-mul_right)

-- a node that is full enough may be a child
pub may_be_kid : (h : ℕ) (keys : List (ℕ × Place)) (kids : List Branch) (key_room kid_room : ℕ)
    → IsNode h keys kids key_room kid_room → least_fill h ≤ (branch_of h keys kids).fill
    → IsKid h (branch_of h keys kids)
may_be_kid zero keys kids key_room kid_room leaf full =
    record { level = refl; fill = full; entries = full; nodes = omega arith; inners = omega arith }
may_be_kid (suc h) keys kids key_room kid_room inner full = parent_may_be_kid h kids inner.each full

-- a child has an entry
pub kid_has_entry : (h : ℕ) (kid : Branch) → IsKid h kid → 0 < length kid.entries
kid_has_entry h kid is = let enough = is.inners in omega arith

-- the first entry of a node is its first key
pub first_key : (h : ℕ) (keys : List (ℕ × Place)) (kids : List Branch) (key_room kid_room : ℕ)
    → IsNode h keys kids key_room kid_room
    → (first_of keys ≡ first_of (branch_of h keys kids).entries)
    × (length keys ≡ (branch_of h keys kids).fill)
first_key zero keys kids key_room kid_room leaf = (refl, refl)
first_key (suc h) keys kids key_room kid_room inner = (
  ap first_of inner.keys_are ∙ first_of_first kids inner.each,
  ap length inner.keys_are ∙ length-map kids (λ kid. first_of kid.entries),
)
  where
    first_append : (xs ys : List (ℕ × Place)) → 0 < length xs → first_of xs ≡ first_of (xs ++ ys)
    first_append [] ys lt = absurd (omega arith)
    first_append (x ∷ xs) ys lt = refl

    first_of_first : (ks : List Branch) → AllByRecursion (IsKid h) ks
        → first_of (map (λ kid. first_of kid.entries) ks) ≡ first_of (joined ks)
    first_of_first [] each = refl
    first_of_first (k ∷ ks) each = first_append k.entries (joined ks) (kid_has_entry h k each.0)

pub has_key : (h : ℕ) (keys : List (ℕ × Place)) (kids : List Branch) (key_room kid_room : ℕ)
    → IsNode h keys kids key_room kid_room → 0 < length (branch_of h keys kids).entries
    → 0 < length keys
has_key zero keys kids key_room kid_room leaf some = some
has_key (suc h) keys kids key_room kid_room inner some =
    let fewest = inner.fewest in
    let same = ap length inner.keys_are ∙ length-map kids (λ kid. first_of kid.entries) in
    omega arith

-- what a read of the first element gives
pub first_read : (es : List (ℕ × Place)) (e : ℕ × Place) → 0 < length es → e ≡ get_or es 0 e
    → e ≡ first_of es
first_read [] e some is = absurd (omega arith)
first_read (x ∷ es) e some is = is

-- what is known of any node
pub is_root : (h : ℕ) (keys : List (ℕ × Place)) (kids : List Branch) (key_room kid_room : ℕ)
    → IsNode h keys kids key_room kid_room → IsRoot (branch_of h keys kids)
is_root zero keys kids key_room kid_room leaf = record {
  kid = may_be_kid zero keys kids key_room kid_room leaf;
  nodes = omega arith;
  inners = omega arith;
  node = omega arith;
  inner = λ high. absurd (high refl);
  leaf = λ low. (refl, refl, leaf.most);
  levels = λ below high. absurd (omega arith);
}
is_root (suc h) keys kids key_room kid_room inner =
    let nodes = nodes_of_kids h kids inner.each in
    let inners = inners_of_kids h kids inner.each in
    record {
      kid = may_be_kid (suc h) keys kids key_room kid_room inner;
      nodes = omega arith;
      inners = omega arith;
      node = omega arith;
      inner = λ high. omega arith;
      leaf = λ low. absurd (omega arith);
      levels = λ below high. let same : below ≡ h = omega arith in
          subst (λ k. length kids * least_entries k ≤ length (joined kids)) (sym same)
          (least_of_kids h kids inner.each);
    }

pub height_is : (h : ℕ) (keys : List (ℕ × Place)) (kids : List Branch)
    → h ≡ (branch_of h keys kids).height
height_is zero keys kids = refl
height_is (suc h) keys kids = refl
