-- Two nodes side by side that are shared out, or become one.
use Rattle.std.proofs.Common.{◌≡◌, ◌+◌, ◌-◌, ◌<◌, ◌≤◌, suc, ℕ, List, [], ◌∷◌, ◌++◌, length, take}
use Rattle.std.proofs.Common.{drop, refl, sym, ◌∙◌, ap, subst, inl, inr, arith}
use Rattle.std.proofs.lemmas.Bool.{cases_order}
use Rattle.std.proofs.lemmas.Bool.Decides.{nat_tests}
use Rattle.std.proofs.lemmas.List.{map-append, length-map, take-append-drop, append-nil}
use Rattle.std.proofs.lemmas.List.{length-take-le, length-drop}
use Rattle.rg_base.specs.declared.place.Place.{Place}
use Rattle.rg_base.proofs.Each.{Each-append, Each-take, Each-drop}
use Rattle.rg_bulk.specs.Branch.{Branch, branch_of, first_of, joined, total}
use Rattle.std.specs.List.{AllByRecursion}
use Rattle.rg_bulk.specs.Shape.{IsKid, IsLeaf, IsNode}
use Rattle.rg_bulk.proofs.Filled.{height_is, parent_may_be_kid}
use Rattle.rg_bulk.proofs.Levels.{joined-append, total-append}
use Rattle.rg_btree.specs.Child.{firsts}
use Rattle.rg_btree.specs.Moved.{moved}
use Rattle.rg_btree.proofs.Kids.{inner_of, branch_is}

-- the height of what is seen is that of the node
pub height_of : (h : ℕ) (keys : List (ℕ × Place)) (kids : List Branch) (shown : Branch)
    → branch_of h keys kids ≡ shown → h ≡ shown.height
height_of h keys kids shown view = height_is h keys kids ∙ ap (λ b. b.height) view

pub leaf_of : (h : ℕ) (keys : List (ℕ × Place)) (kids : List Branch) (kr dr : ℕ) → h ≡ 0
    → IsNode h keys kids kr dr → IsLeaf keys kids kr
leaf_of h keys kids kr dr low node = subst (λ k. IsNode k keys kids kr dr) low node

pub of_leaf : (h : ℕ) (keys : List (ℕ × Place)) (kids : List Branch) (kr dr : ℕ) → h ≡ 0
    → IsLeaf keys kids kr → IsNode h keys kids kr dr
of_leaf h keys kids kr dr low leaf = subst (λ k. IsNode k keys kids kr dr) (sym low) leaf

pub leaf_is : (h : ℕ) (keys : List (ℕ × Place)) (kids : List Branch) → h ≡ 0
    → branch_of h keys kids ≡ branch_of 0 keys []
leaf_is h keys kids low = ap (λ k. branch_of k keys kids) low

pub leaf_kid : (h : ℕ) (keys : List (ℕ × Place)) (kids : List Branch) → h ≡ 0 → 128 ≤ length keys
    → IsKid 0 (branch_of h keys kids)
leaf_kid h keys kids low full = subst (IsKid 0) (sym (leaf_is h keys kids low))
    (record {
      level = refl;
      fill = full;
      entries = full;
      nodes = omega arith;
      inners = omega arith;
    })

pub inner_kid : (h : ℕ) (keys : List (ℕ × Place)) (kids : List Branch) → (h ≡ 0 → ⊥)
    → AllByRecursion (IsKid (h - 1)) kids → 112 ≤ length kids → IsKid h (branch_of h keys kids)
inner_kid h keys kids high each full =
    let up : suc (h - 1) ≡ h = omega arith in
    subst (λ k. IsKid k (branch_of h keys kids)) up
    (subst (IsKid (suc (h - 1))) (sym (branch_is h keys kids high))
    (parent_may_be_kid (h - 1) kids each full))

-- how many each of two has once they are shared out
pub record AreShares (least most a b : ℕ) : Type 0 where
  pub left : least ≤ moved a b
  pub left_most : moved a b ≤ most
  pub right : least ≤ a + b - moved a b
  pub right_most : a + b - moved a b ≤ most
  pub within : moved a b ≤ a + b

shares_of' : (least most a b k : ℕ) → (a < b → k ≡ a + 1) → (b < a → k ≡ a - 1) → (a ≡ b → k ≡ a)
    → least ≤ a + 1 → a ≤ most → least ≤ b + 1 → b ≤ most → most < a + b → least + least ≤ most
    → (least ≤ k) × (k ≤ most) × (least ≤ a + b - k) × (a + b - k ≤ most) × (k ≤ a + b)
shares_of' least most a b k less more same al am bl bm sum fits =
    elim (cases_order a b) [
      | inl e ↦ let is = same e in (omega arith, omega arith, omega arith, omega arith, omega arith)
      | inr (inl lt) ↦ let is = less lt in
          (omega arith, omega arith, omega arith, omega arith, omega arith)
      | inr (inr gt) ↦ let is = more gt in
          (omega arith, omega arith, omega arith, omega arith, omega arith)
    ]

moved_less : (a b : ℕ) → a < b → moved a b ≡ a + 1
moved_less a b lt = grind (arith, nat_tests)

moved_more : (a b : ℕ) → b < a → moved a b ≡ a - 1
moved_more a b lt = grind (arith, nat_tests)

moved_same : (a b : ℕ) → a ≡ b → moved a b ≡ a
moved_same a b e = grind (arith, nat_tests)

pub shares_of : (least most a b : ℕ) → least ≤ a + 1 → a ≤ most → least ≤ b + 1 → b ≤ most
    → most < a + b → least + least ≤ most → AreShares least most a b
shares_of least most a b al am bl bm sum fits =
    let t = shares_of' least most a b (moved a b) (moved_less a b) (moved_more a b) (moved_same a b)
    al am bl bm sum fits in
    record { left = t.0; left_most = t.1; right = t.2; right_most = t.3; within = t.4 }

-- ---- two inner nodes side by side

pub record IsPair (h : ℕ) (left_keys : List (ℕ × Place)) (left_kids : List Branch) (left : Branch)
    (right_keys : List (ℕ × Place)) (right_kids : List Branch) (right : Branch) : Type 0 where
  pub each : AllByRecursion (IsKid (h - 1)) (left_kids ++ right_kids)
  pub keys_are : left_keys ++ right_keys ≡ firsts (left_kids ++ right_kids)
  pub left_same : length left_keys ≡ length left_kids
  pub right_same : length right_keys ≡ length right_kids
  pub left_fill : left.fill ≡ length left_kids
  pub right_fill : right.fill ≡ length right_kids
  pub left_most : length left_kids ≤ 225
  pub right_most : length right_kids ≤ 225
  pub entries : left.entries ++ right.entries ≡ joined (left_kids ++ right_kids)
  pub nodes : left.nodes + right.nodes ≡ total (λ kid. kid.nodes) (left_kids ++ right_kids) + 2
  pub inners : left.inners + right.inners ≡ total (λ kid. kid.inners) (left_kids ++ right_kids) + 2

pub pair_of : (h : ℕ) (left_keys : List (ℕ × Place)) (left_kids : List Branch) (lkr ldr : ℕ)
    (left : Branch) (g : ℕ) (right_keys : List (ℕ × Place)) (right_kids : List Branch) (rkr rdr : ℕ)
    (right : Branch) → IsNode h left_keys left_kids lkr ldr → branch_of h left_keys left_kids ≡ left
    → IsNode g right_keys right_kids rkr rdr → branch_of g right_keys right_kids ≡ right
    → (h ≡ 0 → ⊥) → g ≡ h → IsPair h left_keys left_kids left right_keys right_kids right
pair_of h left_keys left_kids lkr ldr left g right_keys right_kids rkr rdr right left_node left_view
    right_node right_view high same =
    let a = inner_of h left_keys left_kids lkr ldr high left_node in
    let b = inner_of h right_keys right_kids rkr rdr high
    (subst (λ k. IsNode k right_keys right_kids rkr rdr) same right_node) in
    let l : branch_of (suc (h - 1)) [] left_kids ≡ left =
    sym (branch_is h left_keys left_kids high) ∙ left_view in
    let r : branch_of (suc (h - 1)) [] right_kids ≡ right =
    sym (branch_is h right_keys right_kids high)
    ∙ ap (λ k. branch_of k right_keys right_kids) (sym same) ∙ right_view in
    let left_nodes = ap (λ n. n.nodes) l in
    let right_nodes = ap (λ n. n.nodes) r in
    let left_inners = ap (λ n. n.inners) l in
    let right_inners = ap (λ n. n.inners) r in
    let nodes = total-append (λ kid. kid.nodes) left_kids right_kids in
    let inners = total-append (λ kid. kid.inners) left_kids right_kids in
    record {
      each = Each-append (IsKid (h - 1)) left_kids right_kids a.each b.each;
      keys_are = (λ i. a.keys_are i ++ b.keys_are i)
          ∙ sym (map-append (λ kid. first_of kid.entries) left_kids right_kids);
      left_same = ap length a.keys_are ∙ length-map left_kids (λ kid. first_of kid.entries);
      right_same = ap length b.keys_are ∙ length-map right_kids (λ kid. first_of kid.entries);
      left_fill = ap (λ n. n.fill) (sym l);
      right_fill = ap (λ n. n.fill) (sym r);
      left_most = a.most;
      right_most = b.most;
      entries =
          (λ i. (sym l i).entries ++ (sym r i).entries) ∙ sym (joined-append left_kids right_kids);
      nodes = omega arith;
      inners = omega arith;
    }

-- the two after their children were shared out
pub record AreEven (h : ℕ) (all : List Branch) (nodes : List Branch) : Type 0 where
  pub each : AllByRecursion (IsKid h) nodes
  pub entries : joined nodes ≡ joined all
  pub node_count : total (λ kid. kid.nodes) nodes ≡ total (λ kid. kid.nodes) all + length nodes
  pub inner_count : total (λ kid. kid.inners) nodes ≡ total (λ kid. kid.inners) all + length nodes

pub evened : (h : ℕ) (all : List Branch) (k : ℕ) (left right : Branch) → (h ≡ 0 → ⊥)
    → AllByRecursion (IsKid (h - 1)) all → 112 ≤ k → k ≤ length all → 112 ≤ length all - k
    → left ≡ branch_of (suc (h - 1)) [] (take k all)
    → right ≡ branch_of (suc (h - 1)) [] (drop k all) → AreEven h all (left ∷ right ∷ [])
evened h all k left right high each some within rest l r =
    let up : suc (h - 1) ≡ h = omega arith in
    let first = length-take-le k all within in
    let second = length-drop k all in
    let left_nodes = ap (λ n. n.nodes) l in
    let right_nodes = ap (λ n. n.nodes) r in
    let left_inners = ap (λ n. n.inners) l in
    let right_inners = ap (λ n. n.inners) r in
    let nodes = ap (total (λ kid. kid.nodes)) (sym (take-append-drop k all))
    ∙ total-append (λ kid. kid.nodes) (take k all) (drop k all) in
    let inners = ap (total (λ kid. kid.inners)) (sym (take-append-drop k all))
    ∙ total-append (λ kid. kid.inners) (take k all) (drop k all) in
    let one = subst (IsKid (suc (h - 1))) (sym l)
    (parent_may_be_kid (h - 1) (take k all) (Each-take (IsKid (h - 1)) k all each)
    (omega arith)) in
    let two = subst (IsKid (suc (h - 1))) (sym r)
    (parent_may_be_kid (h - 1) (drop k all) (Each-drop (IsKid (h - 1)) k all each)
    (omega arith)) in
    record {
      each = (subst (λ n. IsKid n left) up one, (subst (λ n. IsKid n right) up two, tt));
      entries = (λ i. (l i).entries ++ ((r i).entries ++ []))
          ∙ ap (λ es. joined (take k all) ++ es) (append-nil (joined (drop k all)))
          ∙ sym (joined-append (take k all) (drop k all)) ∙ ap joined (take-append-drop k all);
      node_count = omega arith;
      inner_count = omega arith;
    }

pub merged : (h : ℕ) (all : List Branch) (node : Branch) → (h ≡ 0 → ⊥)
    → AllByRecursion (IsKid (h - 1)) all
    → 112 ≤ length all → node ≡ branch_of (suc (h - 1)) [] all → AreEven h all (node ∷ [])
merged h all node high each some is =
    let up : suc (h - 1) ≡ h = omega arith in
    let nodes = ap (λ n. n.nodes) is in
    let inners = ap (λ n. n.inners) is in
    record {
      each = (
        subst (λ n. IsKid n node) up
            (subst (IsKid (suc (h - 1))) (sym is) (parent_may_be_kid (h - 1) all each some)),
        tt,
      );
      entries = append-nil node.entries ∙ ap (λ n. n.entries) is;
      node_count = omega arith;
      inner_count = omega arith;
    }
