-- What a tree keeps, through a change.
use Rattle.std.proofs.Common.{◌≡◌, ◌+◌, ◌-◌, ◌*◌, ◌^◌, ◌<◌, ◌≤◌, zero, suc, ℕ, true, false, cond}
use Rattle.std.proofs.Common.{not, ◌||◌, List, [], ◌∷◌, length, refl, sym, ◌∙◌, ap, subst, inl, inr}
use Rattle.std.proofs.Common.{arith}
use Rattle.std.proofs.Math.Nat.{mul-le-mul_right}
use Rattle.std.proofs.lemmas.Bool.{cases_Bool, false≢true}
use Rattle.rg_base.specs.declared.place.Place.{Place}
use Rattle.rg_model.specs.Layout.{is_entry_before, same_entry, put_entry}
use Rattle.rg_index.specs.Entries.{IsRising, has_entry, without_entry}
use Rattle.rg_index.specs.RisingPart.{rising_part}
use Rattle.rg_index.proofs.Kept.{added, removed}
use Rattle.rg_index.proofs.Lists.{without_absent, none_behind}
use Rattle.rg_index.proofs.Order.{same_is}
use Rattle.rg_bulk.specs.Branch.{Branch}
use Rattle.rg_bulk.specs.Shape.{IsRoot, least_entries}
use Rattle.rg_bulk.proofs.Heights.{height_small}
use Rattle.rg_btree.specs.Spares.{Spares}
use Rattle.rg_btree.specs.Tree.{IsTree}

-- ---- how many entries there are

pub length_put : (e : ℕ × Place) (es : List (ℕ × Place)) → length (put_entry e es) ≡ length es + 1
length_put e [] = omega arith
length_put e (x ∷ xs) =
    elim (is_entry_before e x) as
    (λ b. length (cond b (e ∷ x ∷ xs) (x ∷ put_entry e xs)) ≡ suc (length xs) + 1) [
      | true ↦ omega arith
      | false ↦ let rest = length_put e xs in omega arith
    ]

pub length_without : (e : ℕ × Place) (es : List (ℕ × Place)) → IsRising es → has_entry es e ≡ true
    → length (without_entry e es) + 1 ≡ length es
length_without e [] rising there = absurd (false≢true there)
length_without e (x ∷ xs) rising there =
    elim (cases_Bool (same_entry e x)) [
      | inl same ↦
          let gone =
          without_absent e xs (ap (has_entry xs) (same_is e x same) ∙ none_behind x xs rising.0) in
          let here : without_entry e (x ∷ xs) ≡ xs =
          (λ i. cond (not (same i)) (x ∷ without_entry e xs) (without_entry e xs)) ∙ gone in
          let count = ap length here in
          omega arith
      | inr other ↦
          let rest = length_without e xs rising.1 (sym (λ i. other i || has_entry xs e) ∙ there) in
          let here : without_entry e (x ∷ xs) ≡ x ∷ without_entry e xs =
          λ i. cond (not (other i)) (x ∷ without_entry e xs) (without_entry e xs) in
          let count = ap length here in
          omega arith
    ]

-- ---- how high a tree is

at_most : (m n a : ℕ) → 2 ≤ m → m * n ≤ a → 2 * n ≤ a
at_most m n a p le = let more = mul-le-mul_right n p in omega arith

pub tree_low : (root : Branch) → IsRoot root → (0 < root.height → 2 ≤ root.fill)
    → length root.entries < 18446744073709551616 → root.height < 10
tree_low root is several few = go root.height refl
  where
    go : (h : ℕ) → root.height ≡ h → root.height < 10
    go zero e = omega arith
    go (suc b) e =
        let two = several (omega arith) in
        let most = at_most root.fill (least_entries b) (length root.entries) two (is.levels b e) in
        let low = height_small b (length root.entries) (omega arith) few in
        omega arith

least_is : (b : ℕ) → least_entries b ≡ 128 * 112 ^ b
least_is zero = refl
least_is (suc b) = let rest = least_is b in grind arith

pub tree_full : (root : Branch) → IsRoot root → (0 < root.height → 2 ≤ root.fill)
    → 2 ≤ root.height + 1 → 256 * 112 ^ (root.height + 1 - 2) ≤ length root.entries
tree_full root is several high = go root.height refl
  where
    go : (h : ℕ) → root.height ≡ h → 256 * 112 ^ (root.height + 1 - 2) ≤ length root.entries
    go zero e = absurd (omega arith)
    go (suc b) e =
        let two = several (omega arith) in
        let most = at_most root.fill (least_entries b) (length root.entries) two (is.levels b e) in
        let same : b ≡ root.height + 1 - 2 = omega arith in
        let least = least_is b in
        subst (λ d. 256 * 112 ^ d ≤ length root.entries) same (omega arith)

-- ---- a change

pub tree_added : (e : ℕ × Place) (root new : Branch) (pool pool' : Spares)
    (len spare nodes inners : ℕ) (shown : List (ℕ × Place))
    → IsTree root pool len spare nodes inners → root.entries ≡ shown
    → has_entry (rising_part shown) e ≡ false → 0 < spare → new.entries ≡ put_entry e root.entries
    → (0 < new.height → 2 ≤ new.fill) → pool'.keys + new.nodes ≡ pool.keys + root.nodes
    → pool'.kids + new.inners ≡ pool.kids + root.inners → pool'.key_room ≡ pool.key_room
    → pool'.kid_room ≡ pool.kid_room
    → IsTree new pool' (len + 1) (spare - 1) nodes inners
    × (rising_part new.entries ≡ put_entry e (rising_part shown))
tree_added e root new pool pool' len spare nodes inners shown tree seen absent some put several keys
    kids key_room kid_room =
    let facts = added e root.entries shown tree.rising seen absent in
    let count = tree.count in
    let more = ap length put ∙ length_put e root.entries in
    let all_nodes = tree.all_nodes in
    let all_inners = tree.all_inners in
    let room = tree.key_room in
    let kid_rooms = tree.kid_room in
    let enough = tree.enough_nodes some in
    let enough_inners = tree.enough_inners some in
    let bound = tree.bound in (
      record {
        rising = subst IsRising (sym put) facts.0;
        count = omega arith;
        several = several;
        all_nodes = omega arith;
        all_inners = omega arith;
        key_room = omega arith;
        kid_room = omega arith;
        enough_nodes = λ left. omega arith;
        enough_inners = λ left. omega arith;
        bound = omega arith;
      },
      ap rising_part put ∙ facts.1,
    )

pub tree_removed : (e : ℕ × Place) (root new : Branch) (pool pool' : Spares)
    (len len' spare nodes inners : ℕ) (shown : List (ℕ × Place))
    → IsTree root pool len spare nodes inners → root.entries ≡ shown
    → new.entries ≡ without_entry e root.entries → len' ≡ length (without_entry e root.entries)
    → len' ≤ len → (0 < new.height → 2 ≤ new.fill) → pool'.keys + new.nodes ≡ pool.keys + root.nodes
    → pool'.kids + new.inners ≡ pool.kids + root.inners → pool.key_room ≤ pool'.key_room
    → pool.kid_room ≤ pool'.kid_room
    → IsTree new pool' len' spare nodes inners
    × (rising_part new.entries ≡ without_entry e (rising_part shown))
tree_removed e root new pool pool' len len' spare nodes inners shown tree seen left count fewer
    several keys kids key_room kid_room =
    let facts = removed e root.entries shown tree.rising seen in
    let more = ap length left in
    let all_nodes = tree.all_nodes in
    let all_inners = tree.all_inners in
    let room = tree.key_room in
    let kid_rooms = tree.kid_room in
    let bound = tree.bound in (
      record {
        rising = subst IsRising (sym left) facts.0;
        count = omega arith;
        several = several;
        all_nodes = omega arith;
        all_inners = omega arith;
        key_room = omega arith;
        kid_room = omega arith;
        enough_nodes = λ some. omega (arith, tree.enough_nodes some);
        enough_inners = λ some. omega (arith, tree.enough_inners some);
        bound = omega arith;
      },
      ap rising_part left ∙ facts.1,
    )
