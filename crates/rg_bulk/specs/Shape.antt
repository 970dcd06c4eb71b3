-- How full the nodes of a tree are.
use Rattle.std.specs.Prelude.{ℕ, zero, suc, ◌≡◌, ◌+◌, ◌*◌, ◌≤◌, List, [], length, map}
use Rattle.rg_base.specs.declared.place.Place.{Place}
use Rattle.rg_bulk.specs.Branch.{Branch, first_of}
use Rattle.std.specs.List.{AllByRecursion}

-- the fewest entries of a leaf, or children of an inner node, that is not the root
abbrev pub least_fill : ℕ → ℕ
least_fill zero = 128
least_fill (suc h) = 112

-- the fewest entries at or below a node that is not the root
abbrev pub least_entries : ℕ → ℕ
least_entries zero = 128
least_entries (suc h) = 112 * least_entries h

-- A child is of the level below its parent and is full enough. So the numbers of its nodes are
-- bounded by that of its entries.
pub record IsKid (height : ℕ) (kid : Branch) : Type 0 where
  pub level : kid.height ≡ height
  pub fill : least_fill height ≤ kid.fill
  pub entries : least_entries height ≤ length kid.entries
  pub nodes : 126 * kid.nodes + 2 ≤ length kid.entries
  pub inners : 14208 * kid.inners + 128 ≤ length kid.entries

-- a leaf has at most 256 entries, and room for one more, with which it is split
pub record IsLeaf (keys : List (ℕ × Place)) (kids : List Branch) (key_room : ℕ) : Type 0 where
  pub none : kids ≡ []
  pub most : length keys ≤ 256
  pub room : 257 ≤ key_room

-- An inner node has 1 to 225 children, and its keys are their first entries. It has room for one
-- more. (That a root has two at least is the tree's to keep: while one is removed, it may have
-- one.)
pub record IsInner (height : ℕ) (keys : List (ℕ × Place)) (kids : List Branch)
    (key_room kid_room : ℕ) : Type 0 where
  pub keys_are : keys ≡ map (λ kid. first_of kid.entries) kids
  pub fewest : 1 ≤ length kids
  pub most : length kids ≤ 225
  pub each : AllByRecursion (IsKid height) kids
  pub key_space : 257 ≤ key_room
  pub kid_space : 226 ≤ kid_room

-- a node of a height
abbrev pub IsNode : ℕ → List (ℕ × Place) → List Branch → ℕ → ℕ → Type 0
IsNode zero keys kids key_room kid_room = IsLeaf keys kids key_room
IsNode (suc h) keys kids key_room kid_room = IsInner h keys kids key_room kid_room

-- What is known of any node, a root too: the number of its nodes is bounded by that of its entries,
-- and so is its height.
pub record IsRoot (root : Branch) : Type 0 where
  pub kid : least_fill root.height ≤ root.fill → IsKid root.height root
  pub nodes : 126 * root.nodes ≤ length root.entries + 126
  pub inners : 14208 * root.inners ≤ length root.entries + 14208
  pub node : 1 ≤ root.nodes
  pub inner : (root.height ≡ 0 → ⊥) → 1 ≤ root.inners
  pub leaf : root.height ≡ 0 → (root.inners ≡ 0) × (root.fill ≡ length root.entries)
      × (root.fill ≤ 256)
  pub levels : (below : ℕ) → root.height ≡ suc below →
      root.fill * least_entries below ≤ length root.entries
