-- What a tree keeps.
use Rattle.std.specs.Prelude.{ℕ, ◌≡◌, ◌+◌, ◌*◌, ◌<◌, ◌≤◌, length}
use Rattle.rg_index.specs.Entries.{IsRising}
use Rattle.rg_bulk.specs.Branch.{Branch}
use Rattle.rg_btree.specs.Spares.{Spares}

-- The entries rise, and `len` is their number. An inner root has two children at least. `nodes` and
-- `inners` count the nodes and the inner nodes of the tree and the pool together, and the pool can
-- hold them all. They are enough for the spare additions: a tree of n entries has at most n / 126 +
-- 1 nodes and n / 14208 + 1 inner ones, and an addition takes no more than eleven on its way.
pub record IsTree (root : Branch) (pool : Spares) (len spare nodes inners : ℕ) : Type 0 where
  pub rising : IsRising root.entries
  pub count : len ≡ length root.entries
  pub several : 0 < root.height → 2 ≤ root.fill
  pub all_nodes : nodes ≡ pool.keys + root.nodes
  pub all_inners : inners ≡ pool.kids + root.inners
  pub key_room : nodes ≤ pool.key_room
  pub kid_room : inners ≤ pool.kid_room
  pub enough_nodes : 0 < spare → len + spare + 1512 ≤ 126 * nodes
  pub enough_inners : 0 < spare → len + spare + 170496 ≤ 14208 * inners
  pub bound : len + spare < 4611686018427387904
