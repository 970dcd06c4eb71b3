-- Children after a removal below one of them.
use Rattle.std.specs.Prelude.{ℕ, ◌≡◌, ◌+◌, ◌≤◌}
use Rattle.rg_bulk.specs.Branch.{Branch}
use Rattle.rg_bulk.specs.Shape.{least_fill}

-- a child of a height that is full enough, or one short
pub record IsShort (height : ℕ) (kid : Branch) : Type 0 where
  pub level : kid.height ≡ height
  pub fill : least_fill height ≤ kid.fill + 1
