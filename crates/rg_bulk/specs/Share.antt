-- How a level is shared out among nodes.
use Rattle.std.specs.Prelude.{ℕ, ◌≡◌, ◌≤◌, ◌<◌, ◌-◌}

-- All that is left goes into one node where it fits. Else one node gets enough, and leaves enough
-- for another.
pub record IsShare (left most least size : ℕ) : Type 0 where
  pub fits : size ≤ most
  pub all : left ≤ most → size ≡ left
  pub enough : most < left → least ≤ size
  pub leaves : most < left → least ≤ left - size
