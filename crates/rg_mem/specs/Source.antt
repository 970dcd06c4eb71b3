use Rattle.std.specs.Prelude.{ℕ, List}
use Rattle.rg_mem.specs.Tally.{Tally}

-- the bytes that a source has left, and its calls
pub record SourceState : Type 0 where
  pub left : List ℕ
  pub calls : Tally
