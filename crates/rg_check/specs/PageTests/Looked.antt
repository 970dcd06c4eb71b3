-- What a call that only looks at pages leaves.
use Rattle.std.specs.Prelude.{◌≡◌, ◌≤◌}
use Rattle.rg_page.specs.Seen.{Seen, Reads}
use Rattle.rg_space.specs.Space.{InStep, summaries_of, capacity_in, undos_in}
use Rattle.rg_space.specs.declared.space.Space.{Space}

-- pages were read, and may be held; none was reserved
pub record Looked (a b : Seen) : Type 0 where
  pub reads : Reads a b
  pub reserved : b.reserved ≡ a.reserved
  pub idle : a.idle ≤ b.idle

-- a space before and after, with what is seen of its frames: it is as it was, and all pages are let
-- go
pub record LeftAsItWas {F : Type 0} (before after : Space F) (a b : Seen) : Type 0 where
  pub step : InStep b (summaries_of after) (capacity_in after)
  pub capacity : capacity_in after ≡ capacity_in before
  pub undos : undos_in after ≡ undos_in before
  pub summaries : summaries_of after ≡ summaries_of before
  pub looked : Looked a b
  pub spare : b.spare ≡ b.idle
