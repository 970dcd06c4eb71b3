use Rattle.rg_page.specs.Bare.{numbers_of}
use Rattle.std.proofs.Common.{◌≡◌, ◌<◌, ◌-◌, ℕ, false, slice_index_or, [], length}
use Rattle.rg_home.specs.Plan.{admits}
use Rattle.rg_space.proofs.summaries.Summaries.first.Given as goal

abbrev pub invariant-loop-i : goal.invariant-loop-i
invariant-loop-i l = (k : ℕ) → k < l.i → k < length l.self.pages
    → admits (numbers_of l.live) l.b (slice_index_or l.self.pages k []) ≡ false

abbrev pub decreases-loop-i : goal.decreases-loop-i
decreases-loop-i l = length l.self.pages - l.i
