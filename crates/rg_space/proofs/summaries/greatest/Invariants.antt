use Rattle.std.proofs.Common.{◌≤◌, ◌<◌, ◌-◌, ℕ, slice_index_or, [], length}
use Rattle.rg_page.specs.Ceiling.{ceiling}
use Rattle.rg_space.proofs.summaries.greatest.Given as goal

abbrev pub invariant-loop-i : goal.invariant-loop-i
invariant-loop-i l = (k : ℕ) → l.from ≤ k → k < l.i → k < length l.pages
    → ceiling (slice_index_or l.pages k []) ≤ l.top

abbrev pub decreases-loop-i : goal.decreases-loop-i
decreases-loop-i l = length l.pages - l.i
