use Rattle.std.proofs.Common.{◌≡◌, ◌≤◌, ◌+◌, true, length}
use Rattle.rg_page.specs.Seen.{Keeps}
use Rattle.rg_space.specs.Space.{InStep, frames_of, summaries_of, capacity_in}
use Rattle.rg_check.specs.PageTests.Turns.{IsProper}
use Rattle.rg_check.proofs.PageTestsLemmas.Turning.{SoFar}
use Rattle.rg_check.proofs.page_tests.turns.undo_tested.Given as goal

abbrev pub decreases-loop-entry : goal.decreases-loop-entry
decreases-loop-entry g l = length l.waiting

abbrev pub invariant-loop-entry : goal.invariant-loop-entry
invariant-loop-entry g l =
    let a = g.F.Frames.seen (frames_of l.fn.space) in
    let b = g.F.Frames.seen (frames_of l.space) in
    record {
      step : InStep b (summaries_of l.space) (capacity_in l.space);
      capacity : capacity_in l.space ≡ capacity_in l.fn.space;
      count : l.at + length l.waiting ≡ l.fn.position.0 + length l.fn.changes.items;
      keeps : Keeps a b;
      forced : b.forced ≡ a.forced;
      idle : a.idle ≤ b.idle;
      spare : 5 ≤ b.spare;
      goes : b.sure ≡ true → IsProper a (summaries_of l.fn.space)
          → SoFar l.fn.position.0 l.fn.back.0 a b (summaries_of l.space) l.fn.changes.items
          l.waiting
          l.undos.items l.at l.back.0;
    }
