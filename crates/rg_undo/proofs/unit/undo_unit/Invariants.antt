use Rattle.std.proofs.Common.{◌≡◌, ◌≤◌, ◌+◌, true, length, vec_capacity, vec_len}
use Rattle.rg_page.specs.Seen.{Keeps}
use Rattle.rg_space.specs.Space.{InStep, frames_of, summaries_of, capacity_in, undos_in}
use Rattle.rg_undo.specs.Unit.{CanUndoUnit}
use Rattle.rg_undo.proofs.UnitLoop.{Goes}
use Rattle.rg_undo.proofs.unit.undo_unit.Given as goal

abbrev pub decreases-loop-back : goal.decreases-loop-back
decreases-loop-back g l = length l.work

abbrev pub invariant-loop-back : goal.invariant-loop-back
invariant-loop-back g l =
    let a = g.F.Frames.seen (frames_of l.fn.space) in
    let b = g.F.Frames.seen (frames_of l.space) in
    record {
      step : InStep b (summaries_of l.space) (capacity_in l.space);
      capacity : capacity_in l.space ≡ capacity_in l.fn.space;
      room : length l.work ≤ undos_in l.space;
      free : vec_len l.records + length l.work ≤ vec_capacity l.records;
      count : l.at + length l.work ≡ l.fn.position.0 + length l.fn.changes.items;
      keeps : Keeps a b;
      forced : b.forced ≡ a.forced;
      idle : a.idle ≤ b.idle;
      spare : 5 ≤ b.spare;
      goes : b.sure ≡ true → CanUndoUnit a (summaries_of l.fn.space) l.fn.changes.items
          → Goes a b (summaries_of l.space) l.fn.changes.items l.work l.records.items
          l.fn.position.0
          l.fn.back.0 l.at l.back.0;
    }
