use Rattle.std.proofs.Common.{◌≡◌, ◌≤◌, ◌+◌}
use Rattle.rg_space.specs.Space.{frames_of, summaries_of, capacity_in, undos_in}
use Rattle.rg_undo.proofs.work.UndoWork.new.Given as goal

abbrev pub invariant-loop : goal.invariant-loop
invariant-loop g l = record {
  room : undos_in l.fn.space + l.index ≤ undos_in l.space;
  frames : frames_of l.space ≡ frames_of l.fn.space;
  summaries : summaries_of l.space ≡ summaries_of l.fn.space;
  capacity : capacity_in l.space ≡ capacity_in l.fn.space;
}
