use Rattle.std.proofs.Common.{◌≡◌, ◌+◌}
use Rattle.rg_space.specs.Space.{frames_of, summaries_of, capacity_in, undos_in}
use Rattle.rg_space.proofs.space.Space.reserve_undo.Given as goal

abbrev pub invariant-loop-i : goal.invariant-loop-i
invariant-loop-i g l = record {
  room : undos_in l.fn.self + l._i ≡ undos_in l.self;
  frames : frames_of l.self ≡ frames_of l.fn.self;
  summaries : summaries_of l.self ≡ summaries_of l.fn.self;
  capacity : capacity_in l.self ≡ capacity_in l.fn.self;
}
