use Rattle.std.proofs.Common.{◌≡◌, drop}
use Rattle.rg_page.specs.Seen.{Seen}
use Rattle.rg_space.specs.Applied.{AllHeld}
use Rattle.rg_space.specs.Took.{Took}
use Rattle.rg_space.specs.Space.{InStep, frames_of, summaries_of, capacity_in, undos_in}
use Rattle.rg_space.proofs.Readying.{Later}
use Rattle.rg_space.proofs.space.Space.hold_there.Given as goal

abbrev pub invariant-loop-part : goal.invariant-loop-part
invariant-loop-part g l =
    let a = g.F.Frames.seen (frames_of l.fn.self) in
    let b = g.F.Frames.seen (frames_of l.self) in
    record {
      step : InStep b (summaries_of l.self) (capacity_in l.self);
      capacity : capacity_in l.self ≡ capacity_in l.fn.self;
      summaries : summaries_of l.self ≡ summaries_of l.fn.self;
      undos : undos_in l.self ≡ undos_in l.fn.self;
      reserved : b.reserved ≡ a.reserved;
      took : Took l.part-index a b;
      gave : g.F.Frames.gave a.pages a.forced (frames_of l.fn.self) (frames_of l.self);
      held : (s : Seen) → Later b s → AllHeld s (drop l.part-index l.parts) → AllHeld s l.parts;
    }
