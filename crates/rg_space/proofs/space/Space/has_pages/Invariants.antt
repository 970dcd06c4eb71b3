use Rattle.std.proofs.Common.{length, drop}
use Rattle.rg_space.specs.Carries.{AllThere}
use Rattle.rg_space.specs.Space.{frames_of}
use Rattle.rg_space.proofs.space.Space.has_pages.Given as goal

abbrev pub invariant-loop-part : goal.invariant-loop-part
invariant-loop-part g l =
    let n = length (g.F.Frames.seen (frames_of l.self)).pages in
    record {
      there : AllThere n (drop l.part-index l.parts) → AllThere n l.parts;
      here : AllThere n l.parts → AllThere n (drop l.part-index l.parts);
    }
