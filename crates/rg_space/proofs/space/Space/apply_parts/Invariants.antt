use Rattle.std.proofs.Common.{◌≡◌, ℕ, List, drop}
use Rattle.std.specs.Option.{option_copied}
use Rattle.rg_page.specs.Content.{Content}
use Rattle.rg_space.specs.Applied.{AllHeld, AreApplicable, Within, Writes, wrote_all}
use Rattle.rg_space.specs.Space.{Agree, InStep, frames_of, summaries_of, capacity_in, undos_in}
use Rattle.rg_space.proofs.space.Space.apply_parts.Given as goal

abbrev pub invariant-loop-part : goal.invariant-loop-part
invariant-loop-part g l =
    let a = g.F.Frames.seen (frames_of l.fn.self) in
    let b = g.F.Frames.seen (frames_of l.self) in
    record {
      step : InStep b (summaries_of l.self) (capacity_in l.self);
      capacity : capacity_in l.self ≡ capacity_in l.fn.self;
      undos : undos_in l.self ≡ undos_in l.fn.self;
      held : AllHeld b (drop l.part-index l.parts);
      writes : Writes l.position.0 a b;
      agree : Agree a (summaries_of l.fn.self) → Agree b (summaries_of l.self);
      gave : (pages : List Content) (n : ℕ)
          → g.F.Frames.gave pages n (frames_of l.fn.self) (frames_of l.self);
      pages : (limit : ℕ) → Within limit a (capacity_in l.fn.self)
          → AreApplicable limit a.copy l.tran.0 (option_copied l.after) l.position.0 a.pages l.parts
          → AreApplicable limit b.copy l.tran.0 (option_copied l.after) l.position.0 b.pages
          (drop l.part-index l.parts)
          × (wrote_all b.copy l.tran.0 (option_copied l.after) l.position.0 b.pages
          (drop l.part-index l.parts)
          ≡ wrote_all a.copy l.tran.0 (option_copied l.after) l.position.0 a.pages l.parts);
    }
