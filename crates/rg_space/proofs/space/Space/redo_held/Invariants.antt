use Rattle.std.proofs.Common.{◌≡◌, ◌≤◌, ℕ, List, true, length, drop}
use Rattle.rg_page.specs.Content.{Content}
use Rattle.rg_page.specs.Seen.{Keeps}
use Rattle.rg_record.specs.Applied.{after_of}
use Rattle.rg_space.specs.Space.{Agree, InStep, frames_of, summaries_of, capacity_in, undos_in}
use Rattle.rg_space.proofs.Redoing.{Redoes}
use Rattle.rg_space.proofs.space.Space.redo_held.Given as goal

abbrev pub invariant-loop-part : goal.invariant-loop-part
invariant-loop-part g l =
    let a = g.F.Frames.seen (frames_of l.fn.self) in
    let b = g.F.Frames.seen (frames_of l.self) in
    record {
      step : InStep b (summaries_of l.self) (capacity_in l.self);
      capacity : capacity_in l.self ≡ capacity_in l.fn.self;
      undos : undos_in l.self ≡ undos_in l.fn.self;
      held : b.held l.number ≡ true;
      keeps : Keeps a b;
      sure : b.sure ≡ a.sure;
      forced : b.forced ≡ a.forced;
      reserved : b.reserved ≡ a.reserved;
      count : length b.pages ≡ length a.pages;
      idle : l.entry.position.0 ≤ a.forced → a.idle ≤ b.idle;
      agree : Agree a (summaries_of l.fn.self) → Agree b (summaries_of l.self);
      gave : (pages : List Content) (n : ℕ)
          → g.F.Frames.gave pages n (frames_of l.fn.self) (frames_of l.self);
      redoes : Redoes l.entry.tran.0 (after_of l.entry.kind) l.entry.position.0 l.number a.pages
          b.pages l.part-items (drop l.part-index l.part-items);
    }
