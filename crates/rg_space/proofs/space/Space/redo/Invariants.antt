use Rattle.std.proofs.Common.{◌≡◌, ◌≤◌, true, length, take}
use Rattle.rg_page.specs.Seen.{Keeps}
use Rattle.rg_record.specs.Applied.{parts_of}
use Rattle.rg_space.specs.Space.{Agree, InStep, frames_of, summaries_of, capacity_in, undos_in}
use Rattle.rg_space.proofs.RedoRecord.{RedoGoes}
use Rattle.rg_space.proofs.space.Space.redo.Given as goal

abbrev pub invariant-loop-part : goal.invariant-loop-part
invariant-loop-part g l =
    let a = g.F.Frames.seen (frames_of l.fn.self) in
    let b = g.F.Frames.seen (frames_of l.self) in
    record {
      step : InStep b (summaries_of l.self) (capacity_in l.self);
      capacity : capacity_in l.self ≡ capacity_in l.fn.self;
      undos : undos_in l.self ≡ undos_in l.fn.self;
      keeps : Keeps a b;
      forced : b.forced ≡ a.forced;
      reserved : b.reserved ≡ a.reserved;
      count : length b.pages ≡ length a.pages;
      idle : a.idle ≤ b.idle;
      agree : b.sure ≡ true → Agree a (summaries_of l.fn.self) → Agree b (summaries_of l.self);
      goes : b.sure ≡ true
          → RedoGoes l.entry a.pages b.pages (take l.part-index (parts_of l.entry.kind));
    }
