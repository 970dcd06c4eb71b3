use Rattle.std.proofs.Common.{◌≡◌, ◌≤◌, ◌-◌, true, drop, length}
use Rattle.std.specs.List.{AllByRecursion}
use Rattle.rg_page.specs.Seen.{Keeps}
use Rattle.rg_space.specs.Space.{Agree, InStep, frames_of, summaries_of, capacity_in, undos_in}
use Rattle.rg_redo.specs.Redo.{CanRedo}
use Rattle.rg_redo.proofs.Redoing.{Goes}
use Rattle.rg_redo.proofs.redo.redo_each.Given as goal

abbrev pub decreases-loop-at : goal.decreases-loop-at
decreases-loop-at g l = length l.records - l.at

abbrev pub invariant-loop-at : goal.invariant-loop-at
invariant-loop-at g l =
    let a = g.F.Frames.seen (frames_of l.fn.space) in
    let b = g.F.Frames.seen (frames_of l.space) in
    record {
      can : AllByRecursion (CanRedo (length a.pages) a.forced) (drop l.at l.records);
      step : InStep b (summaries_of l.space) (capacity_in l.space);
      capacity : capacity_in l.space ≡ capacity_in l.fn.space;
      undos : undos_in l.space ≡ undos_in l.fn.space;
      keeps : Keeps a b;
      forced : b.forced ≡ a.forced;
      reserved : b.reserved ≡ a.reserved;
      count : length b.pages ≡ length a.pages;
      idle : a.idle ≤ b.idle;
      agree : b.sure ≡ true → Agree a (summaries_of l.fn.space) → Agree b (summaries_of l.space);
      goes : b.sure ≡ true → Goes l.records (drop l.at l.records) a.pages b.pages;
    }
