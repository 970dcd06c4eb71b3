use Rattle.std.proofs.Common.{◌≡◌, ◌≤◌}
use Rattle.rg_log.specs.Open.{IsQuiet}
use Rattle.rg_outside.specs.Calls.{read_of}
use Rattle.rg_outside.specs.Moments.{EachCall, IfTold}
use Rattle.rg_restart.specs.Data.{AreBase, AreTakenAsIs, MarksPages, TakesPages}
use Rattle.rg_restart.proofs.data.read_pages.Given as goal

abbrev pub invariant-loop-before : goal.invariant-loop-before
invariant-loop-before g l = record {
  capacities : (g.V.Volume.seen l.volume).capacities ≡ (g.V.Volume.seen l.fn.volume).capacities;
  later : (g.V.Volume.seen l.fn.volume).faults ≤ (g.V.Volume.seen l.volume).faults;
  only : EachCall (g.V.Volume.seen l.fn.volume).told (g.V.Volume.seen l.volume).told IsQuiet;
  base : AreBase l.fn.copy l.fn.last l.before l.frames;
  as_is : AreTakenAsIs l.fn.copy l.fn.switch l.frames.pages.items;
  takes : IfTold (g.V.Volume.seen l.volume).told
      (λ t. TakesPages l.fn.copy l.fn.last l.fn.switch l.fn.set l.before (read_of t.first t.calls)
      l.frames.pages.items);
  marked : IfTold (g.V.Volume.seen l.volume).told
      (λ t. MarksPages l.fn.copy l.fn.last l.fn.switch l.fn.set l.before (read_of t.first t.calls)
      l.marks.items);
}
