use Rattle.std.proofs.Common.{◌≡◌, ◌≤◌, ◌-◌, length}
use Rattle.rg_base.specs.declared.set.Set.TheVariants.{Log as LogSet}
use Rattle.rg_outside.specs.Made.{WritesIn}
use Rattle.rg_outside.specs.Moments.{EachImage, HoldsThroughout, EachCall}
use Rattle.rg_image.specs.Log.{SpellsFrom}
use Rattle.rg_log.specs.Kept.{LeavesLog}
use Rattle.rg_log.proofs.log.Log.force.Given as goal

abbrev pub invariant-loop-self : goal.invariant-loop-self
invariant-loop-self g l = record {
  kept : l.self ≡ record l.fn.self { forced = l.self.forced };
  further : l.fn.self.forced ≤ l.self.forced;
  capacities : (g.V.Volume.seen l.volume).capacities ≡ (g.V.Volume.seen l.fn.volume).capacities;
  later : (g.V.Volume.seen l.fn.volume).faults ≤ (g.V.Volume.seen l.volume).faults;
  moments : LeavesLog (g.V.Volume.seen l.fn.volume).told l.fn.self.pages l.fn.self.records
      l.fn.self.forced
      → HoldsThroughout (g.V.Volume.seen l.fn.volume).told (g.V.Volume.seen l.volume).told
      (EachImage (SpellsFrom l.fn.self.pages l.fn.self.records l.fn.self.forced));
  ahead : LeavesLog (g.V.Volume.seen l.fn.volume).told l.fn.self.pages l.fn.self.records
      l.fn.self.forced
      → LeavesLog (g.V.Volume.seen l.volume).told l.fn.self.pages l.fn.self.records l.self.forced;
  only : EachCall (g.V.Volume.seen l.fn.volume).told (g.V.Volume.seen l.volume).told
      (WritesIn LogSet);
  none : l.fn.self.forced ≡ length l.fn.self.records → l.volume ≡ l.fn.volume;
}

abbrev pub decreases-loop-self : goal.decreases-loop-self
decreases-loop-self g l = length l.self.records - l.self.forced
