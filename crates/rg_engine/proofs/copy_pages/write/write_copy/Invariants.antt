use Rattle.std.proofs.Common.{◌≡◌, ◌≤◌}
use Rattle.rg_outside.specs.Calls.{read_of}
use Rattle.rg_outside.specs.Moments.{EachCall, IfTold}
use Rattle.rg_laws_crash.specs.NewCopy.Writing.{HasFirst, WritesCopy}
use Rattle.rg_engine.specs.CopyPages.Stamped.{stamped_all, stamped_first}
use Rattle.rg_engine.proofs.copy_pages.write.write_copy.Given as goal

abbrev pub invariant-loop-before : goal.invariant-loop-before
invariant-loop-before g l = record {
  stamps : l.shadow
      ≡ record l.fn.shadow { pages = stamped_first l.fn.at.0 l.before l.fn.shadow.pages };
  only : EachCall (g.V.Volume.seen l.fn.volume).told (g.V.Volume.seen l.volume).told
      (WritesCopy l.fn.copy (stamped_all l.fn.at.0 l.fn.shadow.pages));
  reads : IfTold (g.V.Volume.seen l.volume).told
      (λ t. HasFirst l.fn.copy (stamped_all l.fn.at.0 l.fn.shadow.pages) l.before
      (read_of t.first t.calls));
  capacities : (g.V.Volume.seen l.volume).capacities ≡ (g.V.Volume.seen l.fn.volume).capacities;
  later : (g.V.Volume.seen l.fn.volume).faults ≤ (g.V.Volume.seen l.volume).faults;
}
