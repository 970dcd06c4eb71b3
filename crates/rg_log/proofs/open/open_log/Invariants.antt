use Rattle.std.proofs.Common.{◌≡◌, ◌≤◌}
use Rattle.rg_outside.specs.Calls.{read_of}
use Rattle.rg_outside.specs.Moments.{EachCall, IfTold}
use Rattle.rg_image.specs.Form.{IsOpened}
use Rattle.rg_image.specs.Kept.{AreEntries}
use Rattle.rg_image.specs.Rules.{ArePages}
use Rattle.rg_log.specs.Open.{IsCertain, IsQuiet}
use Rattle.rg_log.proofs.open.open_log.Given as goal

abbrev pub invariant-loop-page : goal.invariant-loop-page
invariant-loop-page g l = record {
  opened : IsOpened l.records.items l.from l.page;
  entries : AreEntries l.records.items;
  capacities : (g.V.Volume.seen l.volume).capacities ≡ (g.V.Volume.seen l.fn.volume).capacities;
  later : (g.V.Volume.seen l.fn.volume).faults ≤ (g.V.Volume.seen l.volume).faults;
  only : EachCall (g.V.Volume.seen l.fn.volume).told (g.V.Volume.seen l.volume).told IsQuiet;
  sure : IfTold (g.V.Volume.seen l.volume).told IsCertain;
  are : IfTold (g.V.Volume.seen l.volume).told
      (λ t. ArePages (read_of t.first t.calls) l.page l.records.items);
}
