use Rattle.std.proofs.Common.{arith}
use Rattle.rg_undo.proofs.UnitLoop.{changes_step, changes_last}
use Rattle.rg_undo.proofs.unit.changes_back.Goals as goal

pub loop-entry-preserved : goal.loop-entry-preserved
loop-entry-preserved c = record {
  at = omega (arith, c.loop-entry.invariant.at);
  changes = changes_step c.args.entries.now c.loop-entry.entry-index c.loop-entry.at _
      c.entry-item.result _ _ _ c.loop-entry-test.true c.entry-item.is c.in_ok-change.ensures
      c.in_ok-push.ensures.items c.loop-entry.invariant.changes;
}

pub returns : goal.returns
returns c = changes_last c.args.entries.now c.loop-entry.entry-index c.loop-entry.at _ _
    c.loop-entry-test.false c.loop-entry.invariant.changes
