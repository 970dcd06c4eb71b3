use Rattle.std.proofs.Common.{ap, ◌∙◌, Vec, Global}
use Rattle.rg_base.specs.declared.tran.Tran.{Tran}
use Rattle.rg_engine.proofs.UnitLists.{with_more, with_same}
use Rattle.rg_engine.proofs.units.Units.with.Goals as goal
use Rattle.rg_engine.proofs.units.Units.with.Goals.{in-Some+in_ok-push-2, in_default}

pub loop-slot-preserved : goal.loop-slot-preserved
loop-slot-preserved c =
    elim c.match-slot.branch [
      | in-Some+in_ok-push-2 w ↦
          with_more c.args.tran.0 c.loop-slot.trans.items c.match-slot.trans.items
          c.deref-slot-items.result.now c.loop-slot.slot-index w.in-Some.unit c.loop-slot.invariant
          c.loop-slot-test.true
          w.in-Some.is
          (ap (λ (v : Vec Tran Global). v.items) w.trans-is ∙ w.in_ok-push-2.ensures.items)
      | in_default w ↦
          with_same c.args.tran.0 c.loop-slot.trans.items c.match-slot.trans.items
          c.deref-slot-items.result.now c.loop-slot.slot-index c.loop-slot.invariant
          c.loop-slot-test.true
          w.in_default.is (ap (λ (v : Vec Tran Global). v.items) w.trans-is)
    ]
