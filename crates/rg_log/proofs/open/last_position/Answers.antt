use Rattle.std.proofs.Common.{sym, ◌∙◌}
use Rattle.rg_log.proofs.Follow.{position_more, position_end}
use Rattle.rg_log.proofs.open.last_position.Goals as goal

pub loop-entry-preserved : goal.loop-entry-preserved
loop-entry-preserved c =
    sym
    (position_more c.args.records.now c.loop-entry.entry-index _ _ c.loop-entry-test.true
    c.entry-item.is) ∙ c.loop-entry.invariant

pub returns : goal.returns
returns c = sym c.loop-entry.invariant
    ∙ position_end c.args.records.now c.loop-entry.entry-index _ c.loop-entry-test.false
