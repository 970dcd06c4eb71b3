use Rattle.rg_judge.proofs.TableLemmas.Ended.{held-none}
use Rattle.rg_judge.proofs.table.locked_rows.LockedRows.new.Goals as goal

pub invariant_of-result : goal.invariant_of-result
invariant_of-result c = held-none c.args.table c.in_ok-new.field-0 c.new-2.result.owners
    c.in_ok-new.ensures c.new-2.ensures
