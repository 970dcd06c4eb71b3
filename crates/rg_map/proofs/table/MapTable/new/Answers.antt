use Rattle.std.proofs.Common.{sym, ap, subst}
use Rattle.rg_map.specs.Mapping.{IsOneToOne, targets_of}
use Rattle.rg_map.proofs.OneToOne.{one-empty}
use Rattle.rg_map.proofs.table.MapTable.new.Goals as goal

pub invariant_of-result : goal.invariant_of-result
invariant_of-result c = subst IsOneToOne (sym (ap targets_of c.new.ensures.empty)) one-empty
