use Rattle.std.proofs.Common.{◌≡◌, ◌-◌, ◌^◌}
use Rattle.std.specs.FinMap as map
use Rattle.rg_base.proofs.Walk.{passing_from}
use Rattle.rg_model.specs.Held.{first_owner, is_held_with_cat, find_holder}
use Rattle.rg_base.specs.Start.{start_of}
use Rattle.rg_model.proofs.plain.walks.find_holder.Given as goal

abbrev pub invariant-loop-key : goal.invariant-loop-key
invariant-loop-key l = first_owner
    (passing_from (is_held_with_cat l.table l.session l.cat) (start_of l.last)
    (map.entries l.locks)) ≡ find_holder l.table l.locks l.session l.cat

abbrev pub decreases-loop-key : goal.decreases-loop-key
decreases-loop-key l = 2 ^ 64 - start_of l.last
