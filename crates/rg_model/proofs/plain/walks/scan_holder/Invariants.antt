use Rattle.std.proofs.Common.{◌≡◌, ◌-◌, ◌^◌}
use Rattle.std.specs.FinMap as map
use Rattle.rg_base.proofs.Walk.{passing_from}
use Rattle.rg_model.specs.Held.{first_owner, is_held_between, scan_holder}
use Rattle.rg_base.specs.Start.{start_of}
use Rattle.rg_model.proofs.plain.walks.scan_holder.Given as goal

abbrev pub invariant-loop-key : goal.invariant-loop-key
invariant-loop-key l = first_owner
    (passing_from (is_held_between l.session l.lo l.hi) (start_of l.last) (map.entries l.locks))
    ≡ scan_holder l.locks l.session l.lo l.hi

abbrev pub decreases-loop-key : goal.decreases-loop-key
decreases-loop-key l = 2 ^ 64 - start_of l.last
