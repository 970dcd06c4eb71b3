use Rattle.std.proofs.Common.{◌≡◌, drop}
use Rattle.rg_model.specs.Right.{same_home_spot}
use Rattle.rg_model.specs.Same.{same_list}
use Rattle.rg_judge.proofs.layouts.packing.same_home_spots.Given as goal

-- what is left of both decides
abbrev pub invariant-loop-x : goal.invariant-loop-x
invariant-loop-x l =
    same_list same_home_spot (drop l.x-index l.a) l.left ≡ same_list same_home_spot l.a l.b
