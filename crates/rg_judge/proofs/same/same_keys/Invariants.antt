use Rattle.std.proofs.Common.{◌≡◌, drop}
use Rattle.rg_model.specs.Same.{same_list, same_number}
use Rattle.rg_judge.proofs.same.same_keys.Given as goal

-- what is left of both decides
abbrev pub invariant-loop-x : goal.invariant-loop-x
invariant-loop-x l =
    same_list same_number (drop l.x-index l.a) l.left ≡ same_list same_number l.a l.b
