use Rattle.std.proofs.Common.{◌≡◌, drop}
use Rattle.rg_model.specs.Same.{same_list, same_row}
use Rattle.rg_judge.proofs.same.same_rows.Given as goal

-- what is left of both decides
abbrev pub invariant-loop-x : goal.invariant-loop-x
invariant-loop-x l = same_list same_row (drop l.x-index l.a) l.left ≡ same_list same_row l.a l.b
