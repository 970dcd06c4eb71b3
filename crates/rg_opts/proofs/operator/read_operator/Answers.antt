use Rattle.std.proofs.Common.{◌≡◌, ◌<◌, [], ◌∷◌, ◌++◌, length, arith}
use Rattle.std.proofs.lemmas.Bool.Decides.{nat_tests}
use Rattle.std.proofs.lemmas.Grind.{common_steps}
use Rattle.rg_opts.proofs.File.{read_more, refused}
use Rattle.rg_opts.proofs.operator.read_operator.Goals as goal

pub returns-in-Ok-None-clause-fault : goal.returns-in-Ok-None-clause-fault
returns-in-Ok-None-clause-fault c =
    let none = rw c.in-Ok-None.field-0-is at c.in-Ok-None.ensures in
    let some : 0 < length c.loop-rest.rest.now = grind (arith, nat_tests) in
    refused _ _ _ _ _ _ c.loop-rest.invariant some c.split_line.ensures none

pub loop-rest-preserved : goal.loop-rest-preserved
loop-rest-preserved c =
    let is = rw c.in-Ok-Some.field-0-is at c.in-Ok-Some.ensures in
    let some : 0 < length c.loop-rest.rest.now = grind (arith, nat_tests) in
    let pushed : c.push.new.self.items ≡ c.loop-rest.answers.items ++ c.in-Ok-Some.answer ∷ [] =
    grind (arith, common_steps) in
    rw pushed (read_more _ _ _ _ _ _ _ c.loop-rest.invariant some c.split_line.ensures is)
