use Rattle.rg_laws_utility.proofs.CourseLemmas.Drained.{nobody_writes, nothing_changes}
use Rattle.rg_laws_utility.proofs.CourseLemmas.Drained.{written_at_written}
use Rattle.rg_laws_utility.proofs.course.laws.drain_law.Goals as goal

pub returns-clause-nobody : goal.returns-clause-nobody
returns-clause-nobody c = nobody_writes

pub returns-clause-nothing : goal.returns-clause-nothing
returns-clause-nothing c = nothing_changes

pub returns-clause-written : goal.returns-clause-written
returns-clause-written c = written_at_written
