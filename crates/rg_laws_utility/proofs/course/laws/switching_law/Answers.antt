use Rattle.rg_laws_utility.proofs.CourseLemmas.Caught.{caught_up_at_switch}
use Rattle.rg_laws_utility.proofs.course.laws.switching_law.Goals as goal

pub returns : goal.returns
returns c = caught_up_at_switch
