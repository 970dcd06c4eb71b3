use Rattle.rg_laws_utility.proofs.CourseLemmas.Going.{ends_in_time}
use Rattle.rg_laws_utility.proofs.course.laws.course_law.Goals as goal

pub returns : goal.returns
returns c = ends_in_time
