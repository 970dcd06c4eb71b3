use Rattle.rg_laws_utility.proofs.CourseLemmas.Loaded.{loaded_goes_on}
use Rattle.rg_laws_utility.proofs.CourseLemmas.Loads.{loading_goes_on}
use Rattle.rg_laws_utility.proofs.course.laws.loading_law.Goals as goal

pub returns-clause-filled : goal.returns-clause-filled
returns-clause-filled c = loading_goes_on

pub returns-clause-loaded : goal.returns-clause-loaded
returns-clause-loaded c = loaded_goes_on
