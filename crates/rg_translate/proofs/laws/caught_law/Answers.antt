use Rattle.rg_translate.proofs.Later.{loaded, more_caught}
use Rattle.rg_translate.proofs.laws.caught_law.Goals as goal

pub returns-clause-load : goal.returns-clause-load
returns-clause-load c = loaded

pub returns-clause-more : goal.returns-clause-more
returns-clause-more c = more_caught
