use Rattle.rg_words.proofs.Once.{unknown}
use Rattle.rg_words.proofs.words.read_words.Goals as goal

pub returns-clause-unknown : goal.returns-clause-unknown
returns-clause-unknown c = unknown _ _ c.read_admitted.ensures.unknown
