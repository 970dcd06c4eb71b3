use Rattle.rg_words.proofs.words.read_admitted.Goals as goal

pub returns-in_default-2-clause-unknown : goal.returns-in_default-2-clause-unknown
returns-in_default-2-clause-unknown c = λ asked spelled is. c.in_default.ensures.none asked spelled
