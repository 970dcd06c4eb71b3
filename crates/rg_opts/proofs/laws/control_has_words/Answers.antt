use Rattle.rg_opts.proofs.AnswerLines.{control_words}
use Rattle.rg_opts.proofs.laws.control_has_words.Goals as goal

pub returns : goal.returns
returns c = control_words
