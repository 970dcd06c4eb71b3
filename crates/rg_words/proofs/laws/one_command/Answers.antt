use Rattle.rg_words.proofs.Once.{one_command}
use Rattle.rg_words.proofs.laws.one_command.Goals as goal

pub returns : goal.returns
returns c = one_command
