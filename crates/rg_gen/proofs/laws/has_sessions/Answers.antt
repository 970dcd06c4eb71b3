use Rattle.rg_gen.proofs.Sessions.{each_of_sessions}
use Rattle.rg_gen.proofs.laws.has_sessions.Goals as goal

pub returns : goal.returns
returns c = each_of_sessions
