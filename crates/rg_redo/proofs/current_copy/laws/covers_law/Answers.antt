use Rattle.rg_redo.proofs.CurrentCopyLemmas.Covering.{covers_all}
use Rattle.rg_redo.proofs.current_copy.laws.covers_law.Goals as goal

pub returns : goal.returns
returns c = covers_all
