use Rattle.std.proofs.Common.{refl}
use Rattle.rg_laws_log.proofs.LogStateLemmas.Free.{free_back}
use Rattle.rg_laws_log.proofs.LogStateLemmas.Units.{stored_change, stored_undo, stored_rolled}
use Rattle.rg_laws_log.proofs.LogStateLemmas.Units.{stored_commit, stored_other}
use Rattle.rg_laws_log.specs.LogState.Write.{at_key}
use Rattle.rg_laws_log.proofs.log_state.laws.key_rows_law.Goals as goal

pub returns-clause-stored : goal.returns-clause-stored
returns-clause-stored c = record {
  purge = λ limit s parts k g m. refl;
  change = λ limit s w k g m. stored_change limit s w k m;
  undo = λ limit s t home after parts k g m. stored_undo limit s g t home after parts k m;
  roll_back = λ limit s t k g m. stored_rolled limit s t k m.1;
  switch = λ limit s pages k g m. refl;
  commit = λ limit s t k g h. stored_commit limit s t k h;
  commit_others = λ limit s t k g h. stored_other limit s t k h;
  quiet = λ s k h. free_back (at_key k) s.writes (s.now k) h;
}
