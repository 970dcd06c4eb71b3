use Rattle.std.proofs.Common.{[]}
use Rattle.std.proofs.Common.{refl}
use Rattle.rg_laws_log.specs.LogState.Write.{own_of}
use Rattle.rg_laws_log.specs.LogState.Act.{state}
use Rattle.rg_laws_log.proofs.LogStateLemmas.Rolls.{undos_run, undos_are, undos_join, rollback_rows}
use Rattle.rg_laws_log.proofs.LogStateLemmas.Rolls.{rollback_pages}
use Rattle.rg_laws_log.proofs.log_state.laws.rollback_law.Goals as goal

pub returns-clause-rows : goal.returns-clause-rows
returns-clause-rows c limit s t undos g are runs k = rollback_rows limit s g t undos are runs k

pub returns-clause-runs : goal.returns-clause-runs
returns-clause-runs c = record {
  runs = λ limit first t acts runs lives. undos_run limit first t
      (own_of t (state first acts).writes) acts runs lives refl;
  are = λ t pages ws. undos_are t pages ws [] tt;
  joins = λ t pages ws acts. undos_join t pages ws [] acts;
}

pub returns-clause-pages : goal.returns-clause-pages
returns-clause-pages c limit s t undos g are runs = rollback_pages limit s g t undos are runs
