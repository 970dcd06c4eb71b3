use Rattle.rg_laws_log.proofs.LogStateLemmas.Closing.{all_closed, closed_table}
use Rattle.rg_laws_log.proofs.LogStateLemmas.Opens.{prefix_tested}
use Rattle.rg_laws_log.proofs.LogStateLemmas.Testing.{units_can, tested_consistent, tested_clean}
use Rattle.rg_laws_log.proofs.LogStateLemmas.Testing.{tested_rest}
use Rattle.rg_laws_log.proofs.LogStateLemmas.Later.{later, later_tells, later_stored}
use Rattle.rg_laws_log.proofs.log_state.laws.tests_law.Goals as goal

pub returns-clause-pass : goal.returns-clause-pass
returns-clause-pass c limit acts runs ts covers = prefix_tested limit acts runs ts covers

pub returns-clause-close : goal.returns-clause-close
returns-clause-close c = record {
  ends = λ limit acts ts runs lives. all_closed limit ts acts runs lives;
  rows = λ limit acts more closing all none. closed_table limit acts more closing all none;
}

pub returns-clause-suffice : goal.returns-clause-suffice
returns-clause-suffice c limit pages units stored top t = (
  units_can units pages t.proper t.needed,
  tested_consistent limit pages units stored top t,
  λ below. tested_clean limit pages units stored top t below,
)

pub returns-clause-rests : goal.returns-clause-rests
returns-clause-rests c limit pages units rest done stored top e t =
    tested_rest limit pages units rest done stored top e t

pub returns-clause-later : goal.returns-clause-later
returns-clause-later c limit pages units top old t low acts runs =
    later limit pages units top old t low acts runs

pub returns-clause-tells : goal.returns-clause-tells
returns-clause-tells c = record {
  stored = λ limit pages units top old t low acts runs k. later_stored limit pages units top old t
      low acts runs k;
  commits = λ limit pages units top old t low acts runs f may k. later_tells limit pages units top
      old t low acts runs f may k;
}
