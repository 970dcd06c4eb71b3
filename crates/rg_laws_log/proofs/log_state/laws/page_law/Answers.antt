use Rattle.rg_laws_log.proofs.LogStateLemmas.ByPage.{page_by_page}
use Rattle.rg_laws_log.proofs.log_state.laws.page_law.Goals as goal

pub returns : goal.returns
returns c t after limit pages parts n low f = page_by_page t after limit pages parts n f
