use Rattle.rg_engine.proofs.CopyPagesLemmas.Stamping.{ArePagesOf-stamped_all}
use Rattle.rg_engine.proofs.CopyPagesLemmas.Stamping.{content_at-stamped_all, length-stamped_first}
use Rattle.rg_engine.proofs.CopyPagesLemmas.Stamping.{slots_of-stamped_first, stamped-stamped_first}
use Rattle.rg_engine.proofs.copy_pages.laws.stamped_law.Goals as goal

pub returns-clause-count : goal.returns-clause-count
returns-clause-count c = length-stamped_first

pub returns-clause-slots : goal.returns-clause-slots
returns-clause-slots c = slots_of-stamped_first

pub returns-clause-next : goal.returns-clause-next
returns-clause-next c = stamped-stamped_first

pub returns-clause-each : goal.returns-clause-each
returns-clause-each c = content_at-stamped_all

pub returns-clause-are : goal.returns-clause-are
returns-clause-are c = ArePagesOf-stamped_all
