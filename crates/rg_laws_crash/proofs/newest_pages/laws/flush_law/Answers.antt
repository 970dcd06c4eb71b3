use Rattle.rg_laws_crash.proofs.NewestPagesLemmas.Flush.{base_version, clean_newest, newest_written}
use Rattle.rg_laws_crash.proofs.NewestPagesLemmas.Flush.{written_version}
use Rattle.rg_laws_crash.proofs.newest_pages.laws.flush_law.Goals as goal

pub returns-clause-written : goal.returns-clause-written
returns-clause-written c e rs s p forced bytes positions are one there begun high low spells =
    newest_written e rs s p forced bytes positions are one there begun high low spells

pub returns-clause-version : goal.returns-clause-version
returns-clause-version c e rs more p x positions begun newest =
    written_version e rs more p x positions begun newest

pub returns-clause-base : goal.returns-clause-base
returns-clause-base c e rs p positions begun high = base_version e rs p positions begun high

pub returns-clause-clean : goal.returns-clause-clean
returns-clause-clean c e rs p q x positions begun high newest low =
    clean_newest e rs p q x positions begun high newest low
