use Rattle.rg_laws_crash.proofs.PageVersionsLemmas.Redo.{all_redone, follow_positions, redone_again}
use Rattle.rg_laws_crash.proofs.PageVersionsLemmas.Redo.{version_fits, version_low, version_more}
use Rattle.rg_laws_crash.proofs.PageVersionsLemmas.Redo.{version_redone, version_settled}
use Rattle.rg_laws_crash.proofs.PageVersionsLemmas.Redo.{version_taken}
use Rattle.rg_laws_crash.proofs.PageVersionsLemmas.OnVolume.{begins_there, begun_with}
use Rattle.rg_laws_crash.proofs.PageVersionsLemmas.OnVolume.{may_be_written, reads_back}
use Rattle.rg_laws_crash.proofs.PageVersionsLemmas.OnVolume.{stays_there}
use Rattle.rg_laws_crash.proofs.page_versions.laws.version_law.Goals as goal

pub returns-clause-again : goal.returns-clause-again
returns-clause-again c rs x = redone_again rs x

pub returns-clause-goes_on : goal.returns-clause-goes_on
returns-clause-goes_on c e rs p k n low le high = version_redone e rs p k n low le high

pub returns-clause-settled : goal.returns-clause-settled
returns-clause-settled c e rs p k n are low le high settled =
    version_settled e rs p (follow_positions rs are) k n low le high settled

pub returns-clause-low : goal.returns-clause-low
returns-clause-low c e rs p k are low high base =
    version_low e rs p (follow_positions rs are) k low high base

pub returns-clause-later : goal.returns-clause-later
returns-clause-later c e rs more p k high = version_more e rs p more k high

pub returns-clause-taken : goal.returns-clause-taken
returns-clause-taken c e rs p k are high base =
    version_taken e rs p (follow_positions rs are) k high base

pub returns-clause-fits : goal.returns-clause-fits
returns-clause-fits c e rs p k n low le high fits = version_fits e rs p k n low le high fits

pub returns-clause-written : goal.returns-clause-written
returns-clause-written c e rs p forced bytes are begun high settled spells =
    may_be_written e rs p forced bytes are begun high settled spells

pub returns-clause-stays : goal.returns-clause-stays
returns-clause-stays c e rs more p old new bytes high le on =
    stays_there e rs more p old new bytes high le on

pub returns-clause-back : goal.returns-clause-back
returns-clause-back c e rs high p bytes y are begun most on spells copy number =
    reads_back e rs high p bytes y are begun most on spells copy number

pub returns-clause-all : goal.returns-clause-all
returns-clause-all c rs pages = all_redone rs pages

pub returns-clause-begins : goal.returns-clause-begins
returns-clause-begins c e rs p bytes y are high read =
    (begun_with e rs p bytes y read, begins_there e rs p bytes y read are high)
