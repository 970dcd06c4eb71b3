use Rattle.rg_laws_crash.proofs.PageVersionsLemmas.OnImage.{calls_keep, more_keeps, other_keeps}
use Rattle.rg_laws_crash.proofs.PageVersionsLemmas.OnImage.{read_keeps, sync_keeps, write_keeps}
use Rattle.rg_laws_crash.proofs.page_versions.laws.image_law.Goals as goal

pub returns-clause-write : goal.returns-clause-write
returns-clause-write c set capacity e rs forced old new result page bytes leaves may made =
    write_keeps set capacity e rs forced old new result page bytes leaves may made

pub returns-clause-other : goal.returns-clause-other
returns-clause-other c set capacity e rs forced old new result other page bytes differ leaves made =
    other_keeps set capacity e rs forced old new result other page bytes differ leaves made

pub returns-clause-sync : goal.returns-clause-sync
returns-clause-sync c set capacity e rs forced old new result leaves made =
    sync_keeps set capacity e rs forced old new result leaves made

pub returns-clause-read : goal.returns-clause-read
returns-clause-read c set capacity e rs forced old new result leaves made =
    read_keeps set capacity e rs forced old new result leaves made

pub returns-clause-more : goal.returns-clause-more
returns-clause-more c set capacity e rs more old new told high le leaves =
    more_keeps set capacity e rs more old new told high le leaves

pub returns-clause-calls : goal.returns-clause-calls
returns-clause-calls c set capacity e rs forced old new other differ leaves made =
    calls_keep set capacity e rs forced old new other differ leaves made
