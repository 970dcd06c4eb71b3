use Rattle.rg_laws_log.proofs.PageBoundsLemmas.Within.{change_within, drop_within, purge_within}
use Rattle.rg_laws_log.proofs.PageBoundsLemmas.Within.{put_within, undo_within}
use Rattle.rg_laws_log.proofs.page_bounds.laws.within_law.Goals as goal

pub returns-clause-put : goal.returns-clause-put
returns-clause-put c live b limit pages plan is = put_within live b limit pages plan is

pub returns-clause-change : goal.returns-clause-change
returns-clause-change c live b limit pages home plan proper high there is =
    change_within live b limit pages home plan proper high there is

pub returns-clause-drop : goal.returns-clause-drop
returns-clause-drop c limit pages home proper high there =
    drop_within limit pages home proper high there

pub returns-clause-undo : goal.returns-clause-undo
returns-clause-undo c limit pages change proper high can =
    undo_within limit pages change proper high can

pub returns-clause-purge : goal.returns-clause-purge
returns-clause-purge c live limit pages n purges high = purge_within live limit pages n purges high
