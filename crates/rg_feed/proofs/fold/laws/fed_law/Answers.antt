use Rattle.rg_feed.proofs.FoldLemmas.Feeding.{all_copied, begin_fed, begin_ordered, booked_fed}
use Rattle.rg_feed.proofs.FoldLemmas.Feeding.{booked_ordered, change_fed, copy_fed, same_fed}
use Rattle.rg_feed.proofs.fold.laws.fed_law.Goals as goal

pub returns-clause-begin : goal.returns-clause-begin
returns-clause-begin c row_at is_quiet last pages options feed low high =
    (begin_ordered options pages feed last, begin_fed options pages feed row_at is_quiet low high)

pub returns-clause-change : goal.returns-clause-change
returns-clause-change c old new was_quiet is_quiet progress feed change key fed sets becomes
    shrinks =
    change_fed old new was_quiet is_quiet progress feed change key fed sets becomes shrinks

pub returns-clause-copy : goal.returns-clause-copy
returns-clause-copy c row_at is_quiet progress feed position rows =
    copy_fed row_at is_quiet progress feed position rows

pub returns-clause-booked : goal.returns-clause-booked
returns-clause-booked c last copied row_at is_quiet progress feed stage =
    (booked_ordered last copied feed stage, booked_fed row_at is_quiet progress feed stage)

pub returns-clause-same : goal.returns-clause-same
returns-clause-same c = same_fed

pub returns-clause-table : goal.returns-clause-table
returns-clause-table c = all_copied
