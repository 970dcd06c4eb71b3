use Rattle.rg_laws_crash.proofs.LogChainLemmas.Telling.{record_tells, records_tell}
use Rattle.rg_laws_crash.proofs.log_chain.laws.tells_law.Goals as goal

pub returns-clause-one : goal.returns-clause-one
returns-clause-one c limit pages rs entry s tells g lawful next =
    record_tells limit pages rs entry s tells g lawful next

pub returns-clause-more : goal.returns-clause-more
returns-clause-more c limit pages rs more s tells g runs next =
    records_tell limit pages rs more s tells g runs next
