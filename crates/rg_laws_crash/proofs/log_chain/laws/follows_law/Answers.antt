use Rattle.rg_laws_crash.proofs.LogChainLemmas.Following.{chain_front, record_follows}
use Rattle.rg_laws_crash.proofs.LogChainLemmas.Following.{records_follow}
use Rattle.rg_laws_crash.proofs.log_chain.laws.follows_law.Goals as goal

pub returns-clause-one : goal.returns-clause-one
returns-clause-one c capacities limit pages rs entry s tells g lawful next is =
    record_follows capacities limit pages rs entry s tells g lawful next is

pub returns-clause-more : goal.returns-clause-more
returns-clause-more c capacities limit pages rs more s tells g runs next is chain =
    records_follow capacities limit pages rs more s tells g runs next is chain

pub returns-clause-front : goal.returns-clause-front
returns-clause-front c capacities rs more chain = chain_front capacities rs more chain
