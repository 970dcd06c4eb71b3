use Rattle.rg_laws_utility.proofs.TraceLocksLemmas.Telling.{both_begin, free_goes, told_goes}
use Rattle.rg_laws_utility.proofs.trace_locks.laws.told_law.Goals as goal

pub returns-clause-told : goal.returns-clause-told
returns-clause-told c past entry st new allowed told =
    told_goes past st new entry.answer entry.actor entry.event allowed told

pub returns-clause-free : goal.returns-clause-free
returns-clause-free c past entry st new allowed told free =
    free_goes past st new entry.answer entry.actor entry.event allowed told free

pub returns-clause-begins : goal.returns-clause-begins
returns-clause-begins c table copy = both_begin table copy
