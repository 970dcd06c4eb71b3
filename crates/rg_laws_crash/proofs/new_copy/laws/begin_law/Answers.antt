use Rattle.rg_laws_crash.proofs.NewCopyLemmas.Anew.{new_can_switch, switch_begins}
use Rattle.rg_laws_crash.proofs.new_copy.laws.begin_law.Goals as goal

pub returns-clause-can : goal.returns-clause-can
returns-clause-can c capacities rs copy pages is = new_can_switch capacities rs copy pages is

pub returns-clause-begins : goal.returns-clause-begins
returns-clause-begins c capacities limit rs copy pages s can =
    switch_begins capacities limit rs copy pages s can
