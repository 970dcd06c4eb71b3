use Rattle.rg_laws_crash.proofs.SwitchRecordLemmas.Switching.{switch_owners, switch_reopens}
use Rattle.rg_laws_crash.proofs.SwitchRecordLemmas.Switching.{switch_stands, switch_stores}
use Rattle.rg_laws_crash.proofs.SwitchRecordLemmas.Switching.{switch_tells, switch_turns}
use Rattle.rg_laws_crash.proofs.switch_record.laws.switch_law.Goals as goal

pub returns-clause-stores : goal.returns-clause-stores
returns-clause-stores c rs copy pages k = switch_stores rs copy pages k

pub returns-clause-tells : goal.returns-clause-tells
returns-clause-tells c capacities limit rs copy pages s can =
    switch_tells capacities limit rs copy pages s can

pub returns-clause-stands : goal.returns-clause-stands
returns-clause-stands c capacities limit rs copy pages s can =
    switch_stands capacities limit rs copy pages s can

pub returns-clause-reopens : goal.returns-clause-reopens
returns-clause-reopens c capacities limit rs copy pages s can chain =
    switch_reopens capacities limit rs copy pages s can chain

pub returns-clause-owners : goal.returns-clause-owners
returns-clause-owners c capacities limit rs copy pages s can =
    switch_owners capacities limit rs copy pages s can

pub returns-clause-turns : goal.returns-clause-turns
returns-clause-turns c capacities limit rs copy pages s can =
    switch_turns capacities limit rs copy pages s can
