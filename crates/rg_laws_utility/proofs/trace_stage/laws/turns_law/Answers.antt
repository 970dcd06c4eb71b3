use Rattle.rg_laws_utility.proofs.TraceStageLemmas.Granting.{drain_granted}
use Rattle.rg_laws_utility.proofs.TraceStageLemmas.Kept.{kept_on}
use Rattle.rg_laws_utility.proofs.TraceStageLemmas.Switching.{plain_neither, switch_turn_at}
use Rattle.rg_laws_utility.proofs.TraceStageLemmas.Switching.{switch_under_all}
use Rattle.rg_laws_utility.proofs.trace_stage.laws.turns_law.Goals as goal

pub returns-clause-kept : goal.returns-clause-kept
returns-clause-kept c = kept_on

pub returns-clause-plain : goal.returns-clause-plain
returns-clause-plain c = plain_neither

pub returns-clause-switch : goal.returns-clause-switch
returns-clause-switch c = switch_turn_at

pub returns-clause-under_all : goal.returns-clause-under_all
returns-clause-under_all c = switch_under_all

pub returns-clause-granted : goal.returns-clause-granted
returns-clause-granted c = drain_granted
