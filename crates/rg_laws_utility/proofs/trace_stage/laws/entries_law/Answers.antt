use Rattle.rg_laws_utility.proofs.TraceStageLemmas.Tended.{tends_booked, tends_opened}
use Rattle.rg_laws_utility.proofs.TraceStageLemmas.Tended.{tends_refused, tends_said, tends_started}
use Rattle.rg_laws_utility.proofs.TraceStageLemmas.Tended.{tends_system}
use Rattle.rg_laws_utility.proofs.trace_stage.laws.entries_law.Goals as goal

pub returns-clause-said : goal.returns-clause-said
returns-clause-said c = tends_said

pub returns-clause-system : goal.returns-clause-system
returns-clause-system c = tends_system

pub returns-clause-refused : goal.returns-clause-refused
returns-clause-refused c = tends_refused

pub returns-clause-opened : goal.returns-clause-opened
returns-clause-opened c = tends_opened

pub returns-clause-start : goal.returns-clause-start
returns-clause-start c = tends_started

pub returns-clause-step : goal.returns-clause-step
returns-clause-step c = tends_booked
