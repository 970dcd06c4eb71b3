use Rattle.rg_laws_crash.proofs.NewCopyLemmas.Forcing.{switch_either, versions_old}
use Rattle.rg_laws_crash.proofs.new_copy.laws.either_law.Goals as goal

pub returns-clause-either : goal.returns-clause-either
returns-clause-either c capacities limit e rs copy pages s forced n i can is =
    switch_either capacities limit e rs copy pages s forced n i can is

pub returns-clause-versions : goal.returns-clause-versions
returns-clause-versions c capacities e rs forced i positions begins begun within has =
    versions_old capacities e rs forced i positions begins begun within has
