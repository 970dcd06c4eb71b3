use Rattle.rg_map.proofs.Places.{get-put, get-taken}
use Rattle.rg_map.proofs.laws.changes_are_at_one_place.Goals as goal

pub returns-clause-put : goal.returns-clause-put
returns-clause-put c = get-put

pub returns-clause-take : goal.returns-clause-take
returns-clause-take c = get-taken
