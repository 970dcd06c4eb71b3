use Rattle.rg_outside.proofs.Every.{synced_since}
use Rattle.rg_outside.proofs.laws.sync_makes_certain.Goals as goal

pub returns : goal.returns
returns c = synced_since
