use Rattle.std.proofs.Common.{◌≡◌}
use Rattle.std.proofs.lemmas.List.Elements.{All-contains}
use Rattle.rg_home.specs.Written.{Written}
use Rattle.rg_undo.specs.Unit.{writes_of}
use Rattle.rg_check.specs.OpenUnits.Unended.{left_of}
use Rattle.rg_check.proofs.OpenUnitsLemmas.Lefts.{left_owners}
use Rattle.rg_check.proofs.open_units.laws.owners_law.Goals as goal

pub returns : goal.returns
returns c = λ tran rs write there. All-contains (λ (w : Written). w.owner ≡ tran)
    (writes_of (left_of tran rs)) write (left_owners tran rs) there
