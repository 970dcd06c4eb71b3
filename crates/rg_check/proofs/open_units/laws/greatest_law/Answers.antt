use Rattle.std.proofs.Common.{◌≤◌}
use Rattle.std.proofs.lemmas.List.Elements.{All-contains}
use Rattle.rg_record.specs.declared.record.Record.{Record}
use Rattle.rg_image.specs.Rules.{greatest_tran}
use Rattle.rg_check.proofs.OpenUnitsLemmas.Lefts.{all_below}
use Rattle.rg_check.proofs.open_units.laws.greatest_law.Goals as goal

pub returns : goal.returns
returns c = λ rs entry there. All-contains (λ (e : Record). e.tran.0 ≤ greatest_tran rs) rs entry
    (all_below rs) there
