use Rattle.std.proofs.Common.{sym, ap, ◌∙◌}
use Rattle.std.specs.FinMap as map
use Rattle.rg_map.specs.Mapping.{Mapping}
use Rattle.rg_map.proofs.Places.{get-targets}
use Rattle.rg_map.proofs.table.MapTable.get.Goals as goal

pub returns-clause-target : goal.returns-clause-target
returns-clause-target c =
    c.copied.ensures ∙ c.get.ensures.value
    ∙ sym (get-targets c.self.inside.targets.entries c.args.source)
    ∙ ap (λ (mapping : Mapping). map.get mapping.targets c.args.source) c.self.view_is
