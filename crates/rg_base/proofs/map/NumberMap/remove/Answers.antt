use Rattle.std.proofs.Common.{◌∙◌, sym, ap}
use Rattle.std.specs.FinMap as map
use Rattle.rg_base.proofs.MapView.{get-view, remove-view}
use Rattle.rg_base.proofs.map.NumberMap.remove.Goals as goal

pub returns-clause-before : goal.returns-clause-before
returns-clause-before g c =
    c.remove.ensures.value ∙ sym (get-view c.self.inside.entries c.args.key)
    ∙ ap (λ m. map.get m c.args.key) c.self.view_is

pub returns-clause-removed : goal.returns-clause-removed
returns-clause-removed g c =
    remove-view c.self.inside.entries c.remove.new.self c.args.key c.remove.ensures.updates
    ∙ ap (λ m. map.remove m c.args.key) c.self.view_is
