use Rattle.std.proofs.Common.{◌∙◌, sym, ap}
use Rattle.std.specs.FinMap as map
use Rattle.rg_base.proofs.MapView.{get-view}
use Rattle.rg_base.proofs.map.NumberMap.get.Goals as goal

pub returns : goal.returns
returns g c = c.get.ensures.value ∙ sym (get-view c.self.inside.entries c.args.key)
    ∙ ap (λ m. map.get m c.args.key) c.self.view_is
