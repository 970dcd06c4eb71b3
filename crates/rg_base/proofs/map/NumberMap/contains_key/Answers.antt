use Rattle.std.proofs.Common.{◌∙◌, sym, ap}
use Rattle.std.specs.FinMap as map
use Rattle.std.specs.Option.{is_some}
use Rattle.rg_base.proofs.MapView.{get-view}
use Rattle.rg_base.proofs.map.NumberMap.contains_key.Goals as goal

pub returns : goal.returns
returns g c =
    c.contains_key.ensures ∙ ap is_some (sym (get-view c.self.inside.entries c.args.key))
    ∙ ap (λ m. map.contains_key m c.args.key) c.self.view_is
