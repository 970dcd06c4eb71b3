use Rattle.std.proofs.Common.{◌∙◌, sym, ap}
use Rattle.std.specs.FinMap as map
use Rattle.rg_base.proofs.MapView.{len-view}
use Rattle.rg_base.proofs.map.NumberMap.len.Goals as goal

pub returns : goal.returns
returns g c = c.len.ensures.len ∙ sym (len-view c.self.inside.entries.entries c.len.ensures.ordered)
    ∙ ap map.len c.self.view_is
