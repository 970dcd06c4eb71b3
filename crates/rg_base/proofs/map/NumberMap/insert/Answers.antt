use Rattle.std.proofs.Common.{◌∙◌, sym, ap}
use Rattle.std.specs.FinMap as map
use Rattle.rg_base.proofs.MapView.{get-view, insert-view}
use Rattle.rg_base.proofs.map.NumberMap.insert.Goals as goal

pub returns-in-Ok-clause-before : goal.returns-in-Ok-clause-before
returns-in-Ok-clause-before g c =
    c.in-Ok.ensures.old ∙ sym (get-view c.self.inside.entries c.args.key)
    ∙ ap (λ m. map.get m c.args.key) c.self.view_is

pub returns-in-Ok-clause-ok : goal.returns-in-Ok-clause-ok
returns-in-Ok-clause-ok g c =
    insert-view c.self.inside.entries c.insert.new.self c.args.key c.args.value
    c.in-Ok.ensures.updates
    ∙ ap (λ m. map.insert m c.args.key c.args.value) c.self.view_is

pub returns-clause-absent : goal.returns-clause-absent
returns-clause-absent g c =
    ap (λ m. map.get m c.args.key) (sym c.self.view_is) ∙ get-view c.self.inside.entries c.args.key
    ∙ c.in-Err.ensures.absent
