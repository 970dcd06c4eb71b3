use Rattle.std.proofs.Common.{rules, ◌∙◌, ap}
use Rattle.std.proofs.lemmas.Map.Made.{filter_same_pairs}
use Rattle.std.specs.FinMap as map
use Rattle.rg_base.specs.Retained.{retain_entries}
use Rattle.rg_base.proofs.MapView.{retain-view}
use Rattle.rg_base.proofs.map.NumberMap.retain.Goals as goal

pub returns : goal.returns
returns g c = λ test tests.
    ap map.from_entries
    (filter_same_pairs _ (λ e. test e.0 e.1) _ (λ k v b w f' t. search (rules, tests)) _ _
    c.retain.ensures.filtered)
    ∙ retain-view c.self.inside.entries.entries test c.retain.ensures.was_ordered
    ∙ ap (retain_entries test) c.self.view_is
