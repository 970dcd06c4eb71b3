use Rattle.std.proofs.Common.{sym, ap, subst, ◌∙◌}
use Rattle.rg_map.specs.Mapping.{Mapping, IsOneToOne}
use Rattle.rg_map.proofs.Places.{targets-same}
use Rattle.rg_map.proofs.table.MapTable.reserve.Goals as goal

pub invariant_of-self : goal.invariant_of-self
invariant_of-self c =
    subst IsOneToOne
    (sym
    (targets-same c.self.inside.targets.entries c.reserve.new.self.entries
    c.reserve.ensures.entries.2)) c.self.invariant

pub returns-clause-targets : goal.returns-clause-targets
returns-clause-targets c =
    targets-same c.self.inside.targets.entries c.reserve.new.self.entries
    c.reserve.ensures.entries.2 ∙ ap (λ (mapping : Mapping). mapping.targets) c.self.view_is
