use Rattle.std.proofs.Common.{sym, ap, subst, ◌∙◌}
use Rattle.std.specs.FinMap as map
use Rattle.rg_map.specs.Mapping.{Mapping, IsOneToOne, targets_of}
use Rattle.rg_map.proofs.OneToOne.{one-taken}
use Rattle.rg_map.proofs.Places.{get-targets, targets-take}
use Rattle.rg_map.proofs.table.MapTable.take.Goals as goal

pub invariant_of-self : goal.invariant_of-self
invariant_of-self c =
    let old = c.self.inside.targets.entries in
    subst IsOneToOne
    (sym (targets-take old c.remove.new.self.entries c.args.source c.remove.ensures.updates.0))
    (one-taken (targets_of old) c.args.source c.self.invariant)

pub returns-clause-target : goal.returns-clause-target
returns-clause-target c =
    c.remove.ensures.value ∙ sym (get-targets c.self.inside.targets.entries c.args.source)
    ∙ ap (λ (mapping : Mapping). map.get mapping.targets c.args.source) c.self.view_is

pub returns-clause-targets : goal.returns-clause-targets
returns-clause-targets c =
    targets-take c.self.inside.targets.entries c.remove.new.self.entries c.args.source
    c.remove.ensures.updates.0
    ∙ ap (λ (mapping : Mapping). map.remove mapping.targets c.args.source) c.self.view_is
