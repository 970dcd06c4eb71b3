use Rattle.std.proofs.Common.{◌≡◌, ◌<◌, sym, ap, subst, ◌∙◌}
use Rattle.std.specs.FinMap as map
use Rattle.std.specs.Result.{OnOk, IsOk}
use Rattle.std.specs.declared.result.Result.{Result}
use Rattle.std.specs.declared.result.Result.TheVariants.{Ok, Err}
use Rattle.rg_map.specs.Mapping.{Mapping, IsFree, IsOneToOne, targets_of}
use Rattle.rg_map.proofs.OneToOne.{one-put}
use Rattle.rg_map.proofs.Places.{targets-put}
use Rattle.rg_map.proofs.table.MapTable.put.Goals as goal
use Rattle.rg_map.proofs.table.MapTable.put.Goals.{After-insert}

ok_fact : {A E : Type 0} {P : Type 0} (r : Result A E) → IsOk r → OnOk r P → P
ok_fact (Ok x) is p = p
ok_fact (Err e) is p = cc (is)

updated : (c : After-insert)
    → targets_of c.insert.new.self.entries
    ≡ map.insert (targets_of c.self.inside.targets.entries) c.args.source c.args.target
updated c =
    let room =
    subst (λ (mapping : Mapping). 0 < mapping.spare) (sym c.self.view_is) c.requires.spare in
    targets-put c.self.inside.targets.entries c.insert.new.self.entries c.args.source c.args.target
    (ok_fact c.insert.result (c.insert.ensures.succeeds room) c.insert.ensures.updates).0

pub invariant_of-self : goal.invariant_of-self
invariant_of-self c =
    let free = subst (λ (mapping : Mapping). IsFree mapping.targets c.args.target)
    (sym c.self.view_is) c.requires.target in
    subst IsOneToOne (sym (updated c))
    (one-put (targets_of c.self.inside.targets.entries) c.args.source c.args.target c.self.invariant
    free)

pub returns-clause-targets : goal.returns-clause-targets
returns-clause-targets c = updated c
    ∙ ap (λ (mapping : Mapping). map.insert mapping.targets c.args.source c.args.target)
    c.self.view_is
