use Rattle.std.proofs.Common.{◌≡◌, Bool, true, false, refl, sym, ◌∙◌, subst}
use Rattle.std.specs.Bool.{OnTrue, OnFalse}
use Rattle.rg_map.specs.Mapping.{Mapping, IsFree, IsTarget}
use Rattle.rg_map.proofs.TargetWalk.{free_of, target_of_key}
use Rattle.rg_map.proofs.table.MapTable.has_target.Goals as goal

on_true : {P : Type 0} (b : Bool) → (b ≡ true → P) → OnTrue b P
on_true true f = f refl
on_true false f = tt

on_false : {P : Type 0} (b : Bool) → (b ≡ false → P) → OnFalse b P
on_false true f = tt
on_false false f = f refl

pub returns-clause-taken : goal.returns-clause-taken
returns-clause-taken c =
    subst
    (λ (mapping : Mapping). OnTrue c.has_value.result (IsTarget mapping.targets c.args.target))
    c.self.view_is
    (on_true c.has_value.result
    (λ e. target_of_key c.self.inside.targets.entries c.args.target c.has_value.ensures.unique
    (sym c.has_value.ensures.value ∙ e)))

pub returns-clause-free : goal.returns-clause-free
returns-clause-free c =
    subst (λ (mapping : Mapping). OnFalse c.has_value.result (IsFree mapping.targets c.args.target))
    c.self.view_is
    (on_false c.has_value.result
    (λ e. free_of c.self.inside.targets.entries c.args.target (sym c.has_value.ensures.value ∙ e)))
