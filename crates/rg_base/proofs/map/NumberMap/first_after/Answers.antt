use Rattle.std.proofs.Common.{subst, ◌+◌, Some}
use Rattle.rg_base.specs.First.{IsEmptyFrom, IsFirstFrom}
use Rattle.rg_base.proofs.FirstView.{none-view_after, first-view_after}
use Rattle.rg_base.proofs.map.NumberMap.first_after.Goals as goal

pub returns-in-Some : goal.returns-in-Some
returns-in-Some g c =
    subst
    (λ entries. IsFirstFrom entries (c.args.key + 1)
    (Some (c.in-Some.key.now, c.in-Some.value.now))) c.self.view_is
    (first-view_after c.self.inside.entries c.args.key c.range.result (c.range.ensures.in_range tt)
    (c.in-Some.key.now, c.in-Some.value.now) c.next.new.self c.in-Some.ensures.steps)

pub returns-in-None : goal.returns-in-None
returns-in-None g c =
    subst (λ entries. IsEmptyFrom entries (c.args.key + 1)) c.self.view_is
    (none-view_after c.self.inside.entries c.args.key c.range.result (c.range.ensures.in_range tt)
    c.in-None.ensures.steps.0)
