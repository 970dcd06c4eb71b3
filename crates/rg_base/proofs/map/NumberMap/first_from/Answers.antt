use Rattle.std.proofs.Common.{subst, Some}
use Rattle.rg_base.specs.First.{IsEmptyFrom, IsFirstFrom}
use Rattle.rg_base.proofs.FirstView.{none-view, first-view}
use Rattle.rg_base.proofs.map.NumberMap.first_from.Goals as goal

pub returns-in-Some : goal.returns-in-Some
returns-in-Some g c =
    subst
    (λ entries. IsFirstFrom entries c.args.from (Some (c.in-Some.key.now, c.in-Some.value.now)))
    c.self.view_is
    (first-view c.self.inside.entries c.args.from c.range.result (c.range.ensures.in_range tt)
    (c.in-Some.key.now, c.in-Some.value.now) c.next.new.self c.in-Some.ensures.steps)

pub returns-in-None : goal.returns-in-None
returns-in-None g c =
    subst (λ entries. IsEmptyFrom entries c.args.from) c.self.view_is
    (none-view c.self.inside.entries c.args.from c.range.result (c.range.ensures.in_range tt)
    c.in-None.ensures.steps.0)
