use Rattle.std.proofs.Common.{rules}
use Rattle.std.proofs.lemmas.List.Sorted.{answers_always}
use Rattle.rg_reload.specs.Order.{order_key}
use Rattle.rg_reload.proofs.order.sort_rows.Goals as goal

pub returns-clause-order : goal.returns-clause-order
returns-clause-order c = c.sort_unstable_by_key.ensures.sorted order_key
    (answers_always _ _ _ (λ f a r g h. search rules))
