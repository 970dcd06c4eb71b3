use Rattle.std.proofs.Common.{List, subst, rules}
use Rattle.std.specs.List.Sorted.{IsStableBy}
use Rattle.std.proofs.lemmas.List.Sorted.{answers_always}
use Rattle.rg_base.specs.declared.row.Row.{Row}
use Rattle.rg_model.specs.Packed.{is_row_before}
use Rattle.rg_judge.proofs.LayoutsLemmas.Orders.{rows_order, rows-clustered}
use Rattle.rg_judge.proofs.layouts.packing.clustered.Goals as goal

pub returns : goal.returns
returns c =
    rows-clustered c.args.rows.items _
    (c.in_ok-sort_by.ensures.sorted is_row_before rows_order
    (answers_always _ _ _ (λ f a r g h. search rules)))
    (subst (λ (l : List (Row)). IsStableBy is_row_before l c.sort_by.new.self.items)
    c.reverse.ensures.items
    (c.sort_by.ensures.stable is_row_before rows_order
    (answers_always _ _ _ (λ f a r g h. search rules))))
