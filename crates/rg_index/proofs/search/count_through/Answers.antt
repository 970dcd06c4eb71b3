use Rattle.std.proofs.Common.{rules}
use Rattle.std.specs.Prelude.{not}
use Rattle.std.proofs.lemmas.List.Sorted.{IsPartitionPoint-from_clause}
use Rattle.rg_model.specs.Layout.{is_entry_before}
use Rattle.rg_index.proofs.Cut.{partitioned, cut_at}
use Rattle.rg_index.proofs.Order.{down_through}
use Rattle.rg_index.proofs.search.count_through.Goals as goal

pub returns : goal.returns
returns c =
    let parted = partitioned (λ e. not (is_entry_before c.args.entry e)) (down_through c.args.entry)
    c.args.entries.now c.requires in
    cut_at (λ e. not (is_entry_before c.args.entry e)) c.args.entries.now c.partition_point.result
    c.partition_point.ensures.bound
    (IsPartitionPoint-from_clause (λ e. not (is_entry_before c.args.entry e)) c.args.entries.now
    c.partition_point.result c.partition_point.ensures.partitioned parted (λ a r q k. search rules))
