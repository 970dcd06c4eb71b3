use Rattle.std.proofs.Common.{rules}
use Rattle.std.proofs.lemmas.List.Sorted.{IsPartitionPoint-from_clause}
use Rattle.rg_model.specs.Layout.{is_entry_before}
use Rattle.rg_index.proofs.Cut.{partitioned, cut_at}
use Rattle.rg_index.proofs.Order.{before_trans}
use Rattle.rg_btree.proofs.walk.count_before.Goals as goal

pub returns : goal.returns
returns c =
    let parted = partitioned (λ e. is_entry_before e c.args.entry)
    (λ a b before later. before_trans a b c.args.entry before later) c.args.entries.now
    c.requires in
    cut_at (λ e. is_entry_before e c.args.entry) c.args.entries.now c.partition_point.result
    c.partition_point.ensures.bound
    (IsPartitionPoint-from_clause (λ e. is_entry_before e c.args.entry) c.args.entries.now
    c.partition_point.result c.partition_point.ensures.partitioned parted (λ a r q k. search rules))
