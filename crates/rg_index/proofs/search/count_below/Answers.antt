use Rattle.std.proofs.Common.{◌+◌, rules}
use Rattle.std.specs.Prelude.{nat_le}
use Rattle.std.proofs.lemmas.List.Sorted.{IsPartitionPoint-from_clause}
use Rattle.rg_index.proofs.Cut.{partitioned, cut_at}
use Rattle.rg_index.proofs.Order.{down_below}
use Rattle.rg_index.proofs.search.count_below.Goals as goal

pub returns : goal.returns
returns c =
    let parted = partitioned (λ e. nat_le (e.0 + 1) c.args.value) (down_below c.args.value)
    c.args.entries.now c.requires in
    cut_at (λ e. nat_le (e.0 + 1) c.args.value) c.args.entries.now c.partition_point.result
    c.partition_point.ensures.bound
    (IsPartitionPoint-from_clause (λ e. nat_le (e.0 + 1) c.args.value) c.args.entries.now
    c.partition_point.result c.partition_point.ensures.partitioned parted (λ a r q k. search rules))
