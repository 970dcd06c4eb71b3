use Rattle.std.proofs.Common.{rules}
use Rattle.rg_base.proofs.Fields.{field_of_8, small_drop, small_take}
use Rattle.rg_base.proofs.field.get_u64.Goals as goal

pub returns : goal.returns
returns c =
    field_of_8 _ _ (search rules)
    (small_take 8 _ (small_drop c.args.at c.args.bytes.now (λ i. (c.type_inv.bytes i).fits)))
    (search rules)
