use Rattle.rg_base.proofs.RowBytes.{row_of-row_bytes}
use Rattle.rg_base.proofs.row.Row.size.Goals as goal

pub returns-clause-back : goal.returns-clause-back
returns-clause-back c =
    row_of-row_bytes c.args.self.now c.are_numbers.ensures.key c.are_numbers.ensures.clus
    c.are_numbers.ensures.cat
