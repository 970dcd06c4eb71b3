use Rattle.std.proofs.Common.{rules}
use Rattle.rg_base.proofs.RowBytes.{row_written, row_of-row_bytes, length-row_bytes}
use Rattle.rg_base.proofs.row.Row.write_into.Goals as goal

pub returns-clause-bytes : goal.returns-clause-bytes
returns-clause-bytes c =
    row_written c.args.self.now c.as_slice-text.result.now c.args.into.now _ _ _ _ _
    c.as_slice-text.ensures.bytes c.put_u64.ensures c.put_u64-2.ensures c.put_u64-3.ensures
    c.put_u16.ensures c.put_bytes.ensures

pub returns-clause-back : goal.returns-clause-back
returns-clause-back c =
    row_of-row_bytes c.args.self.now (search rules) (search rules) (search rules)

pub returns-clause-size : goal.returns-clause-size
returns-clause-size c = length-row_bytes c.args.self.now
