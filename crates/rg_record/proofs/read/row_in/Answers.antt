use Rattle.std.proofs.Common.{rules}
use Rattle.rg_record.proofs.Rows.{row_read, row_refused}
use Rattle.rg_record.proofs.read.row_in.Goals as goal

pub returns-in-Ok : goal.returns-in-Ok
returns-in-Ok c =
    row_read c.in-Ok.row c.args.bytes.now c.row_fits.ensures c.in-Ok.ensures.row
    c.in-Ok.ensures.shown
    (search rules)

pub returns-in-Err : goal.returns-in-Err
returns-in-Err c =
    rw c.refusal.ensures (row_refused c.args.bytes.now c.in-Err.fault
    (λ i. (c.type_inv.bytes i).fits) c.in-Err.ensures.fault
    (search rules))
