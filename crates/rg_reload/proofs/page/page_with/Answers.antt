use Rattle.std.proofs.Common.{ap, arith}
use Rattle.rg_home.specs.Slots.{used}
use Rattle.rg_reload.proofs.Taken.{row_slots-packed}
use Rattle.rg_reload.proofs.page.page_with.Goals as goal

pub of_rows-requires : goal.of_rows-requires
of_rows-requires c = omega (arith, ap used (row_slots-packed c.args.rows.now), c.requires)
