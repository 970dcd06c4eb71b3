use Rattle.std.proofs.Common.{arith}
use Rattle.rg_rules.specs.Stage.NumbersOf.{numbers_of}
use Rattle.rg_rules.proofs.StageLemmas.Turns.{page_filled}
use Rattle.rg_rules.proofs.stage.copying.reload.Goals as goal

pub overflow_add-stage : goal.overflow_add-stage
overflow_add-stage c =
    omega (
      arith,
      page_filled (numbers_of c.args.stage.now) c.args.stage.now.drain c.in-Reload.page
          c.in-Reload.rows (rw c.in-Reload.is at c.requires.next),
      c.type_inv._page,
    )
