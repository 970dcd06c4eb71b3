use Rattle.std.proofs.Common.{arith, ◌+◌, ℕ}
use Rattle.rg_page.proofs.Buffer.{total-more, total-take}
use Rattle.rg_page.proofs.areas.sum.Goals as goal

pub overflow_add-all : goal.overflow_add-all
overflow_add-all c =
    let i : ℕ = c.loop-length.length-index in
    let more = total-more c.args.lengths.now i c.loop-length-test.true in
    let low = total-take (i + 1) c.args.lengths.now in
    record { fits = omega (arith, more, low, c.requires, c.loop-length.invariant) }

pub loop-length-preserved : goal.loop-length-preserved
loop-length-preserved c =
    let more = total-more c.args.lengths.now c.loop-length.length-index c.loop-length-test.true in
    omega (arith, more, c.loop-length.invariant)
