use Rattle.std.proofs.Common.{arith, ◌+◌}
use Rattle.rg_page.proofs.Room.{used-more, used-some, used-all}
use Rattle.rg_page.proofs.summary.sum.Goals as goal

pub overflow_add-all : goal.overflow_add-all
overflow_add-all c =
    let more = used-more c.args.headers.now c.loop-i.i c.index-headers-i.result c.loop-i-test.true
    c.index-headers-i.is in
    let some = used-some c.args.headers.now (c.loop-i.i + 1) in
    record { fits = omega (arith, more, some, c.capacity.ensures, c.requires) }

pub overflow_add-all-in-loop-i : goal.overflow_add-all-in-loop-i
overflow_add-all-in-loop-i c =
    let more = used-more c.args.headers.now c.loop-i.i c.index-headers-i.result c.loop-i-test.true
    c.index-headers-i.is in
    let some = used-some c.args.headers.now (c.loop-i.i + 1) in
    record { fits = omega (arith, more, some, c.capacity.ensures, c.requires, c.loop-i.invariant) }

pub loop-i-preserved : goal.loop-i-preserved
loop-i-preserved c =
    let more = used-more c.args.headers.now c.loop-i.i c.index-headers-i.result c.loop-i-test.true
    c.index-headers-i.is in
    omega (arith, more, c.capacity.ensures, c.loop-i.invariant)

pub returns : goal.returns
returns c = omega (arith, used-all c.args.headers.now c.loop-i.i (omega arith), c.loop-i.invariant)
