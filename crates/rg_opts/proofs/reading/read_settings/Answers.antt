use Rattle.std.proofs.Common.{◌≤◌, arith}
use Rattle.rg_opts.proofs.Walk.{at_most, place_at_most, stepped, stopped, texts-rest, length-texts}
use Rattle.rg_opts.proofs.reading.read_settings.Goals as goal

pub overflow_add-result : goal.overflow_add-result
overflow_add-result c =
    let so_far : c.loop-at.at ≤ 20 = at_most _ _ _ _ c.loop-at.invariant in
    let place : c.in-Err.place ≤ 1 = place_at_most _ _ _ _ c.in-Err.ensures.none in
    omega arith

pub returns-in-Err-clause-few : goal.returns-in-Err-clause-few
returns-in-Err-clause-few c =
    let so_far : c.loop-at.at ≤ 20 = at_most _ _ _ _ c.loop-at.invariant in
    let place : c.in-Err.place ≤ 1 = place_at_most _ _ _ _ c.in-Err.ensures.none in
    omega arith

pub returns-in-Err-clause-stops : goal.returns-in-Err-clause-stops
returns-in-Err-clause-stops c =
    stopped _ _ _ _ _ c.loop-at.invariant (omega (arith, length-texts c.args.words.now))
    (rw texts-rest at c.in-Err.ensures.none)

pub overflow_add-at : goal.overflow_add-at
overflow_add-at c =
    let so_far : c.loop-at.at ≤ 20 = at_most _ _ _ _ c.loop-at.invariant in
    omega arith

pub loop-at-preserved : goal.loop-at-preserved
loop-at-preserved c =
    let found = c.in-Ok.ensures.found in
    rw c.put.ensures
    (stepped _ _ _ _ _ c.loop-at.invariant found.0 found.1 (rw texts-rest at found.2))
