use Rattle.std.proofs.Common.{arith, length-take}
use Rattle.reorgdb.proofs.Pieces.{TakesAtMost-stop}
use Rattle.reorgdb.proofs.reading.read_source.Goals as goal

pub returns-in-Err-clause-bounded : goal.returns-in-Err-clause-bounded
returns-in-Err-clause-bounded g c =
    TakesAtMost-stop c.in-Err.fault _ _ _ c.loop-bytes.bytes.items _ 16777217 _ _
    c.loop-bytes.invariant.taken
    (omega (arith, length-take c.min-room.result c.deref_mut.result.now, c.loop-bytes.bytes.ok.0))
    c.in-Err.ensures.fault
