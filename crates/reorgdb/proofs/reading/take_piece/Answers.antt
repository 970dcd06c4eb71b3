use Rattle.std.proofs.Common.{take, arith, length-take}
use Rattle.reorgdb.proofs.reading.take_piece.Goals as goal

pub returns-in-Ok-extend_from_slice-clause-taken : goal.returns-in-Ok-extend_from_slice-clause-taken
returns-in-Ok-extend_from_slice-clause-taken g c = (
  take c.in-Ok.n c.take.new.into,
  omega (arith, length-take c.in-Ok.n c.take.new.into, c.in-Ok.ensures.count, c.take.auto.into),
  c.in-Ok-extend_from_slice.ensures.items,
  c.in-Ok.ensures.taken,
  c.in-Ok.ensures.end c.requires,
)
