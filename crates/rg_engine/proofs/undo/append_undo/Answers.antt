use Rattle.std.proofs.Common.{arith}
use Rattle.rg_engine.proofs.Spelled.{undo_high}
use Rattle.rg_engine.proofs.undo.append_undo.Goals as goal

pub append-requires-clause-room : goal.append-requires-clause-room
append-requires-clause-room c = omega (
  arith,
  c.requires.room,
  undo_high c.args.undo c.requires.spelled c.fits.ensures c.requires.undo,
)

pub returns-clause-least : goal.returns-clause-least
returns-clause-least c = omega (
  arith,
  c.append.ensures.reserved,
  undo_high c.args.undo c.requires.spelled c.fits.ensures c.requires.undo,
)
