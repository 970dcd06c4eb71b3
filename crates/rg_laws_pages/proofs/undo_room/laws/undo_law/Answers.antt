use Rattle.std.proofs.Common.{refl}
use Rattle.rg_laws_pages.proofs.UndoRoomLemmas.Next.{undo_writes, undo_lies, undo_length}
use Rattle.rg_laws_pages.proofs.undo_room.laws.undo_law.Goals as goal

pub returns : goal.returns
returns c d pages proper can = (
  undo_writes d pages proper can,
  undo_lies d pages proper can,
  refl,
  undo_length d pages proper can,
)
