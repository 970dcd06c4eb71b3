use Rattle.rg_laws_pages.proofs.UndoRoomLemmas.Keyed.{keyed_apart, keyed_own}
use Rattle.rg_laws_pages.proofs.undo_room.laws.locks_law.Goals as goal

pub returns : goal.returns
returns c locks at after d row cs k = (
  λ t home found e f. keyed_apart locks at t home found cs e f k,
  λ does l m of. keyed_own locks at after d row cs does l m of k,
)
