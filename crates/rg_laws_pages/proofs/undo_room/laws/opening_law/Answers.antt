use Rattle.rg_laws_pages.proofs.UndoRoomLemmas.Needed.{in_turn_all, in_turn_inserts, all_in_turn}
use Rattle.rg_laws_pages.proofs.undo_room.laws.opening_law.Goals as goal

pub returns : goal.returns
returns c cs pages proper = (
  λ n. (in_turn_all cs pages proper n, in_turn_inserts cs pages proper n),
  λ u i. all_in_turn cs pages proper u i,
)
