use Rattle.std.proofs.Common.{true}
use Rattle.rg_laws_pages.proofs.UndoRoomLemmas.DeadSteps.{names_of_purge, names_of_put}
use Rattle.rg_laws_pages.proofs.UndoRoomLemmas.DeadSteps.{names_of_change, names_of_drop}
use Rattle.rg_laws_pages.proofs.UndoRoomLemmas.DeadSteps.{names_of_undo}
use Rattle.rg_laws_pages.proofs.undo_room.laws.dead_law.Goals as goal

pub returns : goal.returns
returns c = record {
  purge = λ live t after pages n proper names low. names_of_purge live t after pages proper names n
      true low;
  put = λ live t after pages capacity proper names. names_of_put live t after pages proper names
      capacity;
  change = λ live t after pages capacity home proper names is. names_of_change live t after pages
      proper names home capacity is;
  drop = λ live t after pages home proper names is. names_of_drop live t after pages proper names
      home is;
  undo = λ live d pages proper names can. names_of_undo live d pages proper names can;
}
