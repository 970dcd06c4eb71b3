use Rattle.std.proofs.Common.{true}
use Rattle.rg_laws_pages.proofs.UndoRoomLemmas.Stay.{purge_stays, purge_alive, put_stays}
use Rattle.rg_laws_pages.proofs.UndoRoomLemmas.Stay.{change_stays, drop_stays, undo_stays}
use Rattle.rg_laws_pages.proofs.undo_room.laws.areas_law.Goals as goal

pub returns : goal.returns
returns c = record {
  purge = λ live t u after pages n p proper lives low. purge_stays live t u after pages proper lives
      n true low p;
  spared = λ live t after pages n p proper low alive. purge_alive live t after pages proper n true
      low p alive;
  put = λ live t u after pages capacity proper lives. put_stays live t u after pages proper lives
      capacity;
  change = λ live t u after pages capacity home proper lives is. change_stays live t u after pages
      proper lives home capacity is;
  drop = λ live t u after pages home p proper lives is apart. drop_stays live t u after pages proper
      lives home is p apart;
  undo = λ u d pages p proper can apart. undo_stays u d pages proper can p apart;
}
