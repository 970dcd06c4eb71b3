use Rattle.rg_laws_pages.proofs.UndoRoomLemmas.Ready.{rolled_rows, rolled_others, ended_rows}
use Rattle.rg_laws_pages.proofs.UndoRoomLemmas.Ready.{ended_others}
use Rattle.rg_laws_pages.proofs.undo_room.laws.rows_law.Goals as goal

pub returns-clause-undone : goal.returns-clause-undone
returns-clause-undone c live base pages cs t r p =
    (λ h. rolled_rows live base t pages cs r p h, λ h. rolled_others live base t pages cs r p h)

pub returns-clause-committed : goal.returns-clause-committed
returns-clause-committed c live base pages cs t r p =
    (λ h. ended_rows live base t pages cs r p h, λ h. ended_others live base t pages cs r p h)
