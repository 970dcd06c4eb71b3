use Rattle.std.proofs.Common.{ℕ, ◌≤◌, true, arith, length}
use Rattle.rg_home.specs.Pages.{slot_of}
use Rattle.rg_laws_pages.proofs.UndoRoomLemmas.Begin.{proper_empty, ready_alone}
use Rattle.rg_laws_pages.proofs.UndoRoomLemmas.Ready.{ready_begun, ready_purged, ready_undone}
use Rattle.rg_laws_pages.proofs.UndoRoomLemmas.Ready.{can_only, ready_rolled, ready_committed}
use Rattle.rg_laws_pages.proofs.UndoRoomLemmas.Steps.{ready_put, ready_changed, ready_dropped}
use Rattle.rg_laws_pages.proofs.undo_room.laws.keeps_law.Goals as goal

same : (n : ℕ) → n ≤ n
same n = omega arith

pub returns-clause-purge : goal.returns-clause-purge
returns-clause-purge c live base pages cs t n after low r =
    ready_purged live base t after pages cs n true low r

pub returns-clause-put : goal.returns-clause-put
returns-clause-put c live base pages cs t after capacity r lives small =
    ready_put t after live base capacity pages cs r lives capacity small (same capacity)

pub returns-clause-change : goal.returns-clause-change
returns-clause-change c live base pages cs t home after capacity r lives others small within is =
    ready_changed t after live base capacity pages cs r lives home capacity small (same capacity)
    within others is

pub returns-clause-drop : goal.returns-clause-drop
returns-clause-drop c live base pages cs t home after r lives others is = ready_dropped t after live
    base (length pages) pages cs r lives home others is (same (length pages))

pub returns-clause-undo : goal.returns-clause-undo
returns-clause-undo c live base pages cs t r = (
  λ d e. ready_undone live base t pages cs d r e,
  can_only live base t (slot_of pages) cs r.can,
  ready_rolled live base t pages cs r,
)

pub returns-clause-end : goal.returns-clause-end
returns-clause-end c live rest base pages cs t f r = ready_committed live rest base t pages cs f r

pub returns-clause-space : goal.returns-clause-space
returns-clause-space c = (proper_empty, λ live pages proper. ready_alone live pages proper)

pub returns-clause-unit : goal.returns-clause-unit
returns-clause-unit c live more base pages cs f r = ready_begun live more base pages cs f r
