use Rattle.std.proofs.Common.{subst}
use Rattle.rg_home.specs.Pages.{slot_of}
use Rattle.rg_home.specs.Able.{AllUndoable}
use Rattle.std.proofs.Common.{None, sym}
use Rattle.rg_laws_pages.proofs.UndoRoomLemmas.Ready.{can_only}
use Rattle.rg_laws_log.specs.LogState.Write.{written_of}
use Rattle.rg_laws_log.specs.LogState.Consistent.{base_of}
use Rattle.rg_laws_log.proofs.LogStateLemmas.Maps.{map_only}
use Rattle.rg_laws_log.proofs.LogStateLemmas.Rolls.{undo_leaves}
use Rattle.rg_laws_log.proofs.log_state.laws.unit_undo_law.Goals as goal

pub returns-clause-can : goal.returns-clause-can
returns-clause-can c limit s t g = (
  g.ready.proper,
  g.few,
  subst (AllUndoable None (slot_of s.pages)) (sym (map_only t s.writes))
      (can_only s.live (base_of s) t (slot_of s.pages) (written_of s.writes) g.ready.can),
)

pub returns-clause-leaves : goal.returns-clause-leaves
returns-clause-leaves c limit s t home after parts w m e = undo_leaves s t home after parts w m e
