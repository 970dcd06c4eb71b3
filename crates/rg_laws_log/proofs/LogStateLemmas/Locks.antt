-- What a lock by key gives at a home.
use Rattle.std.proofs.Common.{◌≡◌, ℕ, List, [], ◌∷◌, Some, refl, ◌∙◌, ap, subst}
use Rattle.rg_base.specs.declared.place.Place.{Place}
use Rattle.rg_base.specs.declared.row.Row.{Row as TableRow}
use Rattle.rg_home.specs.Slot.{Slot, Free}
use Rattle.rg_home.specs.Rows.{row_at}
use Rattle.rg_home.specs.Pages.{slot_of}
use Rattle.rg_home.specs.Able.{IsHomeOf, CanUndo, HomeOf}
use Rattle.rg_laws_log.specs.LogState.Write.{Write, at_home, at_key, Back, HitBy, written_of}
use Rattle.rg_laws_log.specs.LogState.Act.{LogState}
use Rattle.rg_laws_log.specs.LogState.Consistent.{IsConsistent}
use Rattle.rg_laws_log.proofs.LogStateLemmas.Maps.{hit_home, home_by_key}

-- a unit finds a row whose key no other open unit has written: no other has this home, and the row
-- is its key's
pub row_locked : (limit : ℕ) (s : LogState) → IsConsistent limit s
    → (t : ℕ) (home : Place) (r : TableRow) → row_at (slot_of s.pages) home ≡ Some r
    → HitBy t (at_key r.key) s.writes
    → HomeOf t home (written_of s.writes) × (s.now r.key ≡ Some r)
row_locked limit s g t home r e h = (
  hit_home t home s.writes
      (home_by_key t r.key home r s.writes refl h (g.one_home home) g.of_key
      (subst (Back (at_home home) s.writes) e (g.homes home))),
  g.table.there home r e,
)

-- a Free slot is nobody's home
pub free_home : (live : List ℕ) (at : Place → Slot) (t : ℕ) (p : Place) (ws : List Write)
    → at p ≡ Free → CanUndo live at (written_of ws) → HomeOf t p (written_of ws)
free_home live at t p [] e can = tt
free_home live at t p (w ∷ ws) e can = (
  (λ h. absurd (subst (IsHomeOf (Some w.written.owner)) (ap at h ∙ e) can.0.home)),
  free_home live at t p ws e can.2,
)
