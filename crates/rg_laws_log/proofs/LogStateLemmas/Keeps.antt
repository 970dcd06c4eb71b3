-- Each lawful act fits its pages, and keeps the invariant.
use Rattle.std.proofs.Common.{◌≡◌, ℕ, true, List, Option, None, sym, subst}
use Rattle.rg_base.specs.declared.place.Place.{Place}
use Rattle.rg_base.specs.declared.row.Row.{Row as TableRow}
use Rattle.rg_base.specs.declared.part.Part.{Part}
use Rattle.rg_home.specs.Pages.{FitsAll, row_or_empty, TakesAll}
use Rattle.rg_home.specs.Undo.{planned_undo}
use Rattle.rg_laws_log.specs.LogState.Act.{Act, LogState, step, Purge, Change, Undo, Commit}
use Rattle.rg_laws_log.specs.LogState.Act.{RollBack, Switch}
use Rattle.rg_laws_log.specs.LogState.Lawful.{Lawful, ActFits}
use Rattle.rg_laws_log.specs.LogState.Consistent.{IsConsistent, IsClean}
use Rattle.rg_home.proofs.Takes.{purge_takes, undo_takes}
use Rattle.rg_laws_log.proofs.LogStateLemmas.Kept.{Kept}
use Rattle.rg_laws_log.proofs.LogStateLemmas.KeptPurge.{purge_kept}
use Rattle.rg_laws_log.proofs.LogStateLemmas.KeptChange.{change_kept}
use Rattle.rg_laws_log.proofs.LogStateLemmas.KeptUndo.{latest_undoable, undo_kept}
use Rattle.rg_laws_log.proofs.LogStateLemmas.KeptEnd.{end_kept, switch_kept}

module _ (limit : ℕ) (s : LogState) (g : IsConsistent limit s) where
  pub keeps : (a : Act) → Lawful limit s a
      → ActFits limit s a × IsConsistent limit (step s a) × (IsClean s → IsClean (step s a))
  keeps (Purge parts) m = (
    (
      (purge_kept limit s g parts m).0,
      subst (TakesAll None) (sym m.is) (purge_takes None m.more s.pages m.page true),
    ),
    (purge_kept limit s g parts m).1.0,
    (purge_kept limit s g parts m).1.1,
  )
  keeps (Change w) m =
      ((m.makes.fits, m.makes.takes), (change_kept limit s g w m).0, (change_kept limit s g w m).1)
  keeps (Undo t home after parts) m =
      undid home after parts m.at m.row m.is (undo_kept limit s g t m.write m.latest)
      (undo_takes None m.write.written s.pages (latest_undoable limit s g t m.write m.latest))
    where
      moved : (home : Place) (after : Option TableRow) (parts : List Part)
          → home ≡ m.write.written.home → after ≡ m.write.written.before
          → parts ≡ (planned_undo s.pages m.write.written).parts
          → FitsAll t (row_or_empty m.write.written.before) limit s.pages
          (planned_undo s.pages m.write.written).parts
          × Kept limit s
          (step s
          (Undo t m.write.written.home m.write.written.before
          (planned_undo s.pages m.write.written).parts))
          → FitsAll t (row_or_empty after) limit s.pages parts
          × Kept limit s (step s (Undo t home after parts))
      moved home after parts e f h both =
          subst
          (λ (q : Place). FitsAll t (row_or_empty after) limit s.pages parts
          × Kept limit s (step s (Undo t q after parts))) (sym e) (subst
          (λ (x : Option TableRow). FitsAll t (row_or_empty x) limit s.pages parts
          × Kept limit s (step s (Undo t m.write.written.home x parts))) (sym f)
          (subst
          (λ (ps : List Part). FitsAll t (row_or_empty m.write.written.before) limit s.pages ps
          × Kept limit s (step s (Undo t m.write.written.home m.write.written.before ps))) (sym h)
          both))

      undid : (home : Place) (after : Option TableRow) (parts : List Part)
          → home ≡ m.write.written.home → after ≡ m.write.written.before
          → parts ≡ (planned_undo s.pages m.write.written).parts
          → FitsAll t (row_or_empty m.write.written.before) limit s.pages
          (planned_undo s.pages m.write.written).parts
          × Kept limit s
          (step s
          (Undo t m.write.written.home m.write.written.before
          (planned_undo s.pages m.write.written).parts))
          → TakesAll m.write.written.before (planned_undo s.pages m.write.written).parts
          → (FitsAll t (row_or_empty after) limit s.pages parts × TakesAll after parts)
          × IsConsistent limit (step s (Undo t home after parts))
          × (IsClean s → IsClean (step s (Undo t home after parts)))
      undid home after parts e f h both held =
          let two = moved home after parts e f h both in (
            (
              two.0,
              subst (λ (x : Option TableRow). TakesAll x parts) (sym f)
                  (subst (TakesAll m.write.written.before) (sym h) held),
            ),
            two.1.0,
            two.1.1,
          )
  keeps (Commit t) m = (tt, (end_kept limit s g t).0, (end_kept limit s g t).1)
  keeps (RollBack t) m = (tt, (end_kept limit s g t).0, (end_kept limit s g t).1)
  keeps (Switch pages) m =
      (tt, (switch_kept limit s g pages m).0, (switch_kept limit s g pages m).1)
