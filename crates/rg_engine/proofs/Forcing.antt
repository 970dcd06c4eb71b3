-- What the COMMIT of a unit that has written asks of the volume.
use Rattle.std.proofs.Common.{◌≡◌, ℕ, List, [], ◌∷◌, ◌++◌, Option, Some, length, sym, ◌∙◌, ap}
use Rattle.std.proofs.Common.{subst, arith, ◌≤◌, length-append}
use Rattle.std.specs.Option.{is_some}
use Rattle.rg_base.specs.declared.session.Session.{Session}
use Rattle.rg_log.specs.Kept.{LeavesLog, Listed}
use Rattle.rg_log.specs.Present.{KeepsLog}
use Rattle.rg_image.specs.Log.{SpellsFrom}
use Rattle.rg_outside.specs.Faults.{Rose}
use Rattle.rg_outside.specs.Moments.{EachImage, HoldsThroughout}
use Rattle.rg_record.specs.declared.record.Record.{Record}
use Rattle.rg_stmt.specs.declared.stmt.Reply.{Reply}
use Rattle.rg_stmt.specs.declared.stmt.Reply.TheVariants.{Device, Done}
use Rattle.rg_stmt.specs.declared.stmt.Stmt.TheVariants.{Commit}
use Rattle.rg_engine.specs.Answers.{Asks, forces}
use Rattle.rg_engine.specs.Stored.{Grows}
use Rattle.rg_engine.specs.Units.{unit_at}
use Rattle.rg_engine.specs.Volume.{CallsLog, Leaves}
use Rattle.rg_outside.specs.Volume.{VolumeSeen}
use Rattle.rg_engine.specs.declared.units.OpenUnit.{OpenUnit}
use Rattle.rg_engine.proofs.Leaving.{leaves_grown}

module _ (old new : VolumeSeen) (old_log mid log : Listed) (grows : Grows old_log mid)
    (same : mid.forced ≡ old_log.forced) (is : log ≡ record mid { forced = log.forced })
    (ahead : LeavesLog old.told mid.pages mid.records mid.forced
    → LeavesLog new.told mid.pages mid.records log.forced)
    (moments : KeepsLog old.told new.told mid.pages mid.records mid.forced) where
  -- a crash leaves the records with the Commit, as far as they were forced
  pub leaves_forced : Leaves old old_log → Leaves new log
  leaves_forced h =
      subst (λ (n : ℕ). LeavesLog new.told n log.records log.forced)
      (sym (ap (λ (l : Listed). l.pages) is))
      (subst (λ rs. LeavesLog new.told mid.pages rs log.forced)
      (sym (ap (λ (l : Listed). l.records) is)) (ahead (leaves_grown old old_log mid grows same h)))

  -- and at each moment no less than was forced before
  pub through_forced : Leaves old old_log
      → HoldsThroughout old.told new.told
      (EachImage (SpellsFrom log.pages log.records old_log.forced))
  through_forced h =
      subst
      (λ (n : ℕ). HoldsThroughout old.told new.told
      (EachImage (SpellsFrom n log.records old_log.forced))) (sym (ap (λ (l : Listed). l.pages) is))
      (subst
      (λ (rs : List Record). HoldsThroughout old.told new.told
      (EachImage (SpellsFrom mid.pages rs old_log.forced)))
      (sym (ap (λ (l : Listed). l.records) is))
      (subst
      (λ (n : ℕ). HoldsThroughout old.told new.told
      (EachImage (SpellsFrom mid.pages mid.records n))) same
      (moments (leaves_grown old old_log mid grows same h))))

  pub forced_asks : (units : List (Option OpenUnit)) (session : Session) (unit : OpenUnit)
      (reply : Reply) (entry : Record) → unit_at units session.0 ≡ Some unit
      → mid.records ≡ old_log.records ++ entry ∷ [] → CallsLog old new
      → (reply ≡ Device → Rose old.faults new.faults)
      → (reply ≡ Done → log.forced ≡ length log.records) → mid.forced ≤ log.forced
      → Asks (forces units session Commit) reply old_log log old new
  forced_asks units session unit reply entry has records calls device forced further = record {
    calls = calls;
    none = λ e. absurd (cc (e, ap is_some has));
    device = device;
    asked = λ e. ap is_some has;
    forced = λ force done. forced done;
    further = omega (arith, further, same);
    one = λ force. ap (λ (l : Listed). length l.records) is
        ∙ ap (λ (rs : List Record). length rs) records ∙ length-append old_log.records (entry ∷ []);
    leaves = leaves_forced;
    through = through_forced;
  }
