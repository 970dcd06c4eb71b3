-- What makes what a crash leaves of a volume sound.
--
-- 1. Whatever a crash leaves is sound: the log has some of the records, no fewer than are forced,
--    and can be opened; each page of the copy is a version that the forced records cover, or left
--    over (`ImageIsSound`). No dead area has a number that its log has not (`ImageOwners`).
-- 2. Each lawful record leaves the newest versions with the slots of the state (`StandsMore`).
--    Where the records tell the state, and it has what is stored, the log can be opened
--    (`StandsReopens`). So it is after each of several (`AppendedReopen`).
use Rattle.std.specs.Prelude.{◌≡◌, ◌≤◌, ◌+◌, ◌++◌, ℕ, false, List, [], ◌∷◌, length, take}
use Rattle.rg_base.specs.Copies.{set_of}
use Rattle.rg_image.specs.Kept.{AreEntries}
use Rattle.rg_image.specs.Log.{Spells}
use Rattle.rg_image.specs.Meaning.{current_of, stored}
use Rattle.rg_image.specs.Pack.{end_of, start}
use Rattle.rg_image.specs.Rules.{ArePositions, HasSpace, IsChain, copy_capacity}
use Rattle.rg_laws_log.specs.LogState.Act.{LogState, state, step}
use Rattle.rg_laws_log.specs.LogState.Consistent.{IsClean, IsConsistent, stored_of}
use Rattle.rg_laws_log.specs.LogState.Lawful.{Lawful, Runs}
use Rattle.rg_laws_log.specs.LogState.Records.{act_of, acts_of}
use Rattle.rg_log.specs.Kept.{log_pages}
use Rattle.rg_laws_crash.specs.NewestPages.Newest.{AllNear}
use Rattle.rg_laws_crash.specs.NewestPages.Steady.{IsSteady}
use Rattle.rg_laws_crash.specs.NewestPages.Tidy.{switched_pages}
use Rattle.rg_outside.specs.Calls.{Image}
use Rattle.rg_outside.specs.Capacities.{Capacities}
use Rattle.rg_record.specs.Applied.{parts_of}
use Rattle.rg_record.specs.declared.record.Record.{Record}
use Rattle.rg_redo.specs.Redo.{is_switch}
use Rattle.rg_laws_crash.specs.PageVersions.OnImage.{HasPages}
use Rattle.rg_laws_crash.specs.PageVersions.Versions.{Epoch, IsBegun}
use Rattle.rg_laws_crash.specs.LogChain.Next.{AreNext}
use Rattle.rg_laws_crash.specs.LogChain.Tells.{Tells}
use Rattle.rg_laws_crash.specs.SoundVolume.Reopens.{AreTidyOwners, CanReopen, HasLowOwners, Stands}
use Rattle.rg_laws_crash.specs.SoundVolume.Sound.{IsSound}

-- what a crash leaves of a log with these records, of which so many are forced, and of a copy that
-- began so: it has the first n records
pub record IsLeft (capacities : Capacities) (e : Epoch) (rs : List Record) (forced n : ℕ)
    (i : Image) : Type 0 where
  pub begun : e.from ≤ forced
  pub low : forced ≤ n
  pub high : n ≤ length rs
  pub positions : ArePositions rs
  pub steady : IsSteady e rs
  pub counts : e.pages ≡ switched_pages (take n rs)
  pub base : (p : ℕ) → 1 ≤ p → IsBegun e p
  pub entries : AreEntries rs
  pub room : 1 ≤ length rs → (end_of start rs).page ≤ log_pages capacities
  pub log : Spells (log_pages capacities) (take n rs) i
  pub pages :
      HasPages (set_of e.copy) (copy_capacity capacities e.copy) e rs forced i

abbrev pub ImageIsSound : Type 0
ImageIsSound =
    (capacities : Capacities) (e : Epoch) (rs : List Record) (forced n : ℕ) (i : Image)
    → IsLeft capacities e rs forced n i → CanReopen capacities e (take n rs)
    → IsSound capacities i

abbrev pub ImageOwners : Type 0
ImageOwners =
    (capacities : Capacities) (e : Epoch) (rs : List Record) (forced n : ℕ) (i : Image)
    → IsLeft capacities e rs forced n i → CanReopen capacities e (take n rs)
    → HasLowOwners e (take n rs) → AreTidyOwners (take n rs) i

abbrev pub StandsMore : Type 0
StandsMore =
    (limit : ℕ) (e : Epoch) (rs : List Record) (entry : Record) (s : LogState)
    → Stands e rs s → IsConsistent limit s → Lawful limit s (act_of [] entry)
    → entry.position.0 ≡ length rs + 1 → is_switch entry.kind ≡ false
    → AllNear (current_of rs).pages (parts_of entry.kind)
    → Stands e (rs ++ entry ∷ []) (step s (act_of [] entry))

abbrev pub StandsReopens : Type 0
StandsReopens =
    (capacities : Capacities) (limit : ℕ) (e : Epoch) (rs : List Record) (s : LogState)
    → Stands e rs s → IsConsistent limit s → IsClean s → Tells rs s
    → ((k : ℕ) → stored rs k ≡ stored_of s k) → IsChain capacities rs
    → HasSpace (log_pages capacities) rs → CanReopen capacities e rs

-- lawful records were appended to these, and with each of them the log stores what the state says
pub record AreAppended (capacities : Capacities) (limit : ℕ) (e : Epoch) (rs more : List Record)
    (s : LogState) : Type 0 where
  pub stands : Stands e rs s
  pub good : IsConsistent limit s
  pub clean : IsClean s
  pub tells : Tells rs s
  pub stores :
      (n k : ℕ)
      → stored (rs ++ take n more) k ≡ stored_of (state s (acts_of [] (take n more))) k
  pub chain : IsChain capacities rs
  pub space : HasSpace (log_pages capacities) rs
  pub capacity : copy_capacity capacities (current_of rs).copy ≡ limit
  pub runs : Runs limit s (acts_of [] more)
  pub next : AreNext limit (log_pages capacities) rs more

abbrev pub AppendedReopen : Type 0
AppendedReopen =
    (capacities : Capacities) (limit : ℕ) (e : Epoch) (rs more : List Record) (s : LogState)
    → AreAppended capacities limit e rs more s → (n : ℕ)
    → CanReopen capacities e (rs ++ take n more)
