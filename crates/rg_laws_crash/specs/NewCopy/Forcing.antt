-- What a crash leaves while a Switch is forced.
--
-- 1. The log has some of the records, no fewer than were forced before. The pages of both copies
--    are in their sets: those of the new one were written before.
-- 2. Where the Switch is not among the records, the image is left of the copy that was current;
--    where it is, of the new one (`SwitchIsEither`).
-- 3. The copy that was current stands in its set as it did: each of its pages there is an old one
--    (`VersionsAreOld`).
use Rattle.std.specs.Prelude.{◌≡◌, ◌≤◌, ◌⊎◌, ℕ, List, length, take}
use Rattle.rg_base.specs.Copies.{set_of}
use Rattle.rg_image.specs.Kept.{AreEntries}
use Rattle.rg_image.specs.Log.{Spells}
use Rattle.rg_image.specs.Pack.{end_of, start}
use Rattle.rg_image.specs.Rules.{ArePositions, copy_capacity}
use Rattle.rg_laws_log.specs.LogState.Act.{LogState}
use Rattle.rg_log.specs.Kept.{log_pages}
use Rattle.rg_laws_crash.specs.NewestPages.Steady.{IsSteady}
use Rattle.rg_laws_crash.specs.NewestPages.Tidy.{switched_pages}
use Rattle.rg_outside.specs.Calls.{Image}
use Rattle.rg_outside.specs.Capacities.{Capacities}
use Rattle.rg_page.specs.Content.{Content}
use Rattle.rg_record.specs.declared.record.Record.{Record}
use Rattle.rg_laws_crash.specs.SoundVolume.Laws.{IsLeft}
use Rattle.rg_laws_crash.specs.SwitchRecord.Laws.{IsLeftSwitched}
use Rattle.rg_laws_crash.specs.SwitchRecord.Switched.{AreOldPages, CanSwitch, HasNewCopy, switched}
use Rattle.rg_laws_crash.specs.PageVersions.OnImage.{HasPages}
use Rattle.rg_laws_crash.specs.PageVersions.Versions.{Epoch, IsBegun}

-- an image with the first n records of a log that ends with a Switch, and with the pages of both
-- copies; so many records were forced before the Switch, and the current copy began so
pub record IsForcing (capacities : Capacities) (e : Epoch) (rs : List Record) (copy : ℕ)
    (pages : List Content) (forced n : ℕ) (i : Image) : Type 0 where
  pub begun : e.from ≤ forced
  pub low : forced ≤ n
  pub high : n ≤ length (switched rs copy pages)
  pub within : forced ≤ length rs
  pub steady : IsSteady e rs
  pub counts : e.pages ≡ switched_pages (take e.from rs)
  pub base : (p : ℕ) → 1 ≤ p → IsBegun e p
  pub entries : AreEntries (switched rs copy pages)
  pub fits : (end_of start (switched rs copy pages)).page ≤ log_pages capacities
  pub log : Spells (log_pages capacities) (take n (switched rs copy pages)) i
  pub own : HasPages (set_of e.copy) (copy_capacity capacities e.copy) e rs forced i
  pub there : HasNewCopy capacities rs copy pages i

-- it is left of the one copy or of the other, as its log says
abbrev pub IsEither :
    Capacities → Epoch → List Record → (copy : ℕ) → List Content → (forced n : ℕ) → Image → Type 0
IsEither capacities e rs copy pages forced n i =
    ((n ≤ length rs) × IsLeft capacities e rs forced n i)
    ⊎ ((n ≡ length (switched rs copy pages)) × IsLeftSwitched capacities rs copy pages i)

abbrev pub SwitchIsEither : Type 0
SwitchIsEither =
    (capacities : Capacities) (limit : ℕ) (e : Epoch) (rs : List Record) (copy : ℕ)
    (pages : List Content) (s : LogState) (forced n : ℕ) (i : Image)
    → CanSwitch capacities limit rs copy pages s
    → IsForcing capacities e rs copy pages forced n i
    → IsEither capacities e rs copy pages forced n i

-- of a copy that began so, where the log is forced so far
abbrev pub VersionsAreOld : Type 0
VersionsAreOld =
    (capacities : Capacities) (e : Epoch) (rs : List Record) (forced : ℕ) (i : Image)
    → ArePositions rs → ((p : ℕ) → 1 ≤ p → IsBegun e p) → e.from ≤ forced → forced ≤ length rs
    → HasPages (set_of e.copy) (copy_capacity capacities e.copy) e rs forced i
    → AreOldPages capacities e.copy forced i
