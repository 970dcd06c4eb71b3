-- What a Switch record makes of a log and of an image.
--
-- 1. It changes no stored row (`SwitchStores`). The longer log tells the state that the new pages
--    show (`SwitchTells`), and they are the newest versions of the copy's pages (`SwitchStands`).
-- 2. So the longer log can be opened, of that copy (`SwitchReopens`), and no dead area has a number
--    above its own (`SwitchOwners`).
-- 3. What a crash leaves of the longer log, and of the pages that were written before, is left of
--    that copy. So it is sound, and the pages past those of the copy are tidy (`SwitchIsLeft`).
-- 4. The copy began with the pages, and with empty ones past them. Each page reads as the version
--    that its position numbers, and no Switch came since (`SwitchTurns`).
use Rattle.std.specs.Prelude.{◌≡◌, ◌≤◌, ◌<◌, ℕ, List, length, take}
use Rattle.rg_image.specs.Kept.{AreEntries}
use Rattle.rg_image.specs.Log.{Spells}
use Rattle.rg_image.specs.Meaning.{current_of, stored}
use Rattle.rg_image.specs.Pack.{end_of, start}
use Rattle.rg_image.specs.Rules.{ArePositions, IsChain}
use Rattle.rg_laws_log.specs.LogState.Act.{LogState}
use Rattle.rg_log.specs.Kept.{log_pages}
use Rattle.rg_laws_crash.specs.NewestPages.Newest.{AreNewest}
use Rattle.rg_laws_crash.specs.NewestPages.Steady.{IsSteady}
use Rattle.rg_laws_crash.specs.NewestPages.Tidy.{AreSpare, switched_pages}
use Rattle.rg_outside.specs.Calls.{Image}
use Rattle.rg_outside.specs.Capacities.{Capacities}
use Rattle.rg_page.specs.Content.{Content, content_at, empty}
use Rattle.rg_page.specs.Seen.{Seen}
use Rattle.rg_record.specs.declared.record.Record.{Record}
use Rattle.rg_laws_crash.specs.LogChain.Tells.{Tells}
use Rattle.rg_laws_crash.specs.SoundVolume.Laws.{IsLeft}
use Rattle.rg_laws_crash.specs.SoundVolume.Reopens.{CanReopen, HasLowOwners, Stands}
use Rattle.rg_laws_crash.specs.SwitchRecord.Switched.{CanSwitch, HasNewCopy, next_epoch, switched}
use Rattle.rg_laws_crash.specs.PageVersions.Versions.{IsBegun, version}

abbrev pub SwitchStores : Type 0
SwitchStores =
    (rs : List Record) (copy : ℕ) (pages : List Content) (k : ℕ)
    → stored (switched rs copy pages) k ≡ stored rs k

abbrev pub SwitchTells : Type 0
SwitchTells =
    (capacities : Capacities) (limit : ℕ) (rs : List Record) (copy : ℕ) (pages : List Content)
    (s : LogState) → CanSwitch capacities limit rs copy pages s
    → Tells (switched rs copy pages) s

abbrev pub SwitchStands : Type 0
SwitchStands =
    (capacities : Capacities) (limit : ℕ) (rs : List Record) (copy : ℕ) (pages : List Content)
    (s : LogState) → CanSwitch capacities limit rs copy pages s
    → Stands (next_epoch rs copy pages) (switched rs copy pages) s

abbrev pub SwitchReopens : Type 0
SwitchReopens =
    (capacities : Capacities) (limit : ℕ) (rs : List Record) (copy : ℕ) (pages : List Content)
    (s : LogState) → CanSwitch capacities limit rs copy pages s → IsChain capacities rs
    → CanReopen capacities (next_epoch rs copy pages) (switched rs copy pages)

abbrev pub SwitchOwners : Type 0
SwitchOwners =
    (capacities : Capacities) (limit : ℕ) (rs : List Record) (copy : ℕ) (pages : List Content)
    (s : LogState) → CanSwitch capacities limit rs copy pages s
    → HasLowOwners (next_epoch rs copy pages) (switched rs copy pages)

-- the image has the longer log, whole, and the pages
pub record HasSwitched (capacities : Capacities) (rs : List Record) (copy : ℕ)
    (pages : List Content) (i : Image) : Type 0 where
  pub entries : AreEntries (switched rs copy pages)
  pub fits : (end_of start (switched rs copy pages)).page ≤ log_pages capacities
  pub log : Spells (log_pages capacities) (switched rs copy pages) i
  pub there : HasNewCopy capacities rs copy pages i

-- it is left of the copy, and tidy past the copy's pages
pub record IsLeftSwitched (capacities : Capacities) (rs : List Record) (copy : ℕ)
    (pages : List Content) (i : Image) : Type 0 where
  pub left :
      IsLeft capacities (next_epoch rs copy pages) (switched rs copy pages)
      (length (switched rs copy pages)) (length (switched rs copy pages)) i
  pub spare : AreSpare capacities (switched rs copy pages) i

abbrev pub SwitchIsLeft : Type 0
SwitchIsLeft =
    (capacities : Capacities) (limit : ℕ) (rs : List Record) (copy : ℕ) (pages : List Content)
    (s : LogState) (i : Image) → CanSwitch capacities limit rs copy pages s
    → HasSwitched capacities rs copy pages i → IsLeftSwitched capacities rs copy pages i

-- the copy to which the log turned, with these pages
pub record IsTurned (capacities : Capacities) (rs : List Record) (copy : ℕ)
    (pages : List Content) : Type 0 where
  pub positions : ArePositions (switched rs copy pages)
  pub count : (current_of (switched rs copy pages)).pages ≡ length pages
  pub copy_is : (next_epoch rs copy pages).copy ≡ copy
  pub from_is : (next_epoch rs copy pages).from ≡ length (switched rs copy pages)
  pub counts :
      (next_epoch rs copy pages).pages
      ≡ switched_pages (take (next_epoch rs copy pages).from (switched rs copy pages))
  pub steady : IsSteady (next_epoch rs copy pages) (switched rs copy pages)
  pub begun : (p : ℕ) → 1 ≤ p → IsBegun (next_epoch rs copy pages) p
  pub past : (p : ℕ) → length pages < p → (next_epoch rs copy pages).base p ≡ empty copy p
  pub newest :
      (seen : Seen) → seen.copy ≡ copy → seen.pages ≡ pages
      → AreNewest (next_epoch rs copy pages) (switched rs copy pages) seen
  pub reads :
      (p : ℕ) → 1 ≤ p → p ≤ length pages
      → version (next_epoch rs copy pages) (switched rs copy pages) (content_at pages p).position p
      ≡ content_at pages p

abbrev pub SwitchTurns : Type 0
SwitchTurns =
    (capacities : Capacities) (limit : ℕ) (rs : List Record) (copy : ℕ) (pages : List Content)
    (s : LogState) → CanSwitch capacities limit rs copy pages s
    → IsTurned capacities rs copy pages
