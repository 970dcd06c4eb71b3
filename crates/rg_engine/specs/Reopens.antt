-- When what an engine's log leaves can be opened again.
--
-- 1. Each part of the log that has all that is forced can be opened, whatever of the pages is on
--    the volume. No dead area of the pages with which the copy began has a number above its own.
-- 2. A dead home of an open unit names its own area, and no dead area has a number that no unit has
--    drawn. So the parts that end at later records can be opened, too.
use Rattle.std.specs.Prelude.{◌≡◌, ◌≤◌, ℕ, length, take}
use Rattle.rg_home.specs.Pages.{slot_of}
use Rattle.rg_image.specs.Rules.{copy_capacity}
use Rattle.rg_home.specs.Owners.{AllBelow}
use Rattle.rg_log.specs.Kept.{Listed, log_pages}
use Rattle.rg_outside.specs.Capacities.{Capacities}
use Rattle.rg_laws_pages.specs.UndoRoom.Dead.{DeadNames}
use Rattle.rg_laws_crash.specs.SoundVolume.Reopens.{CanReopen, HasLowOwners}
use Rattle.rg_space.specs.Space.{capacity_in}
use Rattle.rg_laws_crash.specs.PageVersions.Versions.{Epoch}
use Rattle.rg_engine.specs.Engine.{slots_in}
use Rattle.rg_engine.specs.Newest.{HasNewest}
use Rattle.rg_engine.specs.Units.{trans_of}
use Rattle.rg_engine.specs.declared.engine.Engine.{Engine}

-- each part of a log that has all that is forced can be opened
pub record PartsReopen (capacities : Capacities) (e : Epoch) (log : Listed) : Type 0 where
  pub can :
      (n : ℕ) → log.forced ≤ n → n ≤ length log.records
      → CanReopen capacities e (take n log.records)
  pub low :
      (n : ℕ) → log.forced ≤ n → n ≤ length log.records → HasLowOwners e (take n log.records)

-- dead homes of open units name their areas, and dead areas have numbers that were drawn
pub record IsCleanIn (d : Engine) : Type 0 where
  pub names : DeadNames (trans_of d.units) (slot_of (slots_in d))
  pub below : AllBelow d.top (slot_of (slots_in d))

-- what an engine leaves can be opened again, and so can what it leaves later
pub record Reopens (capacities : Capacities) (e : Epoch) (d : Engine) : Type 0 where
  pub copy : copy_capacity capacities e.copy ≡ capacity_in d.space
  pub pages : log_pages capacities ≡ d.log.pages
  pub newest : HasNewest e d.log.records d.space
  pub parts : PartsReopen capacities e d.log
  pub clean : IsCleanIn d

-- The parts of the log can be opened after a step, if they could before. So can those that have
-- only what was forced before it: at a moment of the step no more may be.
abbrev pub KeepsParts : (old new : Engine) → Type 0
KeepsParts old new =
    (capacities : Capacities) (e : Epoch) → Reopens capacities e old
    → PartsReopen capacities e (record new.log { forced = old.log.forced })
