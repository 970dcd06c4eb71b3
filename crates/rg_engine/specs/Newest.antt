-- The pages of an engine, as the newest versions.
--
-- 1. Whatever pages the copy began with: if each page is the version that all records of the log
--    make of it, so it is after a step.
-- 2. The records have the positions from 1 on.
-- 3. The copy is current still: since it became so none of the records is a Switch.
use Rattle.std.specs.Prelude.{List}
use Rattle.rg_image.specs.Rules.{ArePositions}
use Rattle.rg_page.specs.declared.list.ListFrames.{ListFrames}
use Rattle.rg_record.specs.declared.record.Record.{Record}
use Rattle.rg_space.specs.Memory.{list_seen}
use Rattle.rg_space.specs.Space.{frames_of}
use Rattle.rg_space.specs.declared.space.Space.{Space}
use Rattle.rg_laws_crash.specs.PageVersions.Versions.{Epoch}
use Rattle.rg_laws_crash.specs.NewestPages.Newest.{AreNewest}
use Rattle.rg_laws_crash.specs.NewestPages.Steady.{IsSteady}
use Rattle.rg_engine.specs.declared.engine.Engine.{Engine}

-- the pages of a space are the newest versions of a log with these records
pub record HasNewest (e : Epoch) (rs : List Record) (space : Space ListFrames) : Type 0 where
  pub pages : AreNewest e rs (list_seen (frames_of space))
  pub positions : ArePositions rs
  pub steady : IsSteady e rs

-- from one log and space to others
abbrev pub StayNewest :
    (old : List Record) → Space ListFrames → (new : List Record) → Space ListFrames → Type 0
StayNewest old space new later = (e : Epoch) → HasNewest e old space → HasNewest e new later

-- the same of engines
abbrev pub KeepsNewest : (old new : Engine) → Type 0
KeepsNewest old new = StayNewest old.log.records old.space new.log.records new.space
