-- How an engine turns to a new copy.
--
-- 1. A Switch record is appended out of the bytes that were set aside, and the log is forced. At
--    each moment a crash leaves a part of the records that has all that was forced before.
-- 2. Then the engine has the pages and the indexes of the new copy, and begins with them. No drain
--    is in force. All else is as before.
use Rattle.std.specs.Prelude.{◌≡◌, ◌≤◌, ◌+◌, ◌++◌, ℕ, [], ◌∷◌, length}
use Rattle.rg_base.specs.declared.options.DrainState.TheVariants.{Free}
use Rattle.rg_home.specs.Able.{Proper}
use Rattle.rg_home.specs.Pages.{slot_of}
use Rattle.rg_image.specs.Kept.{AreEntries}
use Rattle.rg_image.specs.Log.{SpellsFrom}
use Rattle.rg_image.specs.Pack.{end_of, start}
use Rattle.rg_btree.specs.Indexes.Listings.{AreListings}
use Rattle.rg_home.specs.Owners.{AllBelow}
use Rattle.rg_outside.specs.Moments.{EachImage, HoldsThroughout}
use Rattle.rg_shadow.specs.Shade.{Shade, home_rows, shade_slots}
use Rattle.rg_space.specs.Memory.{list_seen}
use Rattle.rg_space.specs.Space.{capacity_in, frames_of}
use Rattle.rg_laws_crash.specs.SwitchRecord.Switched.{switch_to}
use Rattle.rg_engine.specs.Bytes.{taken_of}
use Rattle.rg_engine.specs.Engine.{HasPages, seen_in}
use Rattle.rg_engine.specs.Volume.{CallsLog, Leaves}
use Rattle.rg_outside.specs.Volume.{VolumeSeen}
use Rattle.rg_engine.specs.declared.engine.Engine.{Engine}

-- the record of a switch to this copy, of so many pages, was appended, and the log was forced
pub record LogsSwitch (copy pages : ℕ) (before now : VolumeSeen) (old new : Engine) : Type 0 where
  pub same : new ≡ record old { log = new.log; set_aside = 0 }
  pub records :
      new.log.records ≡ old.log.records ++ switch_to (length old.log.records + 1) copy pages ∷ []
  pub reserved : new.log.reserved + 28 ≡ old.log.reserved
  pub taken : taken_of new.log ≡ taken_of old.log
  pub pages_same : new.log.pages ≡ old.log.pages
  pub further : old.log.forced ≤ new.log.forced
  pub entries : AreEntries new.log.records
  pub set :
      1 ≤ length new.log.records → (end_of start new.log.records).page ≤ new.log.pages
  pub calls : CallsLog before now
  pub leaves : Leaves before old.log → Leaves now new.log
  pub through :
      Leaves before old.log
      → HoldsThroughout before.told now.told
      (EachImage (SpellsFrom new.log.pages new.log.records old.log.forced))

-- a new copy: its pages are proper, no dead area is a transaction's, and there is room for them
pub record IsShade (shade : Shade) : Type 0 where
  pub proper : Proper (shade_slots shade)
  pub below : AllBelow 0 (slot_of (shade_slots shade))
  pub room : length shade.pages ≤ shade.capacity

-- the engine has the pages and the indexes of this copy
pub record Takes (old : Engine) (shade : Shade) (new : Engine) : Type 0 where
  pub same :
      new
      ≡ record old {
        space = new.space;
        indexes = new.indexes;
        opened = length old.log.records;
        claims = record old.claims { drain = Free };
      }
  pub has : HasPages new
  pub pages : (seen_in new).pages ≡ shade.pages
  pub copy : (list_seen (frames_of new.space)).copy ≡ shade.copy
  pub capacity : capacity_in new.space ≡ shade.capacity
  pub listings : AreListings (home_rows shade) new.indexes

-- the engine turned to this copy: the log was forced, and then it took the copy
pub record Turns (copy : ℕ) (shade : Shade) (before now : VolumeSeen) (old new : Engine) : Type 0
  where
    pub mid : Engine
    pub logs : LogsSwitch copy (length shade.pages) before now old mid
    pub forced : mid.log.forced ≡ length mid.log.records
    pub takes : Takes mid shade new
