-- The layout that comes next after the first opening.
--
-- 1. Its pages are those that the log makes of the pages that were read, once its open units are
--    undone. There are as many as the log counts.
-- 2. Up to the number that the last Switch counts, a page that no record names since then stands as
--    the volume had it.
use Rattle.std.specs.Prelude.{◌≡◌, List, [], ◌∷◌, length}
use Rattle.rg_engine.specs.Layouts.{IsSideOf}
use Rattle.rg_laws_crash.specs.SoundVolume.Pages.{count_of}
use Rattle.rg_laws_crash.specs.SoundVolume.Sound.{IsSoundBy}
use Rattle.rg_outside.specs.Calls.{Image, read_of}
use Rattle.rg_outside.specs.Capacities.{Capacities}
use Rattle.rg_outside.specs.Volume.{VolumeSeen}
use Rattle.rg_page.specs.Content.{Content, slots_of}
use Rattle.rg_record.specs.declared.record.Record.{Record}
use Rattle.rg_restart.specs.Found.{IsGrown}
use Rattle.rg_restart.specs.Opening.{AreMadeOf, StandAsRead}
use Rattle.rg_run.specs.Outside.{IfBoth}
use Rattle.rg_stmt.specs.declared.event.Entry.{Entry}
use Rattle.rg_stmt.specs.declared.event.Event.{Event}
use Rattle.rg_stmt.specs.declared.event.Event.TheVariants.{Layout}
use Rattle.rg_stmt.specs.declared.layout.Side.{Side}

-- A layout of the pages that the log of an image makes of those that the image has.
pub record IsLayoutOf (capacities : Capacities) (i : Image) (side : Side) : Type 0 where
  pub records : List Record
  pub base : List Content
  pub sound : IsSoundBy capacities i records base
  pub closed : List Record
  pub grown : IsGrown records closed
  pub contents : List Content
  pub made_of : AreMadeOf records base closed contents
  pub count_is : length (slots_of contents) ≡ count_of records
  pub as_read : StandAsRead records closed contents i
  pub side_is : IsSideOf (slots_of contents) side

-- the event shows no layout, or this holds of it
abbrev pub IfLayout : (Side → Type 0) → Event → Type 0
IfLayout P (Layout copy side) = P side
IfLayout P event = Unit {0}

-- so it is with the second entry
abbrev pub IfSecond : (Side → Type 0) → List Entry → Type 0
IfSecond P [] = Unit {0}
IfSecond P (entry ∷ []) = Unit {0}
IfSecond P (entry ∷ next ∷ entries) = IfLayout P next.event

-- a layout that is the second entry is that of the volume as it read when the run began
abbrev pub ShowsOpened : (old new : VolumeSeen) → List Entry → Type 0
ShowsOpened old new trace =
    IfBoth old.told new.told (λ before t.
    IfSecond (IsLayoutOf old.capacities (read_of before.first before.calls)) trace)
