-- The writes of the open units of a log, which are left to be undone.
--
-- 1. Units are undone by rising number, and each unit's Changes the latest first. The first Change
--    that lacks what its undo needs is known by its place.
use Rattle.std.specs.Prelude.{◌≡◌, ◌++◌, ◌∷◌, ℕ, List, [], map, Some}
use Rattle.rg_base.specs.declared.place.Place.{Place}
use Rattle.rg_home.specs.Slot.{Slot}
use Rattle.rg_home.specs.Undo.{undone_all}
use Rattle.rg_home.specs.Written.{Written}
use Rattle.rg_laws_pages.specs.UndoRoom.Needed.{NeededInTurn}
use Rattle.rg_record.specs.declared.record.Record.{Record}
use Rattle.rg_check.specs.PageTests.Breach.{BreaksOf}
use Rattle.rg_undo.specs.Undoing.{written_of}
use Rattle.rg_undo.specs.Unit.{writes_of}
use Rattle.rg_check.specs.OpenUnits.Unended.{left_of}

-- the first ones of these Changes had what they need; the next one lacks it, and this is the place
pub record IsLacking (pages : List (List Slot)) (entries : List Record) (place : Place) : Type 0
  where
    pub done : List Record
    pub entry : Record
    pub rest : List Record
    pub is : entries ≡ done ++ entry ∷ rest
    pub needed : NeededInTurn pages (writes_of done)
    pub breach : BreaksOf (undone_all pages (writes_of done)) (written_of entry) (Some place)

-- the Changes of these units that are left, in the order of their undo
abbrev pub lefts_of : List ℕ → List Record → List Record
lefts_of [] rs = []
lefts_of (t ∷ ts) rs = left_of t rs ++ lefts_of ts rs

-- the same as writes, unit by unit
abbrev pub writes_left : List ℕ → List Record → List (List Written)
writes_left ts rs = map (λ t. writes_of (left_of t rs)) ts
