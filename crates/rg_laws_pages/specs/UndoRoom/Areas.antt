-- The areas that a unit needs for its undo.
--
-- 1. An undo goes back to the home of its row, or to an Over area of that home. Either may be dead,
--    and is then the unit's own.
-- 2. While the unit lives, nothing takes such an area away or makes it smaller: no purge, no write
--    and no undo, by this unit or another. That an undo never needs space rests on this.
use Rattle.std.specs.Prelude.{ℕ, ◌≤◌, Option}
use Rattle.rg_base.specs.declared.place.Place.{Place}
use Rattle.rg_home.specs.Slot.{Slot}
use Rattle.rg_home.specs.Slots.{capacity_of}
use Rattle.rg_home.specs.Able.{IsHomeOf, IsAreaOf}

-- what is a home for this owner stays one, no smaller
abbrev pub KeepsHome : Option ℕ → Slot → Slot → Type 0
KeepsHome by s s2 = IsHomeOf by s → IsHomeOf by s2 × (capacity_of s ≤ capacity_of s2)

-- what is an Over area of this home for this owner stays one, no smaller
abbrev pub KeepsArea : Option ℕ → Place → Slot → Slot → Type 0
KeepsArea by home s s2 =
    IsAreaOf by home s → IsAreaOf by home s2 × (capacity_of s ≤ capacity_of s2)

-- the home at this place, and each Over area of it
pub record KeepsAreas (by : Option ℕ) (home : Place) (at after : Place → Slot) : Type 0 where
  pub home_kept : KeepsHome by (at home) (after home)
  pub areas_kept : (q : Place) → KeepsArea by home (at q) (after q)
