-- What a home shows.
use Rattle.std.specs.Prelude.{◌≡◌, Option, Some, None, option_map}
use Rattle.rg_base.specs.Values.{values_of}
use Rattle.rg_base.specs.declared.place.Place.{Place}
use Rattle.rg_home.specs.Plan.{pointed_to}
use Rattle.rg_home.specs.Rows.{row_at}
use Rattle.rg_page.specs.Seen.{Seen}
use Rattle.rg_space.specs.Took.{slot_in, IsHeldAt}
use Rattle.rg_space.specs.declared.read.AtHome.{AtHome}
use Rattle.rg_space.specs.declared.read.ValuesAt.{ValuesAt}

-- the page of a place is held, if there is a place
abbrev pub IsHeldOf : Seen → Option Place → Type 0
IsHeldOf s None = Unit {0}
IsHeldOf s (Some p) = IsHeldAt s p.page

-- the place that it points to, and its row; the pages of both are held
pub record IsAtHome (s : Seen) (home : Place) (at : AtHome) : Type 0 where
  pub other : at.other ≡ pointed_to (slot_in s home)
  pub row : at.row ≡ row_at (slot_in s) home
  pub held : IsHeldAt s home.page
  pub held_other : IsHeldOf s at.other

-- the place that it points to, and the values of its row
pub record AreValuesAt (s : Seen) (home : Place) (at : ValuesAt) : Type 0 where
  pub other : at.other ≡ pointed_to (slot_in s home)
  pub values : at.values ≡ option_map values_of (row_at (slot_in s) home)
