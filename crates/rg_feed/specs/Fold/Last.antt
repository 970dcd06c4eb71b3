-- The last change of a place, and what changes leave there.
use Rattle.std.specs.Prelude.{List, [], ◌∷◌, Option, Some, None, if◌then◌else◌}
use Rattle.rg_base.specs.declared.change.Change.{Change}
use Rattle.rg_base.specs.declared.place.Place.{Place}
use Rattle.rg_base.specs.declared.row.Row.{Row}
use Rattle.rg_base.specs.Place.{same_place}

-- the later of two changes that may be there
abbrev pub later_of : Option Change → Option Change → Option Change
later_of None earlier = earlier
later_of (Some change) earlier = Some change

-- the last of these changes that names this place
abbrev pub last_at : Place → List Change → Option Change
last_at place [] = None
last_at place (change ∷ changes) =
    later_of (last_at place changes) (if same_place change.home place then Some change else None)

-- what a change leaves at a place that had this row
abbrev pub changed_at : Place → Change → Option Row → Option Row
changed_at place change row = if same_place change.home place then change.after else row

-- what these changes leave there, one after another
abbrev pub applied_at : Place → List Change → Option Row → Option Row
applied_at place [] row = row
applied_at place (change ∷ changes) row = applied_at place changes (changed_at place change row)
