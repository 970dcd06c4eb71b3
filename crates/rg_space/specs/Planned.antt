-- Moves as plans.
use Rattle.std.specs.Prelude.{ℕ, Option, Some, None}
use Rattle.rg_base.specs.RowBytes.{row_size}
use Rattle.rg_base.specs.declared.place.Place.{Place}
use Rattle.rg_base.specs.declared.row.Row.{Row}
use Rattle.rg_home.specs.declared.plan.Plan.{Plan}
use Rattle.rg_space.specs.declared.moves.Moves.{Moves}

-- the plan that makes these moves for this home, of a row that was this one before
abbrev pub plan_of : Place → Option Row → Moves → Plan
plan_of home before moves = record {
  home = home;
  before = before;
  purge = moves.purge;
  parts = moves.parts;
}

abbrev pub plan_of_change : Place → Option Row → Option Moves → Option Plan
plan_of_change home before None = None
plan_of_change home before (Some moves) = Some (plan_of home before moves)

abbrev pub plan_of_put : Option (Place × Moves) → Option Plan
plan_of_put None = None
plan_of_put (Some put) = Some (plan_of put.0 None put.1)

-- the bytes of a row, if there is one
abbrev pub size_in : Option Row → Option ℕ
size_in None = None
size_in (Some row) = Some (row_size row)
