-- Quiet rows in clustering order, read one after another.
use Rattle.std.specs.Prelude.{◌&&◌, Bool, true, List, [], ◌∷◌, Option, Some, None}
use Rattle.std.specs.Prelude.{if◌then◌else◌}
use Rattle.rg_stmt.specs.declared.layout.Spot.{Spot}
use Rattle.rg_model.specs.Right.{is_at_home, is_clustered_pair}
use Rattle.rg_rules.specs.Tally.Tallied.{tally_quiet}
use Rattle.rg_rules.specs.declared.tally.tally.Tally.{Tally}

abbrev pub is_pair_behind : Option Spot → Spot → Bool
is_pair_behind None spot = true
is_pair_behind (Some last) spot = is_clustered_pair last spot

-- the quiet ones lie at home, each not before the last one
abbrev pub quiet_rises : Tally → Option Spot → List Spot → Bool
quiet_rises tally last [] = true
quiet_rises tally last (spot ∷ spots) =
    if tally_quiet tally spot.key
    then is_at_home spot && (is_pair_behind last spot && quiet_rises tally (Some spot) spots)
    else quiet_rises tally last spots
