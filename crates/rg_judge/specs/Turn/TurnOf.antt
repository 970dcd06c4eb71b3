-- What the judge's turns stand for.
use Rattle.rg_model.specs.Turn as model
use Rattle.rg_judge.specs.Turn.UtilityOf.{utility_of}
use Rattle.rg_judge.specs.declared.turn.turn.Turn.{Turn}
use Rattle.rg_judge.specs.declared.turn.turn.Turn.TheVariants.{Runs, Switches, Stops, Falls}

-- a turn
abbrev pub turn_seen : Turn → model.Turn
turn_seen (Runs u drain) = model.Runs (utility_of u) drain
turn_seen (Switches copy sides u) = model.Switches copy.now sides.now (utility_of u)
turn_seen Stops = model.Stops
turn_seen Falls = model.Falls
