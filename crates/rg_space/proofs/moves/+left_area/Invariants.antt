use Rattle.std.proofs.Common.{◌-◌, length}
use Rattle.rg_space.proofs.moves.+left_area.Given as goal

abbrev pub decreases-left_area : goal.decreases-left_area
decreases-left_area l = length l.parts.now - l.i
