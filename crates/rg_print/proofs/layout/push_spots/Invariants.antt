use Rattle.std.proofs.Common.{◌≡◌, ◌++◌, take}
use Rattle.std.specs.List.{flat_map}
use Rattle.rg_print.specs.Layout.{spot_line}
use Rattle.rg_print.proofs.layout.push_spots.Given as goal

abbrev pub invariant-loop-spot : goal.invariant-loop-spot
invariant-loop-spot l =
    l.out.items ≡ l.fn.out.items ++ flat_map spot_line (take l.spot-index l.spots)
