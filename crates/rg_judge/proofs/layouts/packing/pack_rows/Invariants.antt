use Rattle.std.proofs.Common.{◌≡◌, ◌++◌, drop}
use Rattle.rg_judge.specs.Layouts.Packing.{spots_by}
use Rattle.rg_judge.proofs.layouts.packing.pack_rows.Given as goal

abbrev pub invariant-loop-row : goal.invariant-loop-row
invariant-loop-row l = l.spots.items ++ spots_by l.options l.packing (drop l.row-index l.rows)
    ≡ spots_by l.options l.fn.packed l.rows
