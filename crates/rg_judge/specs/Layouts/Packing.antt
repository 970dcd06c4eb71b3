-- Rows packed one after another.
use Rattle.std.specs.Prelude.{◌+◌, ◌-◌, nat_le, List, [], ◌∷◌, if◌then◌else◌}
use Rattle.rg_base.specs.declared.options.Options.{Options}
use Rattle.rg_base.specs.declared.row.Row.{Row}
use Rattle.rg_stmt.specs.declared.layout.Spot.{Spot}
use Rattle.rg_model.specs.Packed.{area_of, free_part, home_spot, page_at}
use Rattle.rg_judge.specs.declared.layouts.packing.Packing.{Packing}

-- one row more
abbrev pub packing_after : Options → Packing → Row → Packing
packing_after options packing row =
    if nat_le (free_part options + area_of row) packing.free
    then record {
      filled = packing.filled;
      slots = packing.slots + 1;
      free = packing.free - area_of row;
    }
    else record { filled = packing.filled + 1; slots = 1; free = 4064 - area_of row }

-- where the next row lies
abbrev pub spot_of : Options → Packing → Row → Spot
spot_of options packing row =
    if nat_le (free_part options + area_of row) packing.free
    then home_spot (page_at options.freepage packing.filled) packing.slots row
    else home_spot (page_at options.freepage (packing.filled + 1)) 0 row

-- where the rows lie
abbrev pub spots_by : Options → Packing → List Row → List Spot
spots_by options packing [] = []
spots_by options packing (row ∷ rows) =
    spot_of options packing row ∷ spots_by options (packing_after options packing row) rows
