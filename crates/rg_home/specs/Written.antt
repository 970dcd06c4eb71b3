-- What a record keeps of a write.
--
-- 1. It is all that the write's undo reads, besides the pages: who wrote, at which home, the row
--    that was there, and the parts.
-- 2. The parts show where the row before lay in an Over area (`over_before`). The place that the
--    home names now does not: another write may have moved the row since.
use Rattle.std.specs.Prelude.{ℕ, List, Option}
use Rattle.rg_base.specs.declared.part.Part.{Part}
use Rattle.rg_base.specs.declared.place.Place.{Place}
use Rattle.rg_base.specs.declared.row.Row.{Row}

-- a write, as its record has it; the row before is as it was stored
pub record Written : Type 0 where
  pub owner : ℕ
  pub home : Place
  pub before : Option Row
  pub parts : List Part
