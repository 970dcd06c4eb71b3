-- Rows read from the places of entries.
use Rattle.std.specs.Prelude.{◌≡◌, ℕ, List}
use Rattle.rg_base.specs.declared.place.Place.{Place}
use Rattle.rg_base.specs.declared.row.Row.{Row}
use Rattle.rg_home.specs.Pages.{slot_of}
use Rattle.rg_home.specs.Rows.{row_at}
use Rattle.rg_btree.specs.Indexes.Listed.{listed_rows}
use Rattle.rg_engine.specs.Engine.{slots_in}
use Rattle.rg_engine.specs.Wrote.{SameEngine}
use Rattle.rg_engine.specs.declared.engine.Engine.{Engine}

-- these rows were read at the places of these entries, and all is as it was
pub record RowsRead (old new : Engine) (entries : List (ℕ × Place)) (found : List Row)
    : Type 0 where
  pub same : SameEngine old new
  pub rows : found ≡ listed_rows (row_at (slot_of (slots_in old))) entries
