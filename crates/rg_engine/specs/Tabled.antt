-- The table that a desk has.
use Rattle.std.specs.Prelude.{◌≡◌, ℕ, false, List}
use Rattle.std.specs.FinMap as map
use Rattle.rg_base.specs.declared.place.Place.{Place}
use Rattle.rg_home.specs.Pages.{slot_of}
use Rattle.rg_home.specs.Rows.{row_at}
use Rattle.rg_btree.specs.Indexes.Listed.{keyed_rows}
use Rattle.rg_model.specs.State.{State, Table}
use Rattle.rg_record.specs.declared.record.Record.{Record}
use Rattle.rg_stmt.specs.declared.event.Entry.{Entry}
use Rattle.rg_engine.specs.Engine.{slots_in}
use Rattle.rg_engine.specs.Wrote.{SameEngine}
use Rattle.rg_engine.specs.declared.engine.Engine.{Engine}
use Rattle.std.specs.Prelude.{Bool, []}
use Rattle.rg_model.specs.Run.{Run}
use Rattle.rg_model.specs.State.{at_rest}
use Rattle.rg_engine.specs.Stored.{IsStored}

-- the rows at the places of these entries are in the table, and the engine is as it was
pub record TableRead (old new : Engine) (entries : List (ℕ × Place)) (found : Table) : Type 0 where
  pub same : SameEngine old new
  pub rows : found ≡ map.from_entries (keyed_rows (row_at (slot_of (slots_in old))) entries)

-- A trace leads from the table that these records store, in this copy, to a last state that is up
-- or down. Nothing is in doubt on the way, so no other state can be the last.
pub record EndsIn
    (old : List Record) (copy : ℕ) (trace : List Entry) (down : Bool) (last : State) : Type 0
  where
    pub start : Table
    pub starts : IsStored old start
    pub run : Run [] (at_rest start copy) trace last
    pub down_is : last.down ≡ down

-- the entries lead to a state that is up, and has this table
pub record EndsWithTable (old : List Record) (copy : ℕ) (trace : List Entry) (table : Table)
    : Type 0 where
  pub last : State
  pub ends : EndsIn old copy trace false last
  pub is : table ≡ last.table
