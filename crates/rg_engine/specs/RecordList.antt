-- The records of a log, by their positions.
use Rattle.std.specs.Prelude.{◌-◌, ℕ, List, Option, slice_get}
use Rattle.rg_record.specs.declared.record.Record.{Record}

-- the record of this position, counted from 1
abbrev pub record_at : List Record → ℕ → Option Record
record_at records position = slice_get records (position - 1)
