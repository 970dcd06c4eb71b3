-- What a committed Change makes of the rows so far.
use Rattle.std.specs.Prelude.{ℕ, Option, Some, None}
use Rattle.rg_base.specs.declared.row.Row.{Row}
use Rattle.rg_image.specs.Meaning.{made_of}
use Rattle.rg_record.specs.declared.record.Kind.{Kind}

-- the row that a Change which names the key makes of it, where it names it
abbrev pub made_by : Kind → ℕ → Option (Option Row)
made_by kind key = made_of key kind

-- that row, else the one that was there
abbrev pub made_over : Option (Option Row) → Option Row → Option Row
made_over None row = row
made_over (Some made) row = made
