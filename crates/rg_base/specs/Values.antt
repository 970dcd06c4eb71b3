-- The values of a row.
use Rattle.std.specs.Prelude.{◌<◌, ◌^◌}
use Rattle.rg_base.specs.declared.row.Row.{Row}
use Rattle.rg_base.specs.Text.{IsText}
use Rattle.rg_base.specs.declared.values.Values.{Values}

abbrev pub values_of : Row → Values
values_of row = record { key = row.key; clus = row.clus; cat = row.cat }

-- the numbers of a row fit 64 bits, and its text is one
pub record FitsRow (row : Row) : Type 0 where
  pub key : row.key < 2 ^ 64
  pub clus : row.clus < 2 ^ 64
  pub cat : row.cat < 2 ^ 64
  pub text : IsText row.text
