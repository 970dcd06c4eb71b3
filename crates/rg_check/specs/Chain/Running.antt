-- What is kept of the records so far, and what one more record makes of it.
use Rattle.std.specs.Prelude.{ℕ, ◌+◌, ◌-◌, ◌*◌, true, false, if◌then◌else◌, nat_le, List, [], ◌∷◌}
use Rattle.std.specs.Prelude.{◌++◌, length, slice_index_or, slice_set}
use Rattle.rg_record.specs.declared.record.Kind.{Kind}
use Rattle.rg_record.specs.declared.record.Kind.TheVariants.{Change, Undo, Commit, RolledBack}
use Rattle.rg_record.specs.declared.record.Kind.TheVariants.{Purge, Switch}
use Rattle.rg_image.specs.Meaning.{Current}
use Rattle.rg_check.specs.declared.chain.unit.Unit.{Unit}

-- the transactions in order of their numbers, from 1; the current copy and its pages; and the bytes
-- that ending the open transactions takes
pub record Running : Type 0 where
  pub units : List Unit
  pub current : Current
  pub owed : ℕ

-- the bytes that ending a transaction takes: an Undo for each Change, and an end record
abbrev pub owed_unit : Unit → ℕ
owed_unit unit = if unit.ended then 0 else 911 * unit.left + 23

-- a transaction without records
abbrev pub no_unit : Unit
no_unit = record { last = 0; top = 0; left = 0; undoing = false; ended = false }

-- the transaction with this number
abbrev pub unit_at : List Unit → ℕ → Unit
unit_at units tran = slice_index_or units (tran - 1) no_unit

-- a transaction after one more record of it, with this position
abbrev pub unit_after : Unit → ℕ → Kind → Unit
unit_after unit position (Change home before after parts) =
    record unit { last = position; top = position; left = unit.left + 1 }
unit_after unit position (Undo next home after parts) =
    record unit { last = position; top = next.0; left = unit.left - 1; undoing = true }
unit_after unit position Commit = record unit { last = position; ended = true }
unit_after unit position RolledBack = record unit { last = position; ended = true }
unit_after unit position (Purge parts) = unit
unit_after unit position (Switch copy pages) = unit

-- a transaction in its place, or behind the others
abbrev pub put_unit : List Unit → ℕ → Unit → List Unit
put_unit units tran unit =
    if nat_le tran (length units) then slice_set units (tran - 1) unit else units ++ unit ∷ []
