-- The open units of sessions.
--
-- 1. A unit is here from its first write to its end. A unit that only reads has a claim and nothing
--    else.
-- 2. Each has the number of its transaction, the position of its last record, and how many of its
--    writes are not undone.
-- 3. It is owed bytes of the log: 911 for the Undo of each write, and 23 for the record of its end.
use Rattle.std.specs.Prelude.{◌+◌, ◌*◌, ℕ, List, [], ◌∷◌, Option, Some, None, slice_index_or}
use Rattle.std.specs.Prelude.{sum_by}
use Rattle.rg_engine.specs.declared.units.OpenUnit.{OpenUnit}

-- the open unit of the session with this number
abbrev pub unit_at : List (Option OpenUnit) → ℕ → Option OpenUnit
unit_at units n = slice_index_or units n None

-- the numbers of the open units
abbrev pub trans_of : List (Option OpenUnit) → List ℕ
trans_of [] = []
trans_of (None ∷ units) = trans_of units
trans_of (Some unit ∷ units) = unit.tran.0 ∷ trans_of units

-- the writes of a unit, if there is one
abbrev pub writes_in : Option OpenUnit → ℕ
writes_in None = 0
writes_in (Some unit) = unit.writes

-- the bytes that are reserved for a unit
abbrev pub owed_to : Option OpenUnit → ℕ
owed_to None = 0
owed_to (Some unit) = 23 + 911 * unit.writes

-- those of all units
abbrev pub owed : List (Option OpenUnit) → ℕ
owed units = sum_by owed_to units

-- the unit that a session begins with its first write
abbrev pub new_unit : (number : ℕ) → OpenUnit
new_unit number = record {
  tran = record { 0 = number };
  last = record { 0 = 0 };
  writes = 0;
}
