-- What a write takes of the log.
--
-- 1. A record takes its bytes, and 2 for its length.
-- 2. With the records of a write, 911 bytes are reserved for its undo. With the first write of a
--    unit, 23 bytes are reserved for the record of its end.
use Rattle.std.specs.Prelude.{◌≤◌, ◌+◌, ℕ, List, [], ◌∷◌, Option, Some, None, length}
use Rattle.rg_base.specs.declared.part.Part.{Part}
use Rattle.rg_base.specs.declared.row.Row.{Row}
use Rattle.rg_home.specs.declared.plan.Plan.{Plan}
use Rattle.rg_image.specs.Pack.{log_bytes}
use Rattle.rg_log.specs.Kept.{Listed}
use Rattle.rg_record.specs.Spelled.{AreFrees, IsFew}
use Rattle.rg_record.specs.Spelling.{kind_size}
use Rattle.rg_record.specs.declared.record.Kind.{Kind}
use Rattle.rg_record.specs.declared.record.Kind.TheVariants.{Change, Purge}
use Rattle.rg_engine.specs.declared.units.OpenUnit.{OpenUnit}

-- a record of this kind
abbrev pub kind_bytes : Kind → ℕ
kind_bytes kind = 22 + kind_size kind

-- the Purge of these parts, if there are any
abbrev pub purge_bytes : List Part → ℕ
purge_bytes [] = 0
purge_bytes (x ∷ parts) = kind_bytes (Purge (x ∷ parts))

-- the records of a plan
abbrev pub plan_bytes : Plan → Option Row → ℕ
plan_bytes plan after =
    purge_bytes plan.purge + kind_bytes (Change plan.home plan.before after plan.parts)

-- the record of a unit's end, where the unit begins with this write
abbrev pub end_bytes : Option OpenUnit → ℕ
end_bytes None = 23
end_bytes (Some unit) = 0

-- all that a write takes and reserves, by a session with this unit
abbrev pub needed : Option OpenUnit → Plan → Option Row → ℕ
needed unit plan after = plan_bytes plan after + 911 + end_bytes unit

-- the most that a write needs
abbrev pub most_needed : ℕ
most_needed = 4264

-- parts that purge a page, or none
abbrev pub IsPurge : List Part → Type 0
IsPurge [] = Unit {0}
IsPurge (x ∷ parts) = (length (x ∷ parts) ≤ 225) × AreFrees (x ∷ parts)

-- the records of a plan have a spelling
pub record IsSpelled (plan : Plan) : Type 0 where
  pub purge : IsPurge plan.purge
  pub few : IsFew plan.parts

-- the bytes of a log that its records take, or that are reserved
abbrev pub taken_of : Listed → ℕ
taken_of log = log_bytes log.records + log.reserved
