-- What records take of the log, as they are appended.
use Rattle.std.proofs.Common.{◌≡◌, ◌≤◌, ◌+◌, ℕ, List, [], ◌∷◌, ◌++◌, Option, Some, None, length}
use Rattle.std.proofs.Common.{arith}
use Rattle.rg_base.specs.declared.part.Part.{Part}
use Rattle.rg_base.specs.declared.row.Row.{Row}
use Rattle.rg_home.specs.declared.plan.Plan.{Plan}
use Rattle.rg_image.specs.Pack.{log_bytes}
use Rattle.rg_record.specs.declared.record.Record.{Record}
use Rattle.rg_laws_log.specs.LogState.Write.{write_of}
use Rattle.rg_engine.specs.Bytes.{kind_bytes, plan_bytes, purge_bytes}
use Rattle.rg_engine.specs.Ended.{commit_record, records_committed}
use Rattle.rg_engine.specs.Units.{owed_to}
use Rattle.rg_engine.specs.Walks.{change_record}
use Rattle.rg_engine.specs.Wrote.{purge_record, records_cleared, records_wrote}
use Rattle.rg_engine.specs.declared.units.OpenUnit.{OpenUnit}
use Rattle.rg_engine.proofs.Spelled.{commit_bytes, size_is}

-- one record more
pub bytes-push : (rs : List Record) (r : Record)
    → log_bytes (rs ++ r ∷ []) ≡ log_bytes rs + kind_bytes r.kind
bytes-push [] r = omega (arith, size_is r)
bytes-push (x ∷ rs) r = omega (arith, bytes-push rs r)

bytes_cleared : (rs : List Record) (parts : List Part)
    → log_bytes (records_cleared rs parts) ≡ log_bytes rs + purge_bytes parts
bytes_cleared rs [] = omega arith
bytes_cleared rs (x ∷ parts) = bytes-push rs (purge_record (length rs + 1) (x ∷ parts))

-- the records of a write
pub bytes_wrote : (rs : List Record) (unit : OpenUnit) (plan : Plan) (after : Option Row)
    → log_bytes (records_wrote rs unit plan after) ≡ log_bytes rs + plan_bytes plan after
bytes_wrote rs unit plan after =
    let change = change_record (length (records_cleared rs plan.purge) + 1) unit.tran.0 unit.last.0
    (write_of unit.tran.0 plan.home plan.before after plan.parts) in
    omega (arith, bytes-push (records_cleared rs plan.purge) change, bytes_cleared rs plan.purge)

-- the end of a unit takes no more than was reserved for it
pub bytes_committed : (rs : List Record) (unit : Option OpenUnit) (before after : ℕ)
    → after + owed_to unit ≡ before
    → log_bytes (records_committed rs unit) + after ≤ log_bytes rs + before
bytes_committed rs None before after e = omega (arith, e)
bytes_committed rs (Some unit) before after e =
    omega (arith, e, bytes-push rs (commit_record (length rs + 1) unit), commit_bytes)
