-- What the records of an engine's log tell of its units.
--
-- 1. They tell the state that they leave. Of each open unit they tell its last record, and the
--    Changes that are left, from its last one back.
-- 2. What is reserved is what ending all open transactions takes and what is set aside for the
--    utility, and nothing else. The log has room for it.
use Rattle.std.specs.Prelude.{◌≡◌, ◌≤◌, ◌+◌, ℕ, List, Option, Some}
use Rattle.rg_laws_crash.specs.LogChain.Tells.{Tells}
use Rattle.rg_image.specs.Rules.{last_position, limit_of, of_tran, owed}
use Rattle.rg_laws_log.specs.LogState.Act.{LogState}
use Rattle.rg_laws_log.specs.LogState.Write.{own_of}
use Rattle.rg_log.specs.Kept.{Listed}
use Rattle.rg_record.specs.declared.record.Record.{Record}
use Rattle.rg_check.specs.OpenUnits.Unended.{left_of}
use Rattle.rg_engine.specs.Bytes.{taken_of}
use Rattle.rg_engine.specs.Undoing.{AreChain}
use Rattle.rg_engine.specs.Units.{unit_at}
use Rattle.rg_engine.specs.declared.units.OpenUnit.{OpenUnit}

-- the records of an open unit
pub record IsTrail (records : List Record) (s : LogState) (unit : OpenUnit) : Type 0 where
  pub last : unit.last.0 ≡ last_position 0 (of_tran unit.tran.0 records)
  pub lefts :
      AreChain records unit.tran.0 unit.last.0 (own_of unit.tran.0 s.writes)
      (left_of unit.tran.0 records)

-- the records of a log, by the bytes that are set aside, the units that are open and the state that
-- is left
pub record Trails (log : Listed) (set_aside : ℕ) (units : List (Option OpenUnit)) (s : LogState)
    : Type 0 where
  pub tells : Tells log.records s
  pub each :
      (n : ℕ) (unit : OpenUnit) → unit_at units n ≡ Some unit → IsTrail log.records s unit
  pub paid : owed log.records + set_aside ≡ log.reserved
  pub space : taken_of log ≤ limit_of log.pages
