-- A purge leaves keys and units as they were shown.
use Rattle.std.proofs.Common.{◌∷◌, [], ◌+◌, ℕ, List, Option, Some, None, length}
use Rattle.rg_base.specs.declared.lock.Lock.{Lock}
use Rattle.rg_base.specs.declared.part.Part.{Part}
use Rattle.rg_record.specs.declared.record.Record.{Record}
use Rattle.rg_laws_log.specs.LogState.Act.{LogState, step}
use Rattle.rg_laws_log.specs.LogState.Act.{Purge}
use Rattle.rg_laws_log.specs.LogState.Write.{Write}
use Rattle.rg_engine.specs.Shows.{KeyShown, UnitsShown}
use Rattle.rg_engine.specs.Walks.{Walks}
use Rattle.rg_engine.specs.Wrote.{purge_record, records_cleared}
use Rattle.rg_engine.specs.declared.units.OpenUnit.{OpenUnit}
use Rattle.rg_engine.proofs.WalkLists.{walks_longer}

pub key_purged :
    (units : List (Option OpenUnit)) (s : LogState) (parts : List Part) (lock : Option Lock) (k : ℕ)
    → KeyShown units s lock k → KeyShown units (step s (Purge parts)) lock k
key_purged units s parts None k h = h
key_purged units s parts (Some lock) k h =
    record { unit = h.unit; has = h.has; own = h.own; kept = h.kept }

pub units_purged :
    (records : List Record) (units : List (Option OpenUnit)) (s : LogState) (parts : List Part)
    → UnitsShown records s units → UnitsShown records (step s (Purge parts)) units
units_purged records units s parts h = record {
  each = λ n unit has. let u = h.each n unit has in record {
    live = u.live;
    steady = u.steady;
    walks = u.walks;
    count = u.count;
    wrote = u.wrote;
  };
  apart = h.apart;
  all = h.all;
}

-- its record is after those of the units
pub walks_cleared : (records : List Record) (parts : List Part) (t end : ℕ) (ws : List Write)
    → Walks records t end ws → Walks (records_cleared records parts) t end ws
walks_cleared records [] t end ws h = h
walks_cleared records (x ∷ parts) t end ws h =
    walks_longer records (purge_record (length records + 1) (x ∷ parts) ∷ []) t end ws h
