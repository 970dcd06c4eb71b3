-- The records of a unit, from its last one back.
--
-- 1. Each record of a unit names the position of the one before it. From the last Change of a unit
--    that is not being undone its writes are found so, the latest first.
use Rattle.std.specs.Prelude.{◌≡◌, ◌<◌, ℕ, List, [], ◌∷◌, Some}
use Rattle.rg_record.specs.declared.record.Kind.TheVariants.{Change}
use Rattle.rg_record.specs.declared.record.Record.{Record}
use Rattle.rg_laws_log.specs.LogState.Write.{Write}
use Rattle.rg_engine.specs.RecordList.{record_at}

-- the Change record of a write
abbrev pub change_record : (position t back : ℕ) → Write → Record
change_record position t back w = record {
  position = record { 0 = position };
  tran = record { 0 = t };
  back = record { 0 = back };
  kind = Change w.written.home w.written.before w.after w.written.parts;
}

-- from the record of this position back to the first of unit t stand the Changes of these writes
abbrev pub Walks : List Record → (t last : ℕ) → List Write → Type 0
Walks records t last [] = last ≡ 0
Walks records t last (w ∷ ws) =
    (back : ℕ) × (back < last) × (record_at records last ≡ Some (change_record last t back w))
    × Walks records t back ws
