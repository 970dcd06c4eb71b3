-- What a reader of records reports.
use Rattle.std.specs.Prelude.{◌≡◌, ℕ, List}
use Rattle.rg_record.specs.declared.fault.RecordFault.{RecordFault}
use Rattle.rg_record.specs.declared.fault.RecordFault.TheVariants.{NotARecord, NoMemory}
use Rattle.rg_record.specs.declared.record.Record.{Record}
use Rattle.rg_record.specs.Fits.{Fits}
use Rattle.rg_record.specs.Spelled.{IsRecord}
use Rattle.rg_record.specs.Spelling.{record_bytes}

-- no record has these bytes
abbrev pub NoRecordHas : List ℕ → Type 0
NoRecordHas bytes = (entry : Record) → Fits entry → IsRecord entry → record_bytes entry ≡ bytes → ⊥

-- a refusal other than out of memory says that the bytes are no spelling
abbrev pub IsNone : List ℕ → RecordFault → Type 0
IsNone bytes NotARecord = NoRecordHas bytes
IsNone bytes NoMemory = Unit {0}
