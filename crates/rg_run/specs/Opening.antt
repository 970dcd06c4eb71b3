-- The entries of openings, and the log that each of them tells of: as the volume read before the
-- first call of the opening.
use Rattle.std.specs.Prelude.{◌≡◌, ◌≤◌, ◌+◌, ℕ, List, [], ◌∷◌, length}
use Rattle.rg_engine.specs.Stored.{IsStored}
use Rattle.rg_image.specs.Log.{log_of}
use Rattle.rg_image.specs.Meaning.{current_of}
use Rattle.rg_image.specs.Pack.{log_bytes}
use Rattle.rg_image.specs.Rules.{owed}
use Rattle.rg_log.specs.Kept.{log_pages}
use Rattle.rg_model.specs.State.{Table, row_count}
use Rattle.rg_outside.specs.Calls.{Image, Told}
use Rattle.rg_outside.specs.Capacities.{Capacities}
use Rattle.rg_outside.specs.Moments.{read_at}
use Rattle.rg_record.specs.declared.record.Record.{Record}
use Rattle.rg_laws_crash.specs.SoundVolume.Sound.{IsSound}
use Rattle.rg_stmt.specs.Entries.{opened_entry}
use Rattle.rg_stmt.specs.declared.event.Entry.{Entry}
use Rattle.rg_stmt.specs.declared.event.Event.{Event}
use Rattle.rg_stmt.specs.declared.event.Event.TheVariants.{Opened}

-- The entry of the opening of a log with these records. The bytes that are used are those of the
-- records, and at most what ending all open units may take.
pub record IsOpeningOf (records : List Record) (entry : Entry) : Type 0 where
  pub start : Table
  pub starts : IsStored records start
  pub used : ℕ
  pub is :
      entry
      ≡ opened_entry (current_of records).copy (row_count start) (current_of records).pages used
      entry.calls
  pub least : log_bytes records ≤ used
  pub most : used ≤ log_bytes records + owed records

-- the event is not that of an opening, or this holds
abbrev pub IfOpened : Type 0 → Event → Type 0
IfOpened P (Opened copy rows pages used) = P
IfOpened P event = Unit {0}

-- so many calls were made from the start on, and after them the image as it read has P
abbrev pub ReadSo : (P : Image → Type 0) → (start calls : ℕ) → Told → Type 0
ReadSo P start calls t = (start + calls ≤ length t.calls) × P (read_at t (start + calls))

-- the entry is that of the opening of the log as the volume read after so many calls, which are
-- those up to the entry before, and then it read sound
abbrev pub IsOpeningThen : Capacities → (start before : ℕ) → Told → Entry → Type 0
IsOpeningThen capacities start before t entry =
    ReadSo (λ i. IsOpeningOf (log_of (log_pages capacities) i) entry × IsSound capacities i) start
    before t

-- the table is the one that the log stored as the volume read then
abbrev pub IsFoundThen : (pages start before : ℕ) → Told → Table → Type 0
IsFoundThen pages start before t table =
    ReadSo (λ i. IsStored (log_of pages i) table) start before t

-- each opening among these entries, which come after so many calls, is that of the log as the
-- volume read before its own calls, and it read sound
abbrev pub AreOpeningsFrom : Capacities → (start before : ℕ) → Told → List Entry → Type 0
AreOpeningsFrom capacities start before t [] = Unit {0}
AreOpeningsFrom capacities start before t (entry ∷ entries) =
    IfOpened (IsOpeningThen capacities start before t entry) entry.event
    × AreOpeningsFrom capacities start entry.calls t entries

-- the same of a trace
abbrev pub AreOpeningsSince : Capacities → (start : ℕ) → Told → List Entry → Type 0
AreOpeningsSince capacities start t trace = AreOpeningsFrom capacities start 0 t trace
