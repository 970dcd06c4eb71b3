-- The records that close the open units of a log.
--
-- 1. Units are closed by rising number: each has an Undo for each of its Changes that is left, the
--    latest first, and then a RolledBack.
-- 2. The Undos' positions count up, and each names the one before; the first names the unit's last
--    record. The RolledBack names the last of them.
use Rattle.std.specs.Prelude.{◌+◌, ◌++◌, ◌∷◌, ℕ, List, [], length}
use Rattle.rg_home.specs.Slot.{Slot}
use Rattle.rg_home.specs.Undo.{undone_all}
use Rattle.rg_image.specs.Rules.{last_position, of_tran}
use Rattle.rg_record.specs.declared.record.Kind.TheVariants.{RolledBack}
use Rattle.rg_record.specs.declared.record.Record.{Record}
use Rattle.rg_undo.specs.Unit.{undo_records, writes_of}
use Rattle.rg_check.specs.OpenUnits.Unended.{left_of, open_in}

-- the back of a unit's RolledBack: its last Undo, or its last record before where it has none
abbrev pub end_back : (last count : ℕ) → List Record → ℕ
end_back last count [] = last
end_back last count (entry ∷ entries) = count + length (entry ∷ entries)

-- the RolledBack of a unit whose last record is at `back`
abbrev pub rolled_back : (position back tran : ℕ) → Record
rolled_back position back tran = record {
  position = record { 0 = position };
  tran = record { 0 = tran };
  back = record { 0 = back };
  kind = RolledBack;
}

-- the records that close a unit of the log `rs` on these pages, after so many records
abbrev pub closing : (tran : ℕ) → List Record → List (List Slot) → (count : ℕ) → List Record
closing tran rs pages count =
    let last = last_position 0 (of_tran tran rs) in
    undo_records (count + 1) last pages (left_of tran rs)
    ++ rolled_back (count + length (left_of tran rs) + 1) (end_back last count (left_of tran rs))
    tran
    ∷ []

-- the records with those that close a unit
abbrev pub closed_by :
    (tran : ℕ) → List Record → List (List Slot) → List Record → List Record
closed_by tran rs pages records = records ++ closing tran rs pages (length records)

-- the same of several units, one after the other
abbrev pub all_closed :
    List ℕ → List Record → List (List Slot) → List Record → List Record
all_closed [] rs pages records = records
all_closed (t ∷ ts) rs pages records =
    all_closed ts rs (undone_all pages (writes_of (left_of t rs))) (closed_by t rs pages records)

-- a log with the records that close all its open units
abbrev pub closed_log : List Record → (pages : List (List Slot)) → List Record
closed_log rs pages = all_closed (open_in rs) rs pages rs
