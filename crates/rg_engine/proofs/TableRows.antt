-- The table, made of the entries from the last to the first.
use Rattle.std.proofs.Common.{◌≡◌, ◌≤◌, ◌<◌, ◌+◌, ◌-◌, ℕ, false, List, Option, Some, None, Result}
use Rattle.std.proofs.Common.{Ok, Err, IfOk, length, drop, slice_index_or, sym, ◌∙◌, ap, arith}
use Rattle.std.specs.FinMap as map
use Rattle.std.specs.FinMap.{find, get-entries, get-from_entries, nat_cmp-IsAntisymmetric, same_map}
use Rattle.std.specs.List.{cons_option}
use Rattle.std.specs.Ordering.{nat_cmp}
use Rattle.std.proofs.lemmas.Cmp.{nat_cmp_total}
use Rattle.std.proofs.lemmas.List.{drop_more}
use Rattle.rg_base.specs.declared.no_memory.NoMemory.{NoMemory}
use Rattle.rg_base.specs.declared.place.Place.{Place}
use Rattle.rg_base.specs.declared.row.Row.{Row}
use Rattle.rg_home.specs.Pages.{slot_of}
use Rattle.rg_home.specs.Rows.{row_at}
use Rattle.rg_home.specs.Slot.{Slot}
use Rattle.rg_btree.proofs.IndexesLemmas.Tabled.{entries-keyed}
use Rattle.rg_btree.specs.Indexes.Listed.{keyed_rows, with_value}
use Rattle.rg_btree.specs.Indexes.Listings.{entries_of}
use Rattle.rg_index.specs.RisingPart.{IsRising-rising_part}
use Rattle.rg_laws_log.specs.LogState.Act.{LogState}
use Rattle.rg_home.specs.Table.{IsTable}
use Rattle.rg_model.specs.State.{State, Table, row_of}
use Rattle.rg_record.specs.declared.record.Record.{Record}
use Rattle.rg_stmt.specs.declared.event.Entry.{Entry}
use Rattle.rg_engine.specs.Engine.{slots_in}
use Rattle.rg_engine.specs.Shows.{Shows, left_by}
use Rattle.rg_engine.specs.Tabled.{EndsIn}
use Rattle.rg_engine.specs.Tabled.{EndsWithTable, TableRead}
use Rattle.rg_engine.specs.Wrote.{SameEngine}
use Rattle.rg_engine.specs.declared.engine.Engine.{Engine}
use Rattle.rg_engine.proofs.ReadsGo.{table}
use Rattle.rg_engine.proofs.WritesGo.{same_same}

module _ (old now new : Engine) (es : List (ℕ × Place)) (left : ℕ) (d : ℕ × Place) (some : 1 ≤ left)
    (within : left ≤ length es) (found : Table) (read : TableRead old now (drop left es) found)
    (same : SameEngine now new) where
  abbrev rows : Place → Option Row
  rows = row_at (slot_of (slots_in old))

  abbrev at : ℕ × Place
  at = slice_index_or es (left - 1) d

  next_low : left - 1 < length es
  next_low = omega arith

  back : (left - 1) + 1 ≡ left
  back = omega arith

  fewer : left - 1 ≤ length es
  fewer = omega arith

  next : keyed_rows rows (drop (left - 1) es)
      ≡ cons_option (with_value at.0 (rows at.1)) (keyed_rows rows (drop left es))
  next =
      ap (keyed_rows rows) (drop_more es (left - 1) d next_low)
      ∙ ap (λ (n : ℕ). cons_option (with_value at.0 (rows at.1)) (keyed_rows rows (drop n es))) back

  rows_now : (row : Option Row) → row ≡ row_at (slot_of (slots_in now)) at.1 → rows at.1 ≡ row
  rows_now row is =
      ap (λ (ps : List (List Slot)). row_at (slot_of ps) at.1) (sym read.same.slots) ∙ sym is

  -- a row is there
  pub table_some : (later : Table) (row : Row) → Some row ≡ row_at (slot_of (slots_in now)) at.1
      → later ≡ map.insert found at.0 row
      → (left - 1 ≤ length es) × TableRead old new (drop (left - 1) es) later
  table_some later row is e = (
    fewer,
    record {
      same = same_same old now new read.same same;
      rows =
          e ∙ ap (λ (t : Table). map.insert t at.0 row) read.rows
          ∙ sym
          (ap map.from_entries
          (next
          ∙
          ap (λ (o : Option Row). cons_option (with_value at.0 o) (keyed_rows rows (drop left es)))
          (rows_now (Some row) is)));
    },
  )

  pub table_none : (later : Table) → None ≡ row_at (slot_of (slots_in now)) at.1 → later ≡ found
      → (left - 1 ≤ length es) × TableRead old new (drop (left - 1) es) later
  table_none later is e = (
    fewer,
    record {
      same = same_same old now new read.same same;
      rows =
          e ∙ read.rows
          ∙ sym
          (ap map.from_entries
          (next
          ∙
          ap (λ (o : Option Row). cons_option (with_value at.0 o) (keyed_rows rows (drop left es)))
          (rows_now None is)));
    },
  )

-- all entries are read: this is the table
pub table_whole : (old new : Engine) (found : Table)
    → TableRead old new (entries_of old.indexes.keys) found → (st : State) (allowed : ℕ)
    → Shows st allowed old → found ≡ st.table
table_whole old new found read st allowed shows =
    read.rows ∙ same_map nat_cmp_total nat_cmp-IsAntisymmetric (map.from_entries keyed) st.table
    (λ k. get-from_entries nat_cmp_total keyed k ∙ ap (find nat_cmp k) (sym entries)
    ∙ sym (get-entries st.table k))
  where
    keyed : List (ℕ × Row)
    keyed = keyed_rows (row_at (slot_of (slots_in old))) (entries_of old.indexes.keys)

    s : LogState
    s = left_by shows.first old

    is : IsTable (row_at (slot_of s.pages)) (λ key. row_of st.table key)
    is = table st allowed old shows (record { 0 = 0 })

    entries : map.entries st.table ≡ keyed
    entries =
        entries-keyed (row_at (slot_of s.pages)) st.table (entries_of old.indexes.keys) is
        (IsRising-rising_part old.indexes.keys.entries) shows.by.indexes.keys
        ∙ ap
        (λ (ps : List (List Slot)). keyed_rows (row_at (slot_of ps)) (entries_of old.indexes.keys))
        (sym shows.by.slots)

-- a desk whose engine shows the last state of its entries
pub ends_with : (old : List Record) (copy : ℕ) (trace : List Entry) (engine : Engine) (last : State)
    (allowed : ℕ) → EndsIn old copy trace false last → Shows last allowed engine
    → (made : Result Table NoMemory)
    → IfOk made (λ found. (st : State) (allowed : ℕ) → Shows st allowed engine → found ≡ st.table)
    → IfOk made (EndsWithTable old copy trace)
ends_with old copy trace engine last allowed ends shows (Ok found) is =
    record { last = last; ends = ends; is = is last allowed shows }
ends_with old copy trace engine last allowed ends shows (Err fault) is = tt
