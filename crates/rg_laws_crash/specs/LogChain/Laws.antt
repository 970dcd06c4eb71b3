-- What holds of records that are appended one after another.
--
-- 1. Where each is lawful, they tell the state that they leave (`RecordTells`, `RecordsTell`).
-- 2. Each follows from those before it, as a sound log asks (`RecordFollows`). So the whole log is
--    a chain (`RecordsFollow`), and so is each part of it from the first record on (`ChainFront`).
-- 3. Each part of it leaves room for the end of each open transaction (`FrontsHaveSpace`).
-- 4. What ending the open transactions takes grows with each Change and shrinks with each Undo and
--    each end (`Owes`).
use Rattle.std.specs.Prelude.{◌≡◌, ◌≤◌, ◌+◌, ◌*◌, ◌==◌, ◌++◌, ℕ, true, List, [], ◌∷◌, length, take}
use Rattle.std.specs.Prelude.{if◌then◌else◌}
use Rattle.rg_image.specs.Meaning.{current_of}
use Rattle.rg_image.specs.Rules.{HasSpace, IsChain, IsChained, IsOfTran, copy_capacity, is_end}
use Rattle.rg_image.specs.Rules.{is_undo, of_tran, owed}
use Rattle.rg_laws_log.specs.LogState.Act.{LogState, state, step}
use Rattle.rg_laws_log.specs.LogState.Consistent.{IsConsistent}
use Rattle.rg_laws_log.specs.LogState.Lawful.{Lawful, Runs}
use Rattle.rg_laws_log.specs.LogState.Records.{act_of, acts_of}
use Rattle.rg_outside.specs.Capacities.{Capacities}
use Rattle.rg_record.specs.declared.record.Record.{Record}
use Rattle.rg_undo.specs.Undoing.{is_change}
use Rattle.rg_check.specs.OpenUnits.Unended.{left_of}
use Rattle.rg_laws_crash.specs.LogChain.Next.{AreNext, IsNext}
use Rattle.rg_laws_crash.specs.LogChain.Tells.{Tells}

abbrev pub RecordTells : Type 0
RecordTells =
    (limit pages : ℕ) (rs : List Record) (entry : Record) (s : LogState) → Tells rs s
    → IsConsistent limit s → Lawful limit s (act_of [] entry) → IsNext limit pages rs entry
    → Tells (rs ++ entry ∷ []) (step s (act_of [] entry))

abbrev pub RecordsTell : Type 0
RecordsTell =
    (limit pages : ℕ) (rs more : List Record) (s : LogState) → Tells rs s
    → IsConsistent limit s → Runs limit s (acts_of [] more) → AreNext limit pages rs more
    → Tells (rs ++ more) (state s (acts_of [] more))

abbrev pub RecordFollows : Type 0
RecordFollows =
    (capacities : Capacities) (limit pages : ℕ) (rs : List Record) (entry : Record)
    (s : LogState) → Tells rs s → IsConsistent limit s → Lawful limit s (act_of [] entry)
    → IsNext limit pages rs entry → copy_capacity capacities (current_of rs).copy ≡ limit
    → IsChained capacities rs entry

abbrev pub RecordsFollow : Type 0
RecordsFollow =
    (capacities : Capacities) (limit pages : ℕ) (rs more : List Record) (s : LogState)
    → Tells rs s → IsConsistent limit s → Runs limit s (acts_of [] more)
    → AreNext limit pages rs more → copy_capacity capacities (current_of rs).copy ≡ limit
    → IsChain capacities rs → IsChain capacities (rs ++ more)

abbrev pub ChainFront : Type 0
ChainFront =
    (capacities : Capacities) (rs more : List Record) → IsChain capacities (rs ++ more)
    → IsChain capacities rs

abbrev pub FrontsHaveSpace : Type 0
FrontsHaveSpace =
    (limit pages : ℕ) (rs more : List Record) → HasSpace pages rs
    → AreNext limit pages rs more → (n : ℕ) → HasSpace pages (rs ++ take n more)

-- what is owed after one more record of a transaction, or after a Purge
pub record Owes : Type 0 where
  pub change :
      (rs : List Record) (entry : Record) → IsOfTran rs entry → is_change entry.kind ≡ true
      → owed (rs ++ entry ∷ [])
      ≡ owed rs + 911 + (if length (of_tran entry.tran.0 rs) == 0 then 23 else 0)
  pub undo :
      (rs : List Record) (entry : Record) → IsOfTran rs entry → is_undo entry.kind ≡ true
      → 1 ≤ length (left_of entry.tran.0 rs) → owed (rs ++ entry ∷ []) + 911 ≡ owed rs
  pub end :
      (rs : List Record) (entry : Record) → IsOfTran rs entry → is_end entry.kind ≡ true
      → 1 ≤ length (of_tran entry.tran.0 rs)
      → owed (rs ++ entry ∷ []) + (911 * length (left_of entry.tran.0 rs) + 23) ≡ owed rs
  pub none :
      (rs : List Record) (entry : Record) → entry.tran.0 ≡ 0 → owed (rs ++ entry ∷ []) ≡ owed rs
