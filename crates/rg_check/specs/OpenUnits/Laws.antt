-- What is known of the open transactions of a log, and of what is left of them to undo.
--
-- 1. What is left of a transaction are Changes of it, each a record of the log (`LeftAreChanges`,
--    `LeftAreOf`), written by it (`LeftOwners`), and as many as are not undone (`LeftCount`).
-- 2. The open transactions are those listed (`OpenAre`, `OpenAll`). Their numbers are between 1 and
--    the greatest of the log (`OpenBelow`), and no record has a greater one
--    (`TransBelowGreatest`).
-- 3. The log reserves what undoing the listed transactions takes (`OpenOwed`).
use Rattle.std.specs.Prelude.{◌≡◌, ◌≤◌, ℕ, false, List, length}
use Rattle.std.specs.List.{Contains}
use Rattle.rg_home.specs.Written.{Written}
use Rattle.rg_record.specs.declared.record.Record.{Record}
use Rattle.rg_image.specs.Rules.{greatest_tran, is_ended, not_undone, owed, IsOpen}
use Rattle.rg_undo.specs.Undoing.{AreChanges}
use Rattle.rg_undo.specs.Unit.{writes_of}
use Rattle.rg_check.specs.OpenUnits.Unended.{left_of, open_in, owed_for}

abbrev pub LeftAreChanges : Type 0
LeftAreChanges = (tran : ℕ) (rs : List Record) → AreChanges (left_of tran rs)

abbrev pub LeftAreOf : Type 0
LeftAreOf =
    (tran : ℕ) (rs : List Record) (entry : Record) → Contains (left_of tran rs) entry
    → (entry.tran.0 ≡ tran) × Contains rs entry

abbrev pub LeftCount : Type 0
LeftCount = (tran : ℕ) (rs : List Record) → length (left_of tran rs) ≡ length (not_undone tran rs)

abbrev pub LeftOwners : Type 0
LeftOwners =
    (tran : ℕ) (rs : List Record) (c : Written) → Contains (writes_of (left_of tran rs)) c
    → c.owner ≡ tran

abbrev pub OpenOwed : Type 0
OpenOwed = (rs : List Record) → owed_for (open_in rs) rs ≡ owed rs

abbrev pub OpenBelow : Type 0
OpenBelow =
    (rs : List Record) (t : ℕ) → Contains (open_in rs) t
    → (1 ≤ t) × (t ≤ greatest_tran rs) × (is_ended t rs ≡ false)

abbrev pub OpenAre : Type 0
OpenAre = (rs : List Record) (t : ℕ) → Contains (open_in rs) t → IsOpen t rs

abbrev pub OpenAll : Type 0
OpenAll = (rs : List Record) (t : ℕ) → IsOpen t rs → Contains (open_in rs) t

abbrev pub TransBelowGreatest : Type 0
TransBelowGreatest =
    (rs : List Record) (entry : Record) → Contains rs entry → entry.tran.0 ≤ greatest_tran rs
