-- The records of a log, read as writes by key.
--
-- 1. A Change is a write of the key of its row before, and then one of the key of its row after,
--    each to the row after. Its parts are left out: the pages after redo have them.
-- 2. A Commit is itself. No other record is read as anything.
use Rattle.std.specs.Prelude.{◌≤◌, ◌++◌, ℕ, List, [], ◌∷◌, Option, Some, None}
use Rattle.rg_base.specs.declared.place.Place.{Place}
use Rattle.rg_base.specs.declared.row.Row.{Row}
use Rattle.rg_record.specs.declared.record.Record.{Record}
use Rattle.rg_record.specs.declared.record.Kind.{Kind}
use Rattle.rg_record.specs.declared.record.Kind.TheVariants as kind
use Rattle.rg_laws_log.specs.LogState.Act.{Act}
use Rattle.rg_laws_log.specs.LogState.Act.{Change, Commit}
use Rattle.rg_laws_log.specs.LogState.Write.{write_of}

-- a write of the key of this row, if there is one
abbrev pub keyed_write : ℕ → Place → Option Row → Option Row → Option Row → List Act
keyed_write t home before after None = []
keyed_write t home before after (Some row) =
    Change (record (write_of t home before after []) { key = row.key }) ∷ []

-- a record of this kind, of unit t, the latest write first
abbrev pub keyed_of : ℕ → Kind → List Act
keyed_of t (kind.Change home before after parts) =
    keyed_write t home before after after ++ keyed_write t home before after before
keyed_of t (kind.Undo next home after parts) = []
keyed_of t kind.Commit = Commit t ∷ []
keyed_of t kind.RolledBack = []
keyed_of t (kind.Purge parts) = []
keyed_of t (kind.Switch copy count) = []

-- records that are listed oldest first, as acts that are listed latest first
abbrev pub keyed_acts : List Record → List Act
keyed_acts [] = []
keyed_acts (entry ∷ rs) = keyed_acts rs ++ keyed_of entry.tran.0 entry.kind

-- no record is of a transaction above this number
abbrev pub TransBelow : ℕ → List Record → Type 0
TransBelow top [] = Unit {0}
TransBelow top (entry ∷ rs) = (entry.tran.0 ≤ top) × TransBelow top rs

-- an Undo, or the RolledBack after the last of them
abbrev pub TakesBack : Kind → Type 0
TakesBack (kind.Change home before after parts) = ⊥
TakesBack (kind.Undo next home after parts) = Unit {0}
TakesBack kind.Commit = ⊥
TakesBack kind.RolledBack = Unit {0}
TakesBack (kind.Purge parts) = ⊥
TakesBack (kind.Switch copy count) = ⊥

-- all of these are so
abbrev pub AllTakeBack : List Record → Type 0
AllTakeBack [] = Unit {0}
AllTakeBack (entry ∷ rs) = TakesBack entry.kind × AllTakeBack rs
