-- The acts of records.
--
-- 1. A record's act has all of it but its position and its back. A write's key is that of its row
--    after, or else of its row before.
-- 2. Records are listed oldest first, and acts latest first: a record appended is an act before.
-- 3. A Switch record names a copy. Its pages are not in the record, so they are given beside it.
use Rattle.std.specs.Prelude.{ℕ, List, map, reverse}
use Rattle.rg_record.specs.declared.record.Record.{Record}
use Rattle.rg_record.specs.declared.record.Kind.{Kind}
use Rattle.rg_record.specs.declared.record.Kind.TheVariants as kind
use Rattle.rg_home.specs.Slot.{Slot}
use Rattle.rg_laws_log.specs.LogState.Write.{write_of}
use Rattle.rg_laws_log.specs.LogState.Act.{Act}
use Rattle.rg_laws_log.specs.LogState.Act.{Purge, Change, Undo, Commit, RollBack, Switch}

-- what a record of this kind does, of unit t; a Switch brings these pages
abbrev pub act_of_kind : List (List Slot) → ℕ → Kind → Act
act_of_kind pages t (kind.Change home before after parts) =
    Change (write_of t home before after parts)
act_of_kind pages t (kind.Undo next home after parts) = Undo t home after parts
act_of_kind pages t kind.Commit = Commit t
act_of_kind pages t kind.RolledBack = RollBack t
act_of_kind pages t (kind.Purge parts) = Purge parts
act_of_kind pages t (kind.Switch copy count) = Switch pages

-- what a record does; a Switch brings these pages
abbrev pub act_of : List (List Slot) → Record → Act
act_of pages entry = act_of_kind pages entry.tran.0 entry.kind

-- what records do that are listed oldest first, the latest first
abbrev pub acts_of : List (List Slot) → List Record → List Act
acts_of pages records = reverse (map (act_of pages) records)
