-- The records that an engine appends, one after another.
--
-- 1. Each has the next position. It is of a transaction, and names the position of that
--    transaction's last record, or 0 where it is the first.
-- 2. An Undo names the record that the latest Change that is left names. So the next Undo goes on
--    from there.
-- 3. A Purge is of no transaction. No record is a Switch.
-- 4. The pages that it names are within the copy's set. Its parts are on pages that are there, or
--    on the next one.
-- 5. The log has room for it, and for the end of each open transaction.
use Rattle.std.specs.Prelude.{◌≡◌, ◌≤◌, ◌+◌, ◌++◌, ℕ, List, [], ◌∷◌, length}
use Rattle.std.specs.List.{AllByRecursion}
use Rattle.rg_record.specs.Applied.{parts_of}
use Rattle.rg_record.specs.declared.record.Kind.{Kind}
use Rattle.rg_record.specs.declared.record.Kind.TheVariants.{Change, Undo, Commit, RolledBack}
use Rattle.rg_record.specs.declared.record.Kind.TheVariants.{Purge, Switch}
use Rattle.rg_record.specs.declared.record.Record.{Record}
use Rattle.rg_image.specs.Meaning.{current_of}
use Rattle.rg_image.specs.Rules.{HasSpace, IsPageOf, PartIn, last_position, of_tran}
use Rattle.rg_laws_crash.specs.NewestPages.Newest.{AllNear}
use Rattle.rg_check.specs.OpenUnits.Unended.{left_of}

-- the record is of a transaction, and names its last record before
pub record IsLinked (before : List Record) (entry : Record) : Type 0 where
  pub some : 1 ≤ entry.tran.0
  pub back : entry.back.0 ≡ last_position 0 (of_tran entry.tran.0 before)

-- this is the position that the first of these Changes names
abbrev pub IsFirstBack : List Record → (next : ℕ) → Type 0
IsFirstBack [] next = ⊥
IsFirstBack (entry ∷ entries) next = next ≡ entry.back.0

-- what a record of each kind names of those before it
abbrev pub Links : List Record → Record → Kind → Type 0
Links before entry (Change home row after parts) = IsLinked before entry
Links before entry (Undo next home after parts) =
    IsLinked before entry × IsFirstBack (left_of entry.tran.0 before) next.0
Links before entry Commit = IsLinked before entry
Links before entry RolledBack = IsLinked before entry
Links before entry (Purge parts) = entry.tran.0 ≡ 0
Links before entry (Switch copy pages) = ⊥

-- the pages that it names are 1 to `limit`
abbrev pub NamesWithin : (limit : ℕ) → Kind → Type 0
NamesWithin limit (Change home before after parts) =
    IsPageOf limit home.page × AllByRecursion (PartIn limit) parts
NamesWithin limit (Undo next home after parts) =
    IsPageOf limit home.page × AllByRecursion (PartIn limit) parts
NamesWithin limit Commit = Unit {0}
NamesWithin limit RolledBack = Unit {0}
NamesWithin limit (Purge parts) = AllByRecursion (PartIn limit) parts
NamesWithin limit (Switch copy pages) = Unit {0}

-- a record that may be appended to these, where the copy may have so many pages, and the log has
-- so many
pub record IsNext (limit pages : ℕ) (before : List Record) (entry : Record) : Type 0 where
  pub position : entry.position.0 ≡ length before + 1
  pub links : Links before entry entry.kind
  pub names : NamesWithin limit entry.kind
  pub near : AllNear (current_of before).pages (parts_of entry.kind)
  pub space : HasSpace pages (before ++ entry ∷ [])

-- records that may be appended, one after another
abbrev pub AreNext : (limit pages : ℕ) → List Record → (more : List Record) → Type 0
AreNext limit pages before [] = Unit {0}
AreNext limit pages before (entry ∷ more) =
    IsNext limit pages before entry × AreNext limit pages (before ++ entry ∷ []) more
