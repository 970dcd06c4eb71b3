-- What the records of a log say of the table.
use Rattle.std.specs.Prelude.{ℕ, max, ◌==◌, ◌&&◌, ◌||◌, Bool, true, false, if◌then◌else◌, List, []}
use Rattle.std.specs.Prelude.{◌∷◌, Option, Some, None}
use Rattle.std.specs.List.{list_any}
use Rattle.rg_base.specs.declared.part.Part.{Part}
use Rattle.rg_base.specs.declared.row.Row.{Row}
use Rattle.rg_record.specs.declared.record.Kind.{Kind}
use Rattle.rg_record.specs.declared.record.Kind.TheVariants.{Change, Undo, Commit, RolledBack}
use Rattle.rg_record.specs.declared.record.Kind.TheVariants.{Purge, Switch}
use Rattle.rg_record.specs.declared.record.Record.{Record}

-- a number of pages, raised to the greatest page of the parts
abbrev pub raised : ℕ → List Part → ℕ
raised pages [] = pages
raised pages (part ∷ parts) = raised (max pages part.page) parts

-- the current copy and its number of pages
pub record Current : Type 0 where
  pub copy : ℕ
  pub pages : ℕ

abbrev pub current_after : Current → Kind → Current
current_after now (Change home before after parts) =
    record { copy = now.copy; pages = raised now.pages parts }
current_after now (Undo next home after parts) =
    record { copy = now.copy; pages = raised now.pages parts }
current_after now Commit = now
current_after now RolledBack = now
current_after now (Purge parts) = record { copy = now.copy; pages = raised now.pages parts }
current_after now (Switch copy pages) = record { copy = copy; pages = pages }

abbrev pub current_from : Current → List Record → Current
current_from now [] = now
current_from now (entry ∷ rs) = current_from (current_after now entry.kind) rs

-- The copy of the last Switch, or 1; and the pages of that Switch, or 0, raised to the greatest
-- page of a later part.
abbrev pub current_of : List Record → Current
current_of rs = current_from (record { copy = 1; pages = 0 }) rs

-- whether this is the end of that transaction, with its writes kept
abbrev pub is_commit : Kind → Bool
is_commit Commit = true
is_commit (Change home before after parts) = false
is_commit (Undo next home after parts) = false
is_commit RolledBack = false
is_commit (Purge parts) = false
is_commit (Switch copy pages) = false

abbrev pub is_committed : List Record → ℕ → Bool
is_committed log tran = list_any (λ entry. is_commit entry.kind && (entry.tran.0 == tran)) log

abbrev pub has_key : ℕ → Option Row → Bool
has_key key None = false
has_key key (Some row) = row.key == key

-- what a Change that names the key makes of its row, where there is such a Change
abbrev pub made_of : ℕ → Kind → Option (Option Row)
made_of key (Change home before after parts) =
    if has_key key before || has_key key after then Some after else None
made_of key (Undo next home after parts) = None
made_of key Commit = None
made_of key RolledBack = None
made_of key (Purge parts) = None
made_of key (Switch copy pages) = None

abbrev pub or_before : Option (Option Row) → Option (Option Row) → Option (Option Row)
or_before (Some last) before = Some last
or_before None before = before

-- the last Change of a committed transaction that names the key
abbrev pub last_made : List Record → List Record → ℕ → Option (Option Row)
last_made log [] key = None
last_made log (entry ∷ rs) key =
    or_before (last_made log rs key)
    (if is_committed log entry.tran.0 then made_of key entry.kind else None)

abbrev pub row_made : Option (Option Row) → Option Row
row_made None = None
row_made (Some row) = row

-- The stored table: of each key the row after the last Change that names it, in its row before or
-- after, and whose transaction was committed; none where there is no such Change.
abbrev pub stored : List Record → ℕ → Option Row
stored log key = row_made (last_made log log key)
