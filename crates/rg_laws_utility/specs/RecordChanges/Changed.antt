-- The changes of rows that records make.
--
-- 1. A Change makes one, and so does an Undo: the row at its home is another one from then on, or
--    none. No other record makes any. A change has the position of its record.
use Rattle.std.specs.Prelude.{◌++◌, List, [], ◌∷◌, Option}
use Rattle.rg_base.specs.declared.change.Change.{Change}
use Rattle.rg_base.specs.declared.position.Position.{Position}
use Rattle.rg_base.specs.declared.row.Row.{Row}
use Rattle.rg_record.specs.declared.record.Record.{Record}
use Rattle.rg_record.specs.declared.record.Kind.{Kind}
use Rattle.rg_record.specs.declared.record.Kind.TheVariants as kind

abbrev pub changes_at : Position → Kind → List Change
changes_at position (kind.Change home before after parts) =
    record { position = position; home = home; after = after } ∷ []
changes_at position (kind.Undo next home after parts) =
    record { position = position; home = home; after = after } ∷ []
changes_at position kind.Commit = []
changes_at position kind.RolledBack = []
changes_at position (kind.Purge parts) = []
changes_at position (kind.Switch copy pages) = []

-- those of records, in order
abbrev pub changes_in : List Record → List Change
changes_in [] = []
changes_in (entry ∷ records) = changes_at entry.position entry.kind ++ changes_in records

-- the rows of changes
abbrev pub rows_after : List Change → List (Option Row)
rows_after [] = []
rows_after (change ∷ changes) = change.after ∷ rows_after changes
