-- What the log of an engine stores.
--
-- 1. Whatever lawful records follow those that the log had when the engine began, the whole log
--    stores the rows that are committed then.
-- 2. What is forced stores what the whole log stores, and so does any part of the log that has all
--    that is forced: while the engine is up no Commit waits to be forced.
-- 3. A record that is no Commit leaves what is stored as it is.
use Rattle.std.specs.Prelude.{◌≡◌, ◌≤◌, ◌++◌, ℕ, List, [], ◌∷◌, length, take}
use Rattle.rg_image.specs.Meaning.{stored}
use Rattle.rg_laws_log.specs.LogState.Act.{Act, LogState, state}
use Rattle.rg_laws_log.specs.LogState.Act.{Purge, Change, Undo, Commit, RollBack, Switch}
use Rattle.rg_laws_log.specs.LogState.Consistent.{stored_of}
use Rattle.rg_laws_log.specs.LogState.Lawful.{Runs}
use Rattle.rg_laws_log.specs.LogState.Records.{acts_of}
use Rattle.rg_log.specs.Kept.{Listed}
use Rattle.rg_model.specs.State.{Table, row_of}
use Rattle.rg_record.specs.declared.record.Record.{Record}
use Rattle.rg_engine.specs.declared.engine.Engine.{Engine}

-- these records store the rows of a table
abbrev pub IsStored : List Record → Table → Type 0
IsStored records table = (k : ℕ) → row_of table k ≡ stored records k

-- whatever lawful records follow these, all of them store what is committed in the state that is
-- left
abbrev pub StoresCommitted : (limit : ℕ) → (first : LogState) → List Record → Type 0
StoresCommitted limit first old =
    (more : List Record) → Runs limit first (acts_of [] more) → (k : ℕ)
    → stored (old ++ more) k ≡ stored_of (state first (acts_of [] more)) k

-- none of these is a Commit
abbrev pub IsQuiet : List Act → Type 0
IsQuiet [] = Unit {0}
IsQuiet (Purge parts ∷ acts) = IsQuiet acts
IsQuiet (Change w ∷ acts) = IsQuiet acts
IsQuiet (Undo t home after parts ∷ acts) = IsQuiet acts
IsQuiet (Commit t ∷ acts) = ⊥
IsQuiet (RollBack t ∷ acts) = IsQuiet acts
IsQuiet (Switch pages ∷ acts) = IsQuiet acts

-- whatever part of the log is left that has all that is forced, it stores what the whole log does
pub record IsSettled (log : Listed) : Type 0 where
  pub within : log.forced ≤ length log.records
  pub same :
      (n : ℕ) → log.forced ≤ n → n ≤ length log.records → (k : ℕ)
      → stored (take n log.records) k ≡ stored log.records k

-- as many of the records are those that the engine began with, as many bytes are set aside for the
-- utility, as much of the log is forced, and its set has as many pages
pub record SameBase (old new : Engine) : Type 0 where
  pub opened : new.opened ≡ old.opened
  pub set_aside : new.set_aside ≡ old.set_aside
  pub forced : new.log.forced ≡ old.log.forced
  pub pages : new.log.pages ≡ old.log.pages

-- records were appended
pub record Grows (old new : Listed) : Type 0 where
  pub more : List Record
  pub records : new.records ≡ old.records ++ more
  pub pages : new.pages ≡ old.pages
