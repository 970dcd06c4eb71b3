-- What redoing a log makes of pages.
--
-- 1. The records after the last Switch are redone, one after another, on all pages.
-- 2. The log fails at the first record that does not fit the pages as those before it left them.
use Rattle.std.specs.Prelude.{◌≡◌, ◌≤◌, ◌⊎◌, ℕ, Bool, true, false, if◌then◌else◌, List, [], ◌∷◌}
use Rattle.std.specs.Prelude.{map}
use Rattle.std.specs.List.{All}
use Rattle.rg_outside.specs.Faults.{Rose}
use Rattle.rg_page.specs.Content.{Content}
use Rattle.rg_page.specs.Seen.{Seen}
use Rattle.rg_record.specs.Applied.{parts_of}
use Rattle.rg_record.specs.declared.record.Kind.{Kind}
use Rattle.rg_record.specs.declared.record.Kind.TheVariants.{Change, Undo, Commit, RolledBack}
use Rattle.rg_record.specs.declared.record.Kind.TheVariants.{Purge, Switch}
use Rattle.rg_record.specs.declared.record.Record.{Record}
use Rattle.rg_space.specs.Carries.{AllThere}
use Rattle.rg_space.specs.Redo.{RedoFits, redone}
use Rattle.rg_redo.specs.declared.fault.RedoFault.{RedoFault}
use Rattle.rg_redo.specs.declared.fault.RedoFault.TheVariants.{Unfit, Device}

abbrev pub is_switch : Kind → Bool
is_switch (Change home before after parts) = false
is_switch (Undo next home after parts) = false
is_switch Commit = false
is_switch RolledBack = false
is_switch (Purge parts) = false
is_switch (Switch copy pages) = true

-- what stands after the last Switch of these records, else what is kept
abbrev pub since_last : (kept : List Record) → List Record → List Record
since_last kept [] = kept
since_last kept (entry ∷ rs) = since_last (if is_switch entry.kind then rs else kept) rs

-- the records after the last Switch, or all
abbrev pub since_switch : List Record → List Record
since_switch rs = since_last rs rs

-- the pages once these records are redone
abbrev pub redone_all : List Record → List Content → List Content
redone_all [] pages = pages
redone_all (entry ∷ rs) pages = redone_all rs (map (redone entry) pages)

-- each record fits the pages, as those before it left them
abbrev pub AllRedoFit : List Record → List Content → Type 0
AllRedoFit [] pages = Unit {0}
AllRedoFit (entry ∷ rs) pages =
    All (RedoFits entry) pages × AllRedoFit rs (map (redone entry) pages)

-- the record with this position is the first that does not fit
abbrev pub FailsAt : (position : ℕ) → List Record → List Content → Type 0
FailsAt position [] pages = ⊥
FailsAt position (entry ∷ rs) pages =
    ((entry.position.0 ≡ position) × (All (RedoFits entry) pages → ⊥))
    ⊎ (All (RedoFits entry) pages × FailsAt position rs (map (redone entry) pages))

-- a record can be redone over so many pages: it names none but these, and is forced
pub record CanRedo (pages forced : ℕ) (entry : Record) : Type 0 where
  pub there : AllThere pages (parts_of entry.kind)
  pub is_forced : entry.position.0 ≤ forced

-- why a log was not redone: this record is the first that does not fit, where what was read is
-- sure; or a page could not be read
abbrev pub IsRedoFault : RedoFault → List Record → Seen → Seen → Type 0
IsRedoFault (Unfit position) rs a b = b.sure ≡ true → FailsAt position.0 rs a.pages
IsRedoFault Device rs a b = Rose a.faults b.faults
