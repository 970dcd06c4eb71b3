-- The record that undoes a Change, and what it makes of pages.
use Rattle.std.specs.Prelude.{◌≡◌, ℕ, Bool, true, false, List, [], ◌∷◌, None, length}
use Rattle.std.specs.List.{All}
use Rattle.rg_home.specs.Able.{Undoable, Proper}
use Rattle.rg_home.specs.Pages.{slot_of}
use Rattle.rg_home.specs.Slot.{Slot}
use Rattle.rg_home.specs.Undo.{planned_undo, undone}
use Rattle.rg_home.specs.Written.{Written}
use Rattle.rg_page.specs.Bare.{nowhere}
use Rattle.rg_page.specs.Content.{slots_of}
use Rattle.rg_page.specs.Seen.{Seen}
use Rattle.rg_record.specs.Applied.{parts_of}
use Rattle.rg_record.specs.declared.record.Kind.{Kind}
use Rattle.rg_record.specs.declared.record.Kind.TheVariants.{Change, Undo, Commit, RolledBack}
use Rattle.rg_record.specs.declared.record.Kind.TheVariants.{Purge, Switch}
use Rattle.rg_record.specs.declared.record.Record.{Record}
use Rattle.rg_space.specs.Carries.{AllThere}
use Rattle.rg_space.specs.Summarized.{Summarized}
use Rattle.rg_space.specs.Ready.{record_wrote}
use Rattle.rg_space.specs.Space.{Agree}

abbrev pub is_change : Kind → Bool
is_change (Change home before after parts) = true
is_change (Undo next home after parts) = false
is_change Commit = false
is_change RolledBack = false
is_change (Purge parts) = false
is_change (Switch copy pages) = false

-- each of these records is a Change
abbrev pub AreChanges : List Record → Type 0
AreChanges entries = All (λ (entry : Record). is_change entry.kind ≡ true) entries

-- no write
abbrev pub nothing_of : ℕ → Written
nothing_of owner = record { owner = owner; home = nowhere; before = None; parts = [] }

-- what a Change of this owner keeps of its write; other records keep none
abbrev pub written_in : ℕ → Kind → Written
written_in owner (Change home before after parts) =
    record { owner = owner; home = home; before = before; parts = parts }
written_in owner (Undo next home after parts) = nothing_of owner
written_in owner Commit = nothing_of owner
written_in owner RolledBack = nothing_of owner
written_in owner (Purge parts) = nothing_of owner
written_in owner (Switch copy pages) = nothing_of owner

abbrev pub written_of : Record → Written
written_of entry = written_in entry.tran.0 entry.kind

-- The record that undoes a Change of pages with these slots. It names the Change's back, so that a
-- later undo goes on from there.
abbrev pub undo_record : (position back : ℕ) → List (List Slot) → Record → Record
undo_record position back slots entry = record {
  position = record { 0 = position };
  tran = entry.tran;
  back = record { 0 = back };
  kind = Undo entry.back (written_of entry).home (written_of entry).before
      (planned_undo slots (written_of entry)).parts;
}

-- the summaries agree with the pages, which are proper, and this Change can be undone
pub record CanUndoChange (s : Seen) (summaries : Summarized) (entry : Record) : Type 0 where
  pub agree : Agree s summaries
  pub proper : Proper (slots_of s.pages)
  pub can : Undoable None (slot_of (slots_of s.pages)) (written_of entry)

-- This Change was undone, by the record at this position, on the pages that there were. These are
-- now as that record writes them, with their positions.
pub record UndidChange
    (position back : ℕ) (a b : Seen) (summaries : Summarized) (entry : Record) : Type 0 where
  pub slots : slots_of b.pages ≡ undone (slots_of a.pages) (written_of entry)
  pub wrote :
      b.pages
      ≡ record_wrote a.copy a.pages (undo_record position back (slots_of a.pages) entry)
  pub there :
      AllThere (length a.pages)
      (parts_of (undo_record position back (slots_of a.pages) entry).kind)
  pub count : length b.pages ≡ length a.pages
  pub agree : Agree b summaries

-- the first of these records, if there is one, is so
abbrev pub IfFirst : List Record → (Record → Type 0) → Type 0
IfFirst [] P = Unit {0}
IfFirst (entry ∷ entries) P = P entry

-- the records without the first
abbrev pub later_of : List Record → List Record
later_of [] = []
later_of (entry ∷ entries) = entries
