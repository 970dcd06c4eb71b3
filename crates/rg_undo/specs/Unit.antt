-- A unit undone: all of its Changes, the latest first.
use Rattle.std.specs.Prelude.{◌≡◌, ℕ, ◌+◌, List, [], ◌∷◌, None, length, map}
use Rattle.rg_base.specs.declared.change.Change.{Change}
use Rattle.rg_base.specs.declared.place.Place.{Place}
use Rattle.rg_home.specs.Able.{AllUndoable, Proper}
use Rattle.rg_home.specs.Pages.{slot_of}
use Rattle.rg_home.specs.Rows.{row_at}
use Rattle.rg_home.specs.Slot.{Slot}
use Rattle.rg_home.specs.Undo.{undone, undone_all, taken_back}
use Rattle.rg_home.specs.Written.{Written}
use Rattle.rg_page.specs.Content.{slots_of}
use Rattle.rg_page.specs.Seen.{Seen}
use Rattle.rg_record.specs.declared.record.Record.{Record}
use Rattle.rg_space.specs.Summarized.{Summarized}
use Rattle.rg_space.specs.Space.{Agree}
use Rattle.rg_undo.specs.Undoing.{written_of, undo_record}
use Rattle.rg_undo.specs.Wrote.{wrote_each, AllOnPages}

-- the writes of these records
abbrev pub writes_of : List Record → List Written
writes_of entries = map written_of entries

-- The records that undo these, the latest first. Their positions count up from this one, and the
-- back of each is the position before.
abbrev pub undo_records : (position back : ℕ) → List (List Slot) → List Record → List Record
undo_records position back slots [] = []
undo_records position back slots (entry ∷ entries) =
    undo_record position back slots entry
    ∷ undo_records (position + 1) position (undone slots (written_of entry)) entries

-- what the undo at this position makes of a row: the home has the row before again, or none
abbrev pub change_back : ℕ → Record → Change
change_back position entry = record {
  position = record { 0 = position };
  home = (written_of entry).home;
  after = (written_of entry).before;
}

-- the same of each, at positions from this one on
abbrev pub changes_back : ℕ → List Record → List Change
changes_back position [] = []
changes_back position (entry ∷ entries) =
    change_back position entry ∷ changes_back (position + 1) entries

-- the summaries agree with the pages, which are proper, and each of these Changes can be undone
pub record CanUndoUnit (s : Seen) (summaries : Summarized) (entries : List Record) : Type 0 where
  pub agree : Agree s summaries
  pub proper : Proper (slots_of s.pages)
  pub can : AllUndoable None (slot_of (slots_of s.pages)) (writes_of entries)

-- These Changes were undone, by records from this position on, on the pages that there were. These
-- are now as those records write them, with their positions. At each place is the row from before
-- the Changes.
pub record UndidUnit
    (position back : ℕ) (a b : Seen) (summaries : Summarized) (entries : List Record) : Type 0 where
  pub slots : slots_of b.pages ≡ undone_all (slots_of a.pages) (writes_of entries)
  pub wrote :
      b.pages
      ≡ wrote_each a.copy a.pages (undo_records position back (slots_of a.pages) entries)
  pub there :
      AllOnPages (length a.pages) (undo_records position back (slots_of a.pages) entries)
  pub rows :
      (p : Place) → row_at (slot_of (slots_of b.pages)) p
      ≡ taken_back (writes_of entries) p (row_at (slot_of (slots_of a.pages)) p)
  pub proper : Proper (slots_of b.pages)
  pub count : length b.pages ≡ length a.pages
  pub agree : Agree b summaries
