-- Changes undone, each tested at its turn.
--
-- 1. Each Change is tested on the pages as undone so far, the latest first. The first that lacks
--    what its undo needs is named, and the pages are then those that it was tested on.
use Rattle.std.specs.Prelude.{◌≡◌, ◌++◌, ◌∷◌, [], ℕ, List, Option, Some, None, length}
use Rattle.rg_base.specs.declared.place.Place.{Place}
use Rattle.rg_home.specs.Able.{Proper}
use Rattle.rg_home.specs.Undo.{undone_all}
use Rattle.rg_page.specs.Content.{slots_of}
use Rattle.rg_page.specs.Seen.{Seen}
use Rattle.rg_laws_pages.specs.UndoRoom.Needed.{Needed, NeededInTurn}
use Rattle.rg_record.specs.declared.record.Record.{Record}
use Rattle.rg_space.specs.Summarized.{Summarized}
use Rattle.rg_space.specs.Space.{Agree}
use Rattle.rg_undo.specs.Undoing.{undo_record, written_of, UndidChange}
use Rattle.rg_undo.specs.Unit.{undo_records, writes_of}
use Rattle.rg_undo.specs.Wrote.{wrote_each, AllOnPages}
use Rattle.rg_check.specs.PageTests.Breach.{BreaksOf}
use Rattle.rg_check.specs.declared.page_tests.turns.Outcome.{Outcome}
use Rattle.rg_check.specs.declared.page_tests.turns.Outcome.TheVariants.{Undone, Breach}
use Rattle.rg_check.specs.declared.page_tests.turns.Turn.{Turn}
use Rattle.rg_check.specs.declared.page_tests.turns.Turn.TheVariants as Is

-- the summaries agree with the pages, which are proper
pub record IsProper (s : Seen) (summaries : Summarized) : Type 0 where
  pub agree : Agree s summaries
  pub proper : Proper (slots_of s.pages)

-- a Change had what it needs and was undone, by this record
pub record WasUndone
    (position back : ℕ) (a b : Seen) (summaries : Summarized) (entry undo : Record) : Type 0 where
  pub needed : Needed (slots_of a.pages) (written_of entry)
  pub undid : UndidChange position back a b summaries entry
  pub proper : Proper (slots_of b.pages)
  pub made : undo ≡ undo_record position back (slots_of a.pages) entry

-- what one turn does
abbrev pub TurnIs : (position back : ℕ) → (a b : Seen) → Summarized → Record → Turn → Type 0
TurnIs position back a b summaries entry (Is.Undone undo) =
    WasUndone position back a b summaries entry undo
TurnIs position back a b summaries entry (Is.Breach place) =
    BreaksOf (slots_of a.pages) (written_of entry) (Some place)

-- Each of these Changes had what it needs at its turn, and all were undone, by these records. The
-- pages are as these write them, with their positions, and as many as before.
pub record WereUndone
    (position back : ℕ) (a b : Seen) (summaries : Summarized) (entries undos : List Record)
    : Type 0 where
  pub needed : NeededInTurn (slots_of a.pages) (writes_of entries)
  pub slots : slots_of b.pages ≡ undone_all (slots_of a.pages) (writes_of entries)
  pub wrote : b.pages ≡ wrote_each a.copy a.pages undos
  pub there : AllOnPages (length a.pages) undos
  pub proper : Proper (slots_of b.pages)
  pub count : length b.pages ≡ length a.pages
  pub agree : Agree b summaries
  pub made : undos ≡ undo_records position back (slots_of a.pages) entries

-- the first ones of these Changes had what they need, and were undone; the next one lacks it, and
-- this is the place to name
pub record LacksAt (a : Seen) (entries : List Record) (place : Place) : Type 0 where
  pub done : List Record
  pub entry : Record
  pub rest : List Record
  pub is : entries ≡ done ++ entry ∷ rest
  pub needed : NeededInTurn (slots_of a.pages) (writes_of done)
  pub breach :
      BreaksOf (undone_all (slots_of a.pages) (writes_of done)) (written_of entry) (Some place)

-- what all turns do
abbrev pub OutcomeIs : (position back : ℕ) → (a b : Seen) → Summarized → List Record → Outcome
    → Type 0
OutcomeIs position back a b summaries entries (Undone undos) =
    WereUndone position back a b summaries entries undos.items
OutcomeIs position back a b summaries entries (Breach place) = LacksAt a entries place

-- the first of these records, if there is one
abbrev pub first_of : List Record → Option Record
first_of [] = None
first_of (entry ∷ entries) = Some entry
