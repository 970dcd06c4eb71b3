use Rattle.std.proofs.Common.{◌≡◌, List, ℕ, Option, None, sym, subst}
use Rattle.rg_base.specs.declared.place.Place.{Place}
use Rattle.rg_base.specs.declared.row.Row.{Row as TableRow}
use Rattle.rg_home.specs.Able.{AllUndoable}
use Rattle.rg_home.specs.Pages.{slot_of}
use Rattle.rg_home.specs.Rows.{row_at}
use Rattle.rg_home.specs.Slot.{Slot}
use Rattle.rg_home.specs.Undo.{undone_all}
use Rattle.rg_home.specs.Written.{Written}
use Rattle.rg_laws_pages.specs.UndoRoom.Ready.{Ready, only, without, HasHome, NoHome}
use Rattle.rg_laws_pages.proofs.UndoRoomLemmas.Ready.{can_only, ready_rolled, rolled_rows}
use Rattle.rg_laws_pages.proofs.UndoRoomLemmas.Ready.{rolled_others}
use Rattle.rg_undo.specs.Unit.{writes_of}
use Rattle.rg_undo.proofs.laws.unit_law.Goals as goal

-- all that is said, of any list of writes
record Back (live : List ℕ) (pages : List (List Slot)) (cs : List Written)
    (base : Place → Option TableRow) (t : ℕ) (ws : List Written) : Type 0 where
  pub can : AllUndoable None (slot_of pages) ws
  pub ready : Ready live (undone_all pages ws) (without t cs) base
  pub homes : (p : Place) → HasHome t p cs → row_at (slot_of (undone_all pages ws)) p ≡ base p
  pub others : (p : Place) → NoHome p (only t cs)
      → row_at (slot_of (undone_all pages ws)) p ≡ row_at (slot_of pages) p

back : (live : List ℕ) (pages : List (List Slot)) (cs : List Written)
    (base : Place → Option TableRow) (t : ℕ)
    → Ready live pages cs base → Back live pages cs base t (only t cs)
back live pages cs base t r = record {
  can = can_only live base t (slot_of pages) cs r.can;
  ready = ready_rolled live base t pages cs r;
  homes = λ p h. rolled_rows live base t pages cs r p h;
  others = λ p h. rolled_others live base t pages cs r p h;
}

pub returns : goal.returns
returns c live pages cs base t entries r is =
    let b : Back live pages cs base t (writes_of entries) =
    subst (Back live pages cs base t) (sym is) (back live pages cs base t r) in
    record { can = b.can; ready = b.ready; homes = b.homes; others = b.others }
