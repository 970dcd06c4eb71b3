-- The empty table space, and one without live units.
use Rattle.std.proofs.Common.{ℕ, List, [], refl, sym, subst, arith}
use Rattle.rg_home.specs.Slot.{Slot}
use Rattle.rg_home.specs.Slots.{Fits, IsTrimmed}
use Rattle.rg_home.specs.Rows.{row_at, TiesAt}
use Rattle.rg_home.specs.Pages.{slot_of}
use Rattle.rg_home.specs.Able.{Holds, Proper}
use Rattle.rg_home.proofs.NoPages.{slot_none, page_none}
use Rattle.rg_laws_pages.specs.UndoRoom.Ready.{Ready}

pub proper_empty : Proper []
proper_empty = record {
  tied = λ p. subst (TiesAt (slot_of []) p) (sym (slot_none p)) tt;
  sound = record {
    trimmed = λ n. subst IsTrimmed (sym (page_none n)) refl;
    fits = λ n. subst Fits (sym (page_none n)) (none_fits tt);
  };
  holds = λ p. subst Holds (sym (slot_none p)) tt;
}
  where
    none_fits : Unit {0} → Fits []
    none_fits u = omega arith

pub ready_alone : (live : List ℕ) (pages : List (List Slot)) → Proper pages
    → Ready live pages [] (row_at (slot_of pages))
ready_alone live pages proper = record { proper = proper; can = tt; apart = tt; back = λ p. refl }
