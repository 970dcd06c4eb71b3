use Rattle.std.proofs.Common.{ℕ, List}
use Rattle.rg_base.specs.declared.place.Place.{Place}
use Rattle.rg_home.specs.Slot.{Slot}
use Rattle.rg_home.specs.Slot.{Free, Row, Pointer, Over, DeadRow, DeadPointer, DeadOver}
use Rattle.rg_home.proofs.NotFree.{any_owner}
use Rattle.rg_laws_pages.specs.UndoRoom.Dead.{DeadNamed}
use Rattle.rg_check.specs.PageTests.Ties.{DeadTiesAt}
use Rattle.rg_check.proofs.page_tests.laws.ties_law.Goals as goal

named_ties : (live : List ℕ) (at : Place → Slot) (p : Place) (s : Slot) → DeadNamed live at p s
    → DeadTiesAt live at p s
named_ties live at p Free h = tt
named_ties live at p (Row c r) h = tt
named_ties live at p (Pointer c o) h = tt
named_ties live at p (Over c r q) h = tt
named_ties live at p (DeadRow c u) h = tt
named_ties live at p (DeadPointer c o u) h = λ is_live. any_owner u p (at o) (h is_live)
named_ties live at p (DeadOver c q u) h = tt

pub returns : goal.returns
returns c = record {
  tied = λ live at all. ((λ p. (all p).0), λ p. (all p).1);
  none = λ live at tied names p. (tied p, named_ties live at p (at p) (names p));
}
