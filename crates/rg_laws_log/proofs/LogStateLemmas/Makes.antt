-- What the parts of a write make of the pages keeps them ready.
use Rattle.std.proofs.Common.{◌≡◌, ℕ, Bool, true, false, List, [], ◌∷◌, Option, Some, refl, sym}
use Rattle.std.proofs.Common.{◌∙◌, ap, if◌then◌else◌}
use Rattle.rg_base.specs.declared.place.Place.{Place}
use Rattle.rg_base.specs.declared.row.Row.{Row as TableRow}
use Rattle.rg_home.specs.Slot.{Slot}
use Rattle.rg_base.specs.Place.{same_place}
use Rattle.rg_home.specs.Rows.{row_at}
use Rattle.rg_home.specs.Pages.{slot_of, row_or_empty}
use Rattle.rg_home.specs.Written.{Written}
use Rattle.rg_home.specs.Able.{IsLive, CanUndo, HomeOf, Proper}
use Rattle.rg_home.specs.Undo.{taken_back}
use Rattle.rg_base.proofs.SamePlace.{same_place-true}
use Rattle.rg_home.proofs.Fit.{applied_sound}
use Rattle.rg_home.proofs.Takes.{applied_held}
use Rattle.rg_laws_pages.specs.UndoRoom.Ready.{Ready}
use Rattle.rg_laws_pages.proofs.UndoRoomLemmas.Keep.{undoable_kept}
use Rattle.rg_laws_log.specs.LogState.Lawful.{pages_with, Makes}

module _ (limit : ℕ) (live : List ℕ) (pages : List (List Slot)) (c : Written)
    (after : Option TableRow) (m : Makes limit live pages c after) where
  pub makes_proper : Proper pages → Proper (pages_with pages c after)
  makes_proper proper = record {
    tied = m.changes.tied;
    sound = applied_sound c.owner (row_or_empty after) limit pages c.parts m.fits proper.sound;
    holds = applied_held c.owner after pages c.parts m.takes proper.holds;
  }

  others_kept : (units : List ℕ) (cs : List Written) → HomeOf c.owner c.home cs
      → CanUndo units (slot_of pages) cs → CanUndo units (slot_of (pages_with pages c after)) cs
  others_kept units [] others can = tt
  others_kept units (d ∷ cs) others can = (
    undoable_kept (Some d.owner) (slot_of pages) (slot_of (pages_with pages c after)) d
        (m.areas d.owner d.home others.0) can.0,
    can.1,
    others_kept units cs others.1 can.2,
  )

  row_before : (base : Place → Option TableRow) (cs : List Written)
      → ((p : Place) → taken_back cs p (row_at (slot_of pages) p) ≡ base p) → (p : Place)
      → taken_back (c ∷ cs) p (row_at (slot_of (pages_with pages c after)) p) ≡ base p
  row_before base cs back p = go (same_place p c.home) refl ∙ back p
    where
      go : (b : Bool) → same_place p c.home ≡ b
          → taken_back cs p (if b then c.before else row_at (slot_of (pages_with pages c after)) p)
          ≡ taken_back cs p (row_at (slot_of pages) p)
      go true e = ap (taken_back cs p)
          (m.before ∙ ap (row_at (slot_of pages)) (sym (same_place-true p c.home e)))
      go false e = ap (taken_back cs p) (m.changes.others p e)

  pub makes_ready : (units : List ℕ) (base : Place → Option TableRow) (cs : List Written)
      → Ready units pages cs base → HomeOf c.owner c.home cs → IsLive units c.owner
      → Ready units (pages_with pages c after) (c ∷ cs) base
  makes_ready units base cs r others lives = record {
    proper = makes_proper r.proper;
    can = (m.own, lives, others_kept units cs others r.can);
    apart = (others, r.apart);
    back = row_before base cs r.back;
  }
