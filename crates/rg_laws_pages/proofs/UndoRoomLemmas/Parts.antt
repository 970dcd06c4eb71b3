-- Parts that meet a test, each in its turn: enough that each meets it on the pages as they stand,
-- where their places differ.
use Rattle.std.proofs.Common.{◌≡◌, ℕ, ◌≤◌, false, List, [], ◌∷◌, sym, subst}
use Rattle.rg_base.specs.declared.place.Place.{Place}
use Rattle.rg_base.specs.declared.row.Row.{Row as TableRow}
use Rattle.rg_home.specs.Slot.{Slot}
use Rattle.rg_base.specs.declared.part.Part.{Part}
use Rattle.rg_base.specs.Place.{same_place}
use Rattle.rg_home.specs.Pages.{slot_of, wrote, made, place_of}
use Rattle.rg_home.proofs.Writes.{wrote_there}

module _ (P : Place → Slot → Slot → Type 0) (owner : ℕ) (after : TableRow) where
  -- in turn
  abbrev pub InTurn : List (List Slot) → List Part → Type 0
  InTurn pages [] = Unit {0}
  InTurn pages (x ∷ parts) =
      (1 ≤ x.page) × P (place_of x) (slot_of pages (place_of x)) (made owner after x.op)
      × InTurn (wrote pages (place_of x) (made owner after x.op)) parts

  abbrev pub Off : Place → List Part → Type 0
  Off p [] = Unit {0}
  Off p (x ∷ parts) = (same_place (place_of x) p ≡ false) × Off p parts

  -- as the pages stand, at places that differ
  abbrev pub Each : List (List Slot) → List Part → Type 0
  Each pages [] = Unit {0}
  Each pages (x ∷ parts) =
      (1 ≤ x.page) × P (place_of x) (slot_of pages (place_of x)) (made owner after x.op)
      × Off (place_of x) parts × Each pages parts

  moved : (pages : List (List Slot)) (p : Place) (s : Slot) (parts : List Part) → 1 ≤ p.page
      → Off p parts → Each pages parts → Each (wrote pages p s) parts
  moved pages p s [] low off each = tt
  moved pages p s (x ∷ parts) low off each = (
    each.0,
    subst (λ (t : Slot). P (place_of x) t (made owner after x.op))
        (sym (wrote_there pages p s low (place_of x) off.0)) each.1,
    each.2,
    moved pages p s parts low off.1 each.3,
  )

  pub in_turn : (pages : List (List Slot)) (parts : List Part) → Each pages parts
      → InTurn pages parts
  in_turn pages [] each = tt
  in_turn pages (x ∷ parts) each = (
    each.0,
    each.1,
    in_turn (wrote pages (place_of x) (made owner after x.op)) parts
        (moved pages (place_of x) (made owner after x.op) parts each.0 each.2 each.3),
  )
