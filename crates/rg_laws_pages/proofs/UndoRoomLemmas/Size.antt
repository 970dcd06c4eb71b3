-- Parts that reuse areas at their sizes fit, whatever else the pages hold.
use Rattle.std.proofs.Common.{◌≡◌, ℕ, ◌≤◌, List, [], ◌∷◌, length, refl, ◌∙◌, arith}
use Rattle.rg_base.specs.declared.place.Place.{Place}
use Rattle.rg_base.specs.declared.row.Row.{Row as TableRow}
use Rattle.rg_home.specs.Slot.{Slot}
use Rattle.rg_home.specs.Slots.{placed, Fits}
use Rattle.rg_base.specs.declared.part.Part.{Part}
use Rattle.rg_home.specs.Pages.{page_at, slot_of, wrote, made, applied, FitsAll, Sound, place_of}
use Rattle.rg_home.proofs.PageLists.{wrote-length}
use Rattle.rg_home.proofs.Range.{slot_below, page_within}
use Rattle.rg_home.proofs.Fit.{wrote_sound}
use Rattle.rg_home.proofs.Full.{sized_fits}
use Rattle.rg_home.proofs.Takes.{held_wrote}
use Rattle.rg_home.specs.Able.{AllHold}
use Rattle.rg_laws_pages.proofs.UndoRoomLemmas.Parts.{InTurn}
use Rattle.rg_laws_pages.proofs.UndoRoomLemmas.Shape.{Reuses}

module _ (t : ℕ) (after : TableRow) (home : Place) (limit : ℕ) where
  pub reuses_fit : (pages : List (List Slot)) (parts : List Part)
      → InTurn (Reuses t home) t after pages parts → Sound pages → length pages ≤ limit
      → FitsAll t after limit pages parts
  reuses_fit pages [] r sound l = tt
  reuses_fit pages (x ∷ parts) r sound l =
      let within = page_within pages x.page x.slot r.1.0 in
      let below = slot_below (page_at pages x.page) x.slot r.1.0 in
      let fit : Fits (placed (page_at pages x.page) x.slot (made t after x.op)) =
      sized_fits (page_at pages x.page) x.slot (made t after x.op) below
      (omega (arith, sound.fits x.page, r.1.1)) in (
        r.0,
        omega (arith, within.1, l),
        fit,
        reuses_fit (wrote pages (place_of x) (made t after x.op)) parts r.2
            (wrote_sound pages x.page x.slot (made t after x.op) r.0 fit sound)
            (omega (arith, l, wrote-length pages x.page x.slot (made t after x.op) within.1)),
      )

  -- no page is added
  pub reuses_length : (pages : List (List Slot)) (parts : List Part)
      → InTurn (Reuses t home) t after pages parts
      → length (applied t after pages parts) ≡ length pages
  reuses_length pages [] r = refl
  reuses_length pages (x ∷ parts) r =
      let within = page_within pages x.page x.slot r.1.0 in
      reuses_length (wrote pages (place_of x) (made t after x.op)) parts r.2
      ∙ wrote-length pages x.page x.slot (made t after x.op) within.1

pub reuses_hold :
    (t : ℕ) (after : TableRow) (home : Place) (pages : List (List Slot)) (parts : List Part)
    → InTurn (Reuses t home) t after pages parts → AllHold (slot_of pages)
    → AllHold (slot_of (applied t after pages parts))
reuses_hold t after home pages [] r all = all
reuses_hold t after home pages (x ∷ parts) r all =
    reuses_hold t after home (wrote pages (place_of x) (made t after x.op)) parts r.2
    (held_wrote pages x.page x.slot (made t after x.op) r.1.2 all)
