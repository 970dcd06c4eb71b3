-- Where there are no pages.
use Rattle.std.proofs.Common.{◌≡◌, ℕ, zero, suc, List, [], None, refl, ap}
use Rattle.rg_base.specs.declared.place.Place.{Place}
use Rattle.rg_home.specs.Pages.{page_at, slot_of}
use Rattle.rg_home.specs.Rows.{home_row, row_at}
use Rattle.rg_home.specs.Slot.{Slot, Free}
use Rattle.rg_home.specs.Slots.{slot_at}

pub page_none : (n : ℕ) → page_at [] n ≡ []
page_none zero = refl
page_none (suc n) = refl

pub slot_none : (p : Place) → slot_of [] p ≡ Free
slot_none p = ap (λ (slots : List Slot). slot_at slots p.slot) (page_none p.page)

pub row_none : (p : Place) → row_at (slot_of []) p ≡ None
row_none p = ap (home_row (slot_of [])) (slot_none p)
