-- A slot that is not Free is on a page that is there.
use Rattle.std.proofs.Common.{◌≡◌, ℕ, ◌≤◌, ◌<◌, zero, suc, false, List, [], ◌∷◌, length, get_or}
use Rattle.std.proofs.Common.{arith}
use Rattle.rg_home.specs.Slot.{Slot}
use Rattle.rg_home.specs.Slots.{slot_at, is_free}
use Rattle.rg_home.specs.Pages.{page_at}

pub slot_below : (slots : List Slot) (i : ℕ) → is_free (slot_at slots i) ≡ false → i < length slots
slot_below [] i e = absurd (cc (e))
slot_below (x ∷ slots) zero e = omega arith
slot_below (x ∷ slots) (suc i) e = omega (arith, slot_below slots i e)

in_pages : (pages : List (List Slot)) (n i : ℕ) → is_free (slot_at (get_or pages n []) i) ≡ false
    → n < length pages
in_pages [] n i e = absurd (cc (e))
in_pages (x ∷ pages) zero i e = omega arith
in_pages (x ∷ pages) (suc n) i e = omega (arith, in_pages pages n i e)

pub page_within : (pages : List (List Slot)) (n i : ℕ)
    → is_free (slot_at (page_at pages n) i) ≡ false → (1 ≤ n) × (n ≤ length pages)
page_within pages zero i e = absurd (cc (e))
page_within pages (suc n) i e = (omega arith, omega (arith, in_pages pages n i e))
