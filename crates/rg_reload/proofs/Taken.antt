-- Which rows a page takes, and its slots.
use Rattle.std.proofs.Common.{◌≡◌, ℕ, zero, suc, ◌+◌, ◌-◌, ◌≤◌, ◌<◌, Bool, List, [], ◌∷◌, ◌++◌}
use Rattle.std.proofs.Common.{if◌then◌else◌, length, take, drop, get_or, refl, ap, ◌∙◌, arith}
use Rattle.std.proofs.lemmas.Bool.{le-leb}
use Rattle.rg_base.specs.declared.options.Options.{Options}
use Rattle.rg_base.specs.declared.place.Place.{Place}
use Rattle.rg_base.specs.declared.row.Row.{Row as TableRow}
use Rattle.rg_home.proofs.Slots.{used-append}
use Rattle.rg_home.specs.Slot.{Slot}
use Rattle.rg_home.specs.Slots.{used}
use Rattle.rg_model.specs.Packed.{area_of, free_part}
use Rattle.rg_page.specs.Packed.{packed_slots}
use Rattle.rg_reload.specs.Moved.{more_taken}
use Rattle.rg_reload.specs.Pages.{row_slot, row_slots}

-- the row at k is the next one of those that are left, and the page takes it
pub taken-more : (options : Options) (free k : ℕ) (rows : List (Place × TableRow))
    (d : Place × TableRow)
    → k < length rows → free_part options + area_of (get_or rows k d).1 ≤ free
    → more_taken options free (drop k rows)
    ≡ suc (more_taken options (free - area_of (get_or rows k d).1) (drop (suc k) rows))
taken-more options free k [] d h e = absurd (omega arith)
taken-more options free zero (x ∷ rows) d h e =
    ap (λ (b : Bool). if b then suc (more_taken options (free - area_of x.1) rows) else 0)
    (le-leb (free_part options + area_of x.1) free e)
taken-more options free (suc k) (x ∷ rows) d h e = taken-more options free k rows d (omega arith) e

-- the slots of one row more
pub row_slots-take : (k : ℕ) (rows : List (Place × TableRow)) (d : Place × TableRow)
    → k < length rows
    → row_slots (take (suc k) rows) ≡ row_slots (take k rows) ++ row_slot (get_or rows k d).1 ∷ []
row_slots-take k [] d h = absurd (omega arith)
row_slots-take zero (x ∷ rows) d h = refl
row_slots-take (suc k) (x ∷ rows) d h =
    ap (λ (s : List Slot). row_slot x.1 ∷ s) (row_slots-take k rows d (omega arith))

pub used-take : (k : ℕ) (rows : List (Place × TableRow)) (d : Place × TableRow) → k < length rows
    → used (row_slots (take (suc k) rows))
    ≡ used (row_slots (take k rows)) + area_of (get_or rows k d).1
used-take k rows d h =
    ap used (row_slots-take k rows d h)
    ∙ used-append (row_slots (take k rows)) (row_slot (get_or rows k d).1 ∷ [])
    ∙ omega arith

pub length-row_slots : (rows : List (Place × TableRow)) → length (row_slots rows) ≡ length rows
length-row_slots [] = refl
length-row_slots (x ∷ rows) = ap suc (length-row_slots rows)

-- as a page of given rows has them
pub row_slots-packed : (rows : List (Place × TableRow)) → packed_slots rows ≡ row_slots rows
row_slots-packed [] = refl
row_slots-packed (x ∷ rows) = ap (λ (s : List Slot). row_slot x.1 ∷ s) (row_slots-packed rows)
