-- The invariant before an act and after it.
use Rattle.std.proofs.Common.{ℕ, List, Option, refl}
use Rattle.rg_base.specs.declared.place.Place.{Place}
use Rattle.rg_base.specs.declared.row.Row.{Row as TableRow}
use Rattle.rg_home.specs.Slot.{Slot}
use Rattle.rg_home.specs.Rows.{row_at}
use Rattle.rg_home.specs.Pages.{slot_of}
use Rattle.rg_home.specs.Written.{Written}
use Rattle.rg_home.specs.Undo.{taken_back}
use Rattle.rg_laws_pages.specs.UndoRoom.Ready.{Ready}
use Rattle.rg_laws_log.specs.LogState.Act.{LogState}
use Rattle.rg_laws_log.specs.LogState.Consistent.{IsConsistent, IsClean}

-- the invariant holds after an act, and clean pages stay clean
abbrev pub Kept : ℕ → LogState → LogState → Type 0
Kept limit s after = IsConsistent limit after × (IsClean s → IsClean after)

-- Ready, with the rows that it takes back itself
pub own_base :
    (live : List ℕ) (pages : List (List Slot)) (cs : List Written) (base : Place → Option TableRow)
    → Ready live pages cs base
    → Ready live pages cs (λ p. taken_back cs p (row_at (slot_of pages) p))
own_base live pages cs base r =
    record { proper = r.proper; can = r.can; apart = r.apart; back = λ p. refl }
