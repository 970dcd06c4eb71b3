-- A record's parts on one page.
--
-- 1. A page after a record's parts is that page after those of the parts that name it, whatever
--    the other pages are. So redo may go page by page.
use Rattle.std.specs.Prelude.{◌==◌, ℕ, Bool, true, false, List, [], ◌∷◌, if◌then◌else◌}
use Rattle.rg_base.specs.declared.row.Row.{Row as TableRow}
use Rattle.rg_base.specs.declared.part.Part.{Part}
use Rattle.rg_home.specs.Slot.{Slot}
use Rattle.rg_home.specs.Slots.{placed, Fits}
use Rattle.rg_home.specs.Pages.{made}

-- the slots of page n after these parts of a record
abbrev pub page_with : ℕ → TableRow → ℕ → List Slot → List Part → List Slot
page_with t after n slots [] = slots
page_with t after n slots (x ∷ parts) =
    page_with t after n
    (if x.page == n then placed slots x.slot (made t after x.op) else slots) parts

-- a fact that is only asked for where the test holds
abbrev pub Where : Bool → Type 0 → Type 0
Where true A = A
Where false A = Unit {0}

-- each part that names page n fits it in its turn
abbrev pub FitsOn : ℕ → TableRow → ℕ → List Slot → List Part → Type 0
FitsOn t after n slots [] = Unit {0}
FitsOn t after n slots (x ∷ parts) =
    Where (x.page == n) (Fits (placed slots x.slot (made t after x.op)))
    × FitsOn t after n
    (if x.page == n then placed slots x.slot (made t after x.op) else slots) parts
