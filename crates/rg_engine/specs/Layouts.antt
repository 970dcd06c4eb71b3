-- The event of a layout.
use Rattle.std.specs.Prelude.{◌≡◌, ℕ, List, length}
use Rattle.rg_home.specs.Slot.{Slot}
use Rattle.rg_layout.specs.Spots.{spots_of}
use Rattle.rg_stmt.specs.declared.event.Event.{Event}
use Rattle.rg_stmt.specs.declared.event.Event.TheVariants.{Layout, LayoutDown, LayoutNoMemory}
use Rattle.rg_stmt.specs.declared.layout.Side.{Side}

-- a layout of this copy, or the desk was down, or there was no memory for one
abbrev pub IsLayout : (copy : ℕ) → Event → Type 0
IsLayout copy (Layout shown side) = shown ≡ copy
IsLayout copy LayoutNoMemory = Unit {0}
IsLayout copy LayoutDown = Unit {0}
IsLayout copy event = ⊥

-- a layout of these pages: their number, and the spots of their rows
abbrev pub IsSideOf : List (List Slot) → Side → Type 0
IsSideOf pages side = (side.pages ≡ length pages) × (side.spots ≡ spots_of pages)

-- what the event shows, if it shows a layout, is that of these pages
abbrev pub ShowsSideOf : List (List Slot) → Event → Type 0
ShowsSideOf pages (Layout shown side) = IsSideOf pages side
ShowsSideOf pages event = Unit {0}
