-- What a lent slot shows.
use Rattle.std.specs.Prelude.{◌≡◌, ◌≤◌, ℕ, List, length}
use Rattle.rg_base.specs.Text.{IsText}
use Rattle.rg_base.specs.RowBytes.{row_bytes, row_of}
use Rattle.rg_home.specs.Slot.{Slot}
use Rattle.rg_home.specs.Slot.{Free, Row, Pointer, Over, DeadRow, DeadPointer, DeadOver}
use Rattle.rg_page.specs.declared.slot.Slot.{Slot as Lent}
use Rattle.rg_page.specs.declared.slot.Slot.TheVariants as Is

abbrev pub shown : Lent → Slot
shown Is.Free = Free
shown (Is.Row capacity bytes) = Row capacity (row_of bytes.now)
shown (Is.Pointer capacity other) = Pointer capacity other
shown (Is.Over capacity bytes other) = Over capacity (row_of bytes.now) other
shown (Is.DeadRow capacity owner) = DeadRow capacity owner.0
shown (Is.DeadPointer capacity other owner) = DeadPointer capacity other owner.0
shown (Is.DeadOver capacity other owner) = DeadOver capacity other owner.0

-- the bytes spell a row
abbrev pub SpellsRow : List ℕ → Type 0
SpellsRow bytes = (row_bytes (row_of bytes) ≡ bytes) × IsText (row_of bytes).text

-- the bytes of a row spell it
abbrev pub IsSpelled : Lent → Type 0
IsSpelled Is.Free = Unit {0}
IsSpelled (Is.Row capacity bytes) = SpellsRow bytes.now
IsSpelled (Is.Pointer capacity other) = Unit {0}
IsSpelled (Is.Over capacity bytes other) = SpellsRow bytes.now
IsSpelled (Is.DeadRow capacity owner) = Unit {0}
IsSpelled (Is.DeadPointer capacity other owner) = Unit {0}
IsSpelled (Is.DeadOver capacity other owner) = Unit {0}

-- its area holds the bytes of a row
abbrev pub IsHeld : Lent → Type 0
IsHeld Is.Free = Unit {0}
IsHeld (Is.Row capacity bytes) = length bytes.now ≤ capacity
IsHeld (Is.Pointer capacity other) = Unit {0}
IsHeld (Is.Over capacity bytes other) = length bytes.now ≤ capacity
IsHeld (Is.DeadRow capacity owner) = Unit {0}
IsHeld (Is.DeadPointer capacity other owner) = Unit {0}
IsHeld (Is.DeadOver capacity other owner) = Unit {0}
