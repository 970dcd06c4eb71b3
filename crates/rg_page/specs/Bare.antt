-- A slot without its row and its place: what a plan reads of it.
use Rattle.std.specs.Prelude.{ℕ, List, map, None}
use Rattle.rg_base.specs.declared.tran.Tran.{Tran}
use Rattle.rg_home.specs.Pages.{row_or_empty}
use Rattle.rg_home.specs.Slot.{Slot}
use Rattle.rg_home.specs.Slot.{Free, Row, Pointer, Over, DeadRow, DeadPointer, DeadOver}
pub use Rattle.rg_page.specs.Bytes.PageBytes.{nowhere}
use Rattle.rg_page.specs.declared.header.Kind.{Kind}
use Rattle.rg_page.specs.declared.header.Kind.TheVariants as Is

-- the slot of a header: its row is empty, and its place is none
abbrev pub header_slot : Kind → (capacity owner : ℕ) → Slot
header_slot Is.Free capacity owner = Free
header_slot Is.Row capacity owner = Row capacity (row_or_empty None)
header_slot Is.Pointer capacity owner = Pointer capacity nowhere
header_slot Is.Over capacity owner = Over capacity (row_or_empty None) nowhere
header_slot Is.DeadRow capacity owner = DeadRow capacity owner
header_slot Is.DeadPointer capacity owner = DeadPointer capacity nowhere owner
header_slot Is.DeadOver capacity owner = DeadOver capacity nowhere owner

-- a slot without its row and its place
abbrev pub bare : Slot → Slot
bare Free = Free
bare (Row capacity row) = Row capacity (row_or_empty None)
bare (Pointer capacity other) = Pointer capacity nowhere
bare (Over capacity row home) = Over capacity (row_or_empty None) nowhere
bare (DeadRow capacity owner) = DeadRow capacity owner
bare (DeadPointer capacity other owner) = DeadPointer capacity nowhere owner
bare (DeadOver capacity home owner) = DeadOver capacity nowhere owner

-- transactions, by their numbers
abbrev pub numbers_of : List Tran → List ℕ
numbers_of live = map (λ t. t.0) live
