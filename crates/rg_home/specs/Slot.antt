-- What lies in a slot of a page.
--
-- 1. A row has a home, the slot that it was first put into, and keeps it as long as it is there.
--    Its index entries and the records of its writes name the home.
-- 2. A row lies at its home (Row), or has moved (Pointer), and then lies in an Over area that names
--    the home. Pointer and Over name each other.
-- 3. An area whose row was dropped, or that a row has left, is dead, of the transaction that did
--    so. It keeps its bytes, so that the transaction can be undone, until a purge frees it.
use Rattle.std.specs.Prelude.{ℕ}
use Rattle.rg_base.specs.declared.place.Place.{Place}
use Rattle.rg_base.specs.declared.row.Row.{Row as TableRow}

-- each slot but a Free one has an area of so many bytes, its capacity
pub data Slot : Type 0 where
  Free : Slot
  Row : (capacity : ℕ) (row : TableRow) → Slot
  Pointer : (capacity : ℕ) (other : Place) → Slot
  Over : (capacity : ℕ) (row : TableRow) (home : Place) → Slot
  DeadRow : (capacity owner : ℕ) → Slot
  DeadPointer : (capacity : ℕ) (other : Place) (owner : ℕ) → Slot
  DeadOver : (capacity : ℕ) (home : Place) (owner : ℕ) → Slot
