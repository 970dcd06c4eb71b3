-- What a part makes of a page.
use Rattle.std.specs.Prelude.{◌≡◌, ◌≤◌, ◌<◌, ◌+◌, ℕ, Option, Some, None}
use Rattle.rg_base.specs.RowBytes.{row_bytes, row_of}
use Rattle.rg_base.specs.Text.{IsText}
use Rattle.rg_base.specs.declared.part.Part.{Part}
use Rattle.rg_base.specs.declared.part.SlotOp.{SlotOp}
use Rattle.rg_base.specs.declared.part.SlotOp.TheVariants as Op
use Rattle.rg_base.specs.declared.place.Place.{Place}
use Rattle.rg_base.specs.declared.row.Row.{Row}
use Rattle.rg_home.specs.Pages.{made, row_or_empty}
use Rattle.rg_home.specs.Slots.{placed}
use Rattle.rg_page.specs.Bare.{nowhere}
use Rattle.rg_page.specs.Content.{Content}

-- the page with the slot that a part of this transaction's record makes, at the record's position
abbrev pub changed : Content → Part → (owner : ℕ) → (after : Option Row) → (position : ℕ) → Content
changed page x owner after position =
    record page {
      position = position;
      slots = placed page.slots x.slot (made owner (row_or_empty after) x.op);
    }

-- the place that an operation names
abbrev pub other_of : SlotOp → Place
other_of Op.Free = nowhere
other_of (Op.Row capacity) = nowhere
other_of (Op.Pointer capacity other) = other
other_of (Op.Over capacity home) = home
other_of (Op.DeadRow capacity) = nowhere
other_of (Op.DeadPointer capacity other) = other
other_of (Op.DeadOver capacity home) = home

-- the row that an operation puts in its area
abbrev pub brought : SlotOp → Option Row → Option Row
brought Op.Free after = None
brought (Op.Row capacity) after = after
brought (Op.Pointer capacity other) after = None
brought (Op.Over capacity home) after = after
brought (Op.DeadRow capacity) after = None
brought (Op.DeadPointer capacity other) after = None
brought (Op.DeadOver capacity home) after = None

-- how many slots are left where slot `at` was set on a page of so many
pub record IsLeft (at count left : ℕ) : Type 0 where
  pub inside : at < count → left ≤ count
  pub none : count ≤ at → left ≤ at → left ≤ count
  pub past : count ≤ at → at < left → left ≡ at + 1

-- the bytes of the row, if there is one, show it, and its text is one
abbrev pub IsShown : Option Row → Type 0
IsShown None = Unit {0}
IsShown (Some row) = (row_of (row_bytes row) ≡ row) × IsText row.text
