-- When a layout is right.
use Rattle.std.specs.Prelude.{◌≡◌, true, List}
use Rattle.rg_home.specs.Pages.{slot_of}
use Rattle.rg_home.specs.Rows.{row_at, Tied}
use Rattle.rg_home.specs.Slot.{Slot}
use Rattle.rg_btree.specs.Indexes.Listings.{AreListings}
use Rattle.rg_btree.specs.declared.indexes.indexes.Indexes.{Indexes}
use Rattle.rg_home.specs.Table.{IsTable}
use Rattle.rg_model.specs.Layout.{is_right_side}
use Rattle.rg_model.specs.State.{Table, row_of}
use Rattle.rg_stmt.specs.declared.layout.Side.{Side}

-- It is right for the table whose rows these pages have and these indexes list, if the slots that
-- name each other tie.
abbrev pub IsRightFor : List (List Slot) → Indexes → Side → Type 0
IsRightFor pages x side = Tied (slot_of pages) → (table : Table)
    → IsTable (row_at (slot_of pages)) (λ key. row_of table key)
    → AreListings (row_at (slot_of pages)) x
    → is_right_side table side ≡ true
