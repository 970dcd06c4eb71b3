-- The weight of the rows that items bring.
--
-- 1. A row weighs its bytes and the 18 bytes of a slot. A change that leaves no row weighs nothing.
use Rattle.std.specs.Prelude.{ℕ, ◌+◌, List, [], ◌∷◌, Option, Some}
use Rattle.rg_base.specs.declared.change.Change.{Change}
use Rattle.rg_base.specs.declared.place.Place.{Place}
use Rattle.rg_base.specs.declared.row.Row.{Row}
use Rattle.rg_laws_pages.specs.ByteClaims.Weight.{pages_from, total, weight}
use Rattle.rg_feed.specs.Fold.Fold.{changes, copied_rows, since_begin}
use Rattle.rg_feed.specs.Fold.Lawful.{kept}
use Rattle.rg_feed.specs.declared.fold.item.Item.{Item}

-- of rows with their places
abbrev pub weigh_rows : List (Place × Row) → ℕ
weigh_rows [] = 0
weigh_rows (entry ∷ rows) = weight (Some entry.1) + weigh_rows rows

-- of the rows that changes leave
abbrev pub weigh_changes : List Change → ℕ
weigh_changes [] = 0
weigh_changes (change ∷ changes) = weight change.after + weigh_changes changes

-- of the rows of a table on so many pages, from this one on
abbrev pub weigh_pages : (Place → Option Row) → (first count : ℕ) → ℕ
weigh_pages rows first count = total (pages_from first count) (λ place. weight (rows place))

-- of what was sent: the rows of all copies since the last Begin, and those of the changes that are
-- not passed over
abbrev pub weigh_feed : List Item → ℕ
weigh_feed feed =
    weigh_rows (copied_rows (since_begin feed))
    + weigh_changes (kept (since_begin feed) (changes (since_begin feed)))
