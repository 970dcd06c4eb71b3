-- Which feeds are lawful, and which changes are passed over.
-- (1) A change after the copy of a page is above the copy's position, and one before it is not.
-- (2) No page is copied twice. The rows of a copy have places on its page, each a different one.
-- (3) A change is passed over where its page was copied at its position or above: the copy has
--     what the change left. Copies of other pages say nothing of it.
-- (4) So a utility that loads all copies first, and then makes the changes that are not passed
--     over, comes to the fold of the feed.
use Rattle.std.specs.Prelude.{◌≡◌, ◌==◌, ◌&&◌, ◌||◌, ℕ, ◌<◌, ◌≤◌, nat_le, Bool, false, List, []}
use Rattle.std.specs.Prelude.{◌∷◌, Option, None, if◌then◌else◌}
use Rattle.std.specs.List.{AllByRecursion}
use Rattle.rg_base.specs.declared.change.Change.{Change}
use Rattle.rg_base.specs.declared.place.Place.{Place}
use Rattle.rg_base.specs.declared.row.Row.{Row}
use Rattle.rg_feed.specs.Fold.Last.{changed_at}
use Rattle.rg_feed.specs.Fold.Fold.{row_in}
use Rattle.rg_feed.specs.declared.fold.item.Item.{Item}
use Rattle.rg_feed.specs.declared.fold.item.Item.TheVariants.{Begin, PageCopy, Booked}
use Rattle.rg_feed.specs.declared.fold.item.Item.TheVariants as items

-- of two items, the first of which came before the second
abbrev pub InOrder : Item → Item → Type 0
InOrder (PageCopy page position rows) (items.Change change) = position.0 < change.position.0
InOrder (items.Change change) (PageCopy page position rows) = change.position.0 ≤ position.0
InOrder (PageCopy page position rows) (PageCopy later _ _) = (page == later) ≡ false
InOrder earlier later = Unit {0}

-- rows on this page, at different places
abbrev pub AreRowsOf : ℕ → List (Place × Row) → Type 0
AreRowsOf page [] = Unit {0}
AreRowsOf page (entry ∷ rows) =
    (entry.0.page ≡ page) × (row_in rows entry.0 ≡ None) × AreRowsOf page rows

-- what an item after the last Begin has to be by itself
abbrev pub IsWell : Item → Type 0
IsWell (Begin options pages) = ⊥
IsWell (PageCopy page position rows) = AreRowsOf page rows
IsWell item = Unit {0}

-- the items after a Begin are lawful
abbrev pub Lawful : List Item → Type 0
Lawful [] = Unit {0}
Lawful (item ∷ feed) = IsWell item × AllByRecursion (InOrder item) feed × Lawful feed

-- a copy of the change's page is at the change's position or above
abbrev pub passes_over : List Item → Change → Bool
passes_over [] change = false
passes_over (PageCopy page position rows ∷ feed) change =
    (page == change.home.page && nat_le change.position.0 position.0) || passes_over feed change
passes_over (item ∷ feed) change = passes_over feed change

-- what a change leaves at a place, if it is not passed over
abbrev pub taken_at : Place → List Item → Change → Option Row → Option Row
taken_at place feed change row =
    if passes_over feed change then row else changed_at place change row

-- the changes that are not passed over
abbrev pub kept : List Item → List Change → List Change
kept feed [] = []
kept feed (change ∷ changes) =
    if passes_over feed change then kept feed changes else change ∷ kept feed changes

-- no place stands twice
abbrev pub AreApart : List (Place × Row) → Type 0
AreApart [] = Unit {0}
AreApart (entry ∷ rows) = (row_in rows entry.0 ≡ None) × AreApart rows
