-- What whoever sends the items keeps of them.
-- (1) Always: the items after the last Begin are lawful; none is above the last position of the
--     log, and no copy is of a page above those copied.
-- (2) While a utility runs that has not switched: at each place of a page that is copied, and of a
--     page that the table did not have at the start, the fold of the feed is the row of the table.
--     A page that is still to be copied is in neither: its copy will bring its rows.
-- (3) And no change since the start names a place whose row has a quiet key.
use Rattle.std.specs.Prelude.{◌≡◌, ℕ, ◌<◌, ◌≤◌, Bool, true, false, List, Option, Some, None, length}
use Rattle.std.specs.List.{AllByRecursion}
use Rattle.rg_base.specs.declared.place.Place.{Place}
use Rattle.rg_base.specs.declared.row.Row.{Row}
use Rattle.rg_base.specs.Place.{same_place}
use Rattle.rg_feed.specs.Fold.Last.{last_at}
use Rattle.rg_feed.specs.Fold.Fold.{fold_at, since_begin, changes}
use Rattle.rg_feed.specs.Fold.Lawful.{Lawful}
use Rattle.rg_feed.specs.declared.fold.item.Item.{Item}
use Rattle.rg_feed.specs.declared.fold.item.Item.TheVariants.{PageCopy}
use Rattle.rg_feed.specs.declared.fold.item.Item.TheVariants as items

-- an item at this position or below, and of a page up to this one
abbrev pub IsBelow : (last copied : ℕ) → Item → Type 0
IsBelow last copied (PageCopy page position rows) = (position.0 ≤ last) × (page ≤ copied)
IsBelow last copied (items.Change change) = change.position.0 ≤ last
IsBelow last copied item = Unit {0}

-- what holds of the items whether a utility runs or not; `last` is the log's last position
pub record Ordered (last copied : ℕ) (feed : List Item) : Type 0 where
  pub lawful : Lawful (since_begin feed)
  pub below : AllByRecursion (IsBelow last copied) (since_begin feed)

-- the pages of the table at the start, those copied, and the changes since
pub record Progress : Type 0 where
  pub pages : ℕ
  pub copied : ℕ
  pub changes : ℕ

-- what holds while a utility runs that has not switched, of the rows of the table and of the keys
-- that are quiet
pub record Fed
    (row_at : Place → Option Row) (is_quiet : ℕ → Bool) (progress : Progress) (feed : List Item)
    : Type 0 where
  pub copied : (place : Place) → place.page ≤ progress.copied → fold_at feed place ≡ row_at place
  pub added : (place : Place) → progress.pages < place.page → fold_at feed place ≡ row_at place
  pub counted : length (changes (since_begin feed)) ≡ progress.changes
  pub unnamed : (place : Place) (row : Row) → row_at place ≡ Some row → is_quiet row.key ≡ true
      → last_at place (changes (since_begin feed)) ≡ None

-- the row of one place is set, and that of no other
pub record SetsRow (old new : Place → Option Row) (home : Place) (after : Option Row) : Type 0 where
  pub here : new home ≡ after
  pub others : (place : Place) → same_place home place ≡ false → new place ≡ old place
