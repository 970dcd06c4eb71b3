-- How much a new copy may have to take.
--
-- 1. A copy of a page brings its rows. A change brings its row where its page was copied before, or
--    was not there at the start. Any other change brings nothing: the copy of its page, which is
--    still to come, has what it left.
-- 2. Still to come are the rows of the pages that are not copied yet.
-- 3. Both together are at most the rows at the start and those that the changes left since.
use Rattle.std.specs.Prelude.{◌≡◌, ◌≤◌, ◌+◌, ◌||◌, ℕ, nat_le, Bool, List, [], ◌∷◌, Option}
use Rattle.std.specs.Prelude.{if◌then◌else◌}
use Rattle.rg_base.specs.declared.place.Place.{Place}
use Rattle.rg_base.specs.declared.row.Row.{Row}
use Rattle.rg_laws_pages.specs.ByteClaims.Weight.{weight}
use Rattle.rg_feed.specs.Fold.Fold.{since_begin}
use Rattle.rg_feed.specs.declared.fold.item.Item.{Item}
use Rattle.rg_feed.specs.declared.fold.item.Item.TheVariants.{Begin, PageCopy, Booked}
use Rattle.rg_feed.specs.declared.fold.item.Item.TheVariants as items
use Rattle.rg_laws_utility.specs.CopyWeight.Weighed.{weigh_pages, weigh_rows}

-- no copy of the page is still to come
abbrev pub is_settled : (pages copied page : ℕ) → Bool
is_settled pages copied page = nat_le page copied || nat_le (pages + 1) page

-- what these items bring, of a table with so many pages at the start, so many of them copied before
abbrev pub weight_brought : (pages copied : ℕ) → List Item → ℕ
weight_brought pages copied [] = 0
weight_brought pages copied (Begin options _ ∷ feed) = weight_brought pages copied feed
weight_brought pages copied (PageCopy page position rows ∷ feed) =
    weigh_rows rows + weight_brought pages page feed
weight_brought pages copied (items.Change change ∷ feed) =
    (if is_settled pages copied change.home.page then weight change.after else 0)
    + weight_brought pages copied feed
weight_brought pages copied (Booked stage ∷ feed) = weight_brought pages copied feed

-- the last page that is copied after these items
abbrev pub copied_to : (copied : ℕ) → List Item → ℕ
copied_to copied [] = copied
copied_to copied (PageCopy page position rows ∷ feed) = copied_to page feed
copied_to copied (item ∷ feed) = copied_to copied feed

-- each copy is of the page after the one before
abbrev pub AreInTurn : (copied : ℕ) → List Item → Type 0
AreInTurn copied [] = Unit {0}
AreInTurn copied (PageCopy page position rows ∷ feed) = (page ≡ copied + 1) × AreInTurn page feed
AreInTurn copied (item ∷ feed) = AreInTurn copied feed

-- The items after the last Begin, of a table with these rows and so many pages at the start, have
-- copied so many of them. What they bring and what is still to come is at most this.
pub record Reaches
    (rows : Place → Option Row) (pages copied most : ℕ) (feed : List Item) : Type 0 where
  pub left : ℕ
  pub all : copied + left ≡ pages
  pub turn : AreInTurn 0 (since_begin feed)
  pub to : copied_to 0 (since_begin feed) ≡ copied
  pub within :
      weight_brought pages 0 (since_begin feed) + weigh_pages rows (copied + 1) left ≤ most
