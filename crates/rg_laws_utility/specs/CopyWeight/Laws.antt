-- What is sent keeps the bound on what a new copy may have to take.
--
-- 1. At the start it is the weight of all rows (`StartReaches`), and so at most what the pages
--    claim (`ClaimsReach`).
-- 2. The changes of a statement add at most their rows (`ChangesReach`). The copy of the next page
--    adds nothing (`CopyReaches`), and nor does an entry that changes no row (`StillReaches`).
-- 3. Once all pages are copied, what was sent weighs no more (`AllReach`), in whatever order the
--    rows are loaded (`OrderWeighsNothing`).
use Rattle.std.specs.Prelude.{◌≡◌, ◌≤◌, ◌<◌, ◌+◌, ◌++◌, ℕ, Bool, List, [], ◌∷◌, Option, None}
use Rattle.std.specs.Prelude.{length}
use Rattle.std.specs.List.Sorted.{IsPermutation}
use Rattle.rg_base.specs.declared.change.Change.{Change}
use Rattle.rg_base.specs.declared.options.Options.{Options}
use Rattle.rg_base.specs.declared.place.Place.{Place}
use Rattle.rg_base.specs.declared.position.Position.{Position}
use Rattle.rg_base.specs.declared.row.Row.{Row}
use Rattle.rg_laws_pages.specs.ByteClaims.Claim.{claimed_all}
use Rattle.rg_feed.specs.Fold.Fold.{row_in, since_begin}
use Rattle.rg_feed.specs.Fold.Lawful.{AreRowsOf, Lawful}
use Rattle.rg_feed.specs.declared.fold.item.Item.{Item}
use Rattle.rg_feed.specs.declared.fold.item.Item.TheVariants.{Begin, PageCopy}
use Rattle.rg_home.specs.Able.{Proper}
use Rattle.rg_home.specs.Pages.{slot_of}
use Rattle.rg_home.specs.Rows.{row_at}
use Rattle.rg_home.specs.Slot.{Slot}
use Rattle.rg_laws_utility.specs.CopyWeight.Reach.{Reaches}
use Rattle.rg_laws_utility.specs.CopyWeight.Weighed.{weigh_changes, weigh_feed, weigh_pages}
use Rattle.rg_laws_utility.specs.CopyWeight.Weighed.{weigh_rows}
use Rattle.rg_feed.specs.SentItems.Keeps.{MovesRows, Rows, sent_changes}

abbrev pub StartReaches : Type 0
StartReaches =
    (rows : Rows) (pages most : ℕ) (options : Options) (feed : List Item)
    → weigh_pages rows 1 pages ≤ most
    → Reaches rows pages 0 most (feed ++ Begin options pages ∷ [])

abbrev pub ClaimsReach : Type 0
ClaimsReach =
    (holds : ℕ → Bool) (pages : List (List Slot)) → Proper pages
    → weigh_pages (row_at (slot_of pages)) 1 (length pages) ≤ claimed_all holds pages

abbrev pub ChangesReach : Type 0
ChangesReach =
    (rows new : Rows) (pages copied most : ℕ) (feed : List Item) (made : List Change)
    → Reaches rows pages copied most feed → MovesRows made rows new
    → Reaches new pages copied (most + weigh_changes made) (feed ++ sent_changes made)

abbrev pub CopyReaches : Type 0
CopyReaches =
    (rows : Rows) (pages copied most : ℕ) (feed : List Item) (position : Position)
    (listed : List (Place × Row))
    → Reaches rows pages copied most feed → copied < pages → AreRowsOf (copied + 1) listed
    → ((place : Place) → place.page ≡ copied + 1 → row_in listed place ≡ rows place)
    → ((place : Place) → place.page ≡ copied + 1 → 225 ≤ place.slot → rows place ≡ None)
    → Reaches rows pages (copied + 1) most
    (feed ++ PageCopy (copied + 1) position listed ∷ [])

abbrev pub StillReaches : Type 0
StillReaches =
    (rows new : Rows) (pages copied most more : ℕ) (feed : List Item)
    → Reaches rows pages copied most feed → ((place : Place) → new place ≡ rows place)
    → most ≤ more → Reaches new pages copied more feed

-- rows in another order
abbrev pub OrderWeighsNothing : Type 0
OrderWeighsNothing =
    (rows sorted : List (Place × Row)) → IsPermutation rows sorted
    → weigh_rows sorted ≡ weigh_rows rows

abbrev pub AllReach : Type 0
AllReach =
    (rows : Rows) (pages most : ℕ) (feed : List Item)
    → Reaches rows pages pages most feed → Lawful (since_begin feed) → weigh_feed feed ≤ most
