-- How a new copy comes to be caught up, and stays so, and what it is of the table at the end.
--
-- 1. Once the rows of all copies are loaded it is caught up before the first change
--    (`LoadIsCaughtUp`).
-- 2. The next changes, taken in one batch, leave it caught up that much further
--    (`BatchIsCaughtUp`).
-- 3. While its indexes are sorted and built it stays so (`StagesAreCaughtUp`).
-- 4. More changes and booked entries leave it so: they count only once they are taken
--    (`MoreIsCaughtUp`). So do other pages that have the same slots (`SameSlotsAreCaughtUp`).
-- 5. Its pages claim no more than what was sent weighs (`CaughtUpClaims`). A change has no room
--    only where that is 3,221 bytes for each page that there may be (`FullIsSent`).
-- 6. Where all pages were copied and all changes are taken, the rows whose keys are quiet lie at
--    home, in clustering order (`CaughtUpIsQuiet`). The rows at its homes are the table. Where
--    nothing has changed since the start, its layout is that of a packed copy of the table
--    (`CaughtUpIsRight`).
use Rattle.std.specs.Prelude.{◌≡◌, ◌+◌, ◌≤◌, ◌*◌, ℕ, true, List, [], Option, drop, length, take}
use Rattle.std.specs.List.Sorted.{IsPermutation}
use Rattle.rg_base.specs.declared.options.Options.{Options}
use Rattle.rg_base.specs.declared.place.Place.{Place}
use Rattle.rg_base.specs.declared.row.Row.{Row}
use Rattle.rg_base.specs.declared.which.Which.{Which}
use Rattle.rg_translate.specs.RightCopy.Caught.{IsCaughtUp}
use Rattle.rg_laws_pages.specs.ByteClaims.Claim.{claimed_all, nobody}
use Rattle.rg_feed.specs.Fold.Fed.{Fed, Progress}
use Rattle.rg_feed.specs.Fold.Fold.{changes, copied_rows, fold_to, since_begin}
use Rattle.rg_feed.specs.Fold.Lawful.{Lawful, kept}
use Rattle.rg_feed.specs.declared.fold.item.Item.{Item}
use Rattle.rg_layout.specs.Spots.{spots_of}
use Rattle.rg_home.specs.Table.{IsTable}
use Rattle.rg_translate.specs.Load.Loaded.{IsPacked}
use Rattle.rg_model.specs.Quiet.{is_quiet}
use Rattle.rg_model.specs.Right.{are_quiet_right, is_packed}
use Rattle.rg_model.specs.State.{Table, row_of}
use Rattle.rg_page.specs.Content.{Content, slots_of}
use Rattle.rg_laws_utility.specs.CopyWeight.Weighed.{weigh_feed}
use Rattle.rg_reload.specs.Order.{IsInOrder}
use Rattle.rg_shadow.specs.Pieces.{IsMapped}
use Rattle.rg_shadow.specs.Shade.{Shade, home_rows, shade_slots, source_rows, with_stage}
use Rattle.rg_shadow.specs.declared.drafts.IndexStage.{IndexStage}
use Rattle.rg_shadow.specs.declared.fault.ShadowFault.TheVariants.{NoSpace}
use Rattle.rg_stmt.specs.declared.event.Entry.{Entry}
use Rattle.rg_stmt.specs.declared.layout.Side.{Side}
use Rattle.rg_translate.specs.Caught.{ClaimsMore, IsFullBy, Unmoved}
use Rattle.rg_translate.specs.Laws.{AddsLater}

abbrev pub LoadIsCaughtUp : Type 0
LoadIsCaughtUp =
    (options : Options) (rows : List (Place × Row)) (s : Shade) (feed : List Item)
    → Lawful (since_begin feed) → IsPermutation (copied_rows (since_begin feed)) rows
    → IsPacked options rows s → IsMapped s.targets (home_rows s)
    → IsCaughtUp options rows s s feed 0

-- the next n changes are taken, of which some may be passed over
abbrev pub BatchIsCaughtUp : Type 0
BatchIsCaughtUp =
    (options : Options) (rows : List (Place × Row)) (first old new : Shade) (feed : List Item)
    (taken n : ℕ)
    → IsCaughtUp options rows first old feed taken
    → IsMapped new.targets (home_rows new)
    → ((place : Place) → source_rows new place ≡ fold_to feed (taken + n) place)
    → Unmoved old new (take n (drop taken (changes (since_begin feed))))
    → ClaimsMore old new
    (kept (since_begin feed) (take n (drop taken (changes (since_begin feed)))))
    → (kept (since_begin feed) (take n (drop taken (changes (since_begin feed)))) ≡ [] → new ≡ old)
    → IsCaughtUp options rows first new feed (taken + n)

abbrev pub StagesAreCaughtUp : Type 0
StagesAreCaughtUp =
    (options : Options) (rows : List (Place × Row)) (first s : Shade) (feed : List Item)
    (taken : ℕ) (which : Which) (stage : IndexStage)
    → IsCaughtUp options rows first s feed taken
    → IsCaughtUp options rows first (with_stage which stage s) feed taken

abbrev pub MoreIsCaughtUp : Type 0
MoreIsCaughtUp =
    (options : Options) (rows : List (Place × Row)) (first s : Shade) (feed more : List Item)
    (taken : ℕ)
    → AddsLater feed more → taken ≤ length (changes (since_begin feed))
    → IsCaughtUp options rows first s feed taken → IsCaughtUp options rows first s more taken

-- pages with other positions, say
abbrev pub SameSlotsAreCaughtUp : Type 0
SameSlotsAreCaughtUp =
    (options : Options) (rows : List (Place × Row)) (first s : Shade) (feed : List Item)
    (taken : ℕ) (pages : List Content)
    → slots_of pages ≡ shade_slots s → IsCaughtUp options rows first s feed taken
    → IsCaughtUp options rows first (record s { pages = pages }) feed taken

-- `rows` are those of all copies, in any order
abbrev pub CaughtUpClaims : Type 0
CaughtUpClaims =
    (options : Options) (rows : List (Place × Row)) (first s : Shade) (feed : List Item)
    (taken : ℕ)
    → IsPermutation (copied_rows (since_begin feed)) rows
    → IsCaughtUp options rows first s feed taken
    → claimed_all nobody (shade_slots s) ≤ weigh_feed feed

-- one of the next n changes has no room, of which some may be passed over
abbrev pub FullIsSent : Type 0
FullIsSent =
    (options : Options) (rows : List (Place × Row)) (first s : Shade) (feed : List Item)
    (taken n : ℕ)
    → IsPermutation (copied_rows (since_begin feed)) rows
    → IsCaughtUp options rows first s feed taken
    → IsFullBy s (kept (since_begin feed) (take n (drop taken (changes (since_begin feed)))))
    NoSpace
    → 3221 * s.capacity ≤ weigh_feed feed

-- All pages were copied, and all changes are taken. `rows` are those of all copies, in the order of
-- a new copy.
pub record AreAllTaken
    (feed : List Item) (progress : Progress) (rows : List (Place × Row)) (taken : ℕ)
    : Type 0 where
  pub lawful : Lawful (since_begin feed)
  pub all : progress.copied ≡ progress.pages
  pub none_left : taken ≡ length (changes (since_begin feed))
  pub moved : IsPermutation (copied_rows (since_begin feed)) rows
  pub order : IsInOrder rows

-- What a new copy is of the table, and its layout. It is packed where nothing has changed since the
-- start.
pub record IsRightAfter
    (options : Options) (past : List Entry) (progress : Progress) (s : Shade) (t : Table)
    (side : Side) : Type 0 where
  pub table : IsTable (home_rows s) (row_of t)
  pub quiet : are_quiet_right past side.spots ≡ true
  pub packed : progress.changes ≡ 0 → is_packed options t side ≡ true

-- `past` are the entries of a trace, the newest first
abbrev pub CaughtUpIsQuiet : Type 0
CaughtUpIsQuiet =
    (row_at : Place → Option Row) (progress : Progress) (feed : List Item) (options : Options)
    (rows : List (Place × Row)) (first s : Shade) (taken : ℕ) (past : List Entry) (side : Side)
    → Fed row_at (λ key. is_quiet key past) progress feed → AreAllTaken feed progress rows taken
    → IsCaughtUp options rows first s feed taken → side.spots ≡ spots_of (shade_slots s)
    → are_quiet_right past side.spots ≡ true

abbrev pub CaughtUpIsRight : Type 0
CaughtUpIsRight =
    (row_at : Place → Option Row) (progress : Progress) (feed : List Item) (options : Options)
    (rows : List (Place × Row)) (first s : Shade) (taken : ℕ) (past : List Entry) (t : Table)
    (side : Side)
    → Fed row_at (λ key. is_quiet key past) progress feed → AreAllTaken feed progress rows taken
    → IsCaughtUp options rows first s feed taken → IsTable row_at (row_of t)
    → side.pages ≡ length s.pages → side.spots ≡ spots_of (shade_slots s)
    → IsRightAfter options past progress s t side
