-- A new copy that was loaded, and then brought up to date.
--
-- 1. It was packed from the rows of all copies, and so many changes of the feed were taken since.
--    The row of each source is the one that the feed gives it up to there.
-- 2. A source that none of these changes names has the row and the target that it had when the new
--    copy was loaded, and its row lies where it lay.
-- 3. The pages claim no more than as it was loaded and the rows of these changes weigh, without
--    those that are passed over.
-- 4. Before the first change each slot is as it was loaded.
use Rattle.std.specs.Prelude.{◌≡◌, ◌≤◌, ◌+◌, ℕ, List, take}
use Rattle.rg_base.specs.declared.options.Options.{Options}
use Rattle.rg_base.specs.declared.place.Place.{Place}
use Rattle.rg_base.specs.declared.row.Row.{Row}
use Rattle.rg_laws_pages.specs.ByteClaims.Claim.{claimed_all, nobody}
use Rattle.rg_feed.specs.Fold.Fold.{changes, fold_to, since_begin}
use Rattle.rg_feed.specs.Fold.Lawful.{kept}
use Rattle.rg_feed.specs.declared.fold.item.Item.{Item}
use Rattle.rg_translate.specs.Load.Loaded.{IsPacked}
use Rattle.rg_laws_utility.specs.CopyWeight.Weighed.{weigh_changes}
use Rattle.rg_shadow.specs.Pieces.{IsMapped}
use Rattle.rg_shadow.specs.Shade.{Shade, home_rows, shade_slots, source_rows}
use Rattle.rg_translate.specs.Caught.{Unmoved}

-- `first` is the new copy as it was loaded, and `s` as it is after so many changes
pub record IsCaughtUp
    (options : Options) (rows : List (Place × Row)) (first s : Shade) (feed : List Item) (taken : ℕ)
    : Type 0 where
  pub loaded : IsPacked options rows first
  pub mapped : IsMapped s.targets (home_rows s)
  pub unmoved : Unmoved first s (take taken (changes (since_begin feed)))
  pub caught : (place : Place) → source_rows s place ≡ fold_to feed taken place
  pub claims :
      claimed_all nobody (shade_slots s)
      ≤ claimed_all nobody (shade_slots first)
      + weigh_changes (kept (since_begin feed) (take taken (changes (since_begin feed))))
  pub idle : taken ≡ 0 → shade_slots s ≡ shade_slots first
