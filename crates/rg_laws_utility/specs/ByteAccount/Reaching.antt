-- What a new copy may have to take, while a utility runs.
--
-- 1. Until the copies are switched, what was sent and what is still to come is at most what the
--    entries have allowed.
use Rattle.std.specs.Prelude.{◌≡◌, ℕ, false, List, Option, Some, None}
use Rattle.rg_feed.specs.declared.fold.item.Item.{Item}
use Rattle.rg_feed.specs.declared.fold.item.Stage.{Stage}
use Rattle.rg_laws_utility.specs.CopyWeight.Reach.{Reaches}
use Rattle.rg_feed.specs.SentItems.Keeps.{Rows}

abbrev pub ReachesBy : Rows → Option Stage → (most : ℕ) → List Item → Type 0
ReachesBy rows None most feed = Unit {0}
ReachesBy rows (Some s) most feed =
    s.switched ≡ false → Reaches rows s.pages s.copied most feed
