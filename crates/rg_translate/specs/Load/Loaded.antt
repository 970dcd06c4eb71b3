-- A new copy as it was loaded.
--
-- 1. Its pages have exactly the packed rows, each at home in an area as long as it is. They are as
--    many as packing takes, and claim no more than the rows weigh. The old place of each row leads
--    to the row.
-- 2. None of its indexes is made yet.
use Rattle.std.specs.Prelude.{◌≡◌, ◌≤◌, List, length}
use Rattle.rg_base.specs.declared.options.Options.{Options}
use Rattle.rg_base.specs.declared.place.Place.{Place}
use Rattle.rg_base.specs.declared.row.Row.{Row}
use Rattle.rg_base.specs.declared.which.Which.{Which}
use Rattle.rg_laws_pages.specs.ByteClaims.Claim.{claimed_all, nobody}
use Rattle.rg_feed.specs.Fold.Fold.{row_in}
use Rattle.rg_translate.specs.PackedCopy.Laws.{HasPacked, pages_packed}
use Rattle.rg_laws_utility.specs.CopyWeight.Weighed.{weigh_rows}
use Rattle.rg_reload.specs.Moved.{rows_in}
use Rattle.rg_reload.specs.Reloading.{Reloading}
use Rattle.rg_shadow.specs.Shade.{Shade, shade_slots, source_rows, stage_in}
use Rattle.rg_shadow.specs.declared.drafts.IndexStage.TheVariants.{Unsorted}

-- a new copy of these rows, packed by these options, each with its old place
pub record IsPacked (options : Options) (rows : List (Place × Row)) (s : Shade) : Type 0 where
  pub packed : HasPacked options rows (shade_slots s)
  pub sources : (place : Place) → source_rows s place ≡ row_in rows place
  pub pages : length s.pages ≡ pages_packed options (rows_in rows)
  pub claims : claimed_all nobody (shade_slots s) ≤ weigh_rows rows

-- the new copy that a packer has come to
pub record IsLoaded (p : Reloading) (s : Shade) : Type 0 where
  pub copy : s.copy ≡ p.copy
  pub capacity : s.capacity ≡ p.capacity
  pub rows : IsPacked p.options p.rows s
  pub unsorted : (which : Which) → stage_in which s ≡ Unsorted
