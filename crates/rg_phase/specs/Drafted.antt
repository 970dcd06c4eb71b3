-- A new copy in the making, of what was received.
--
-- 1. While it is packed the rows of the packer are those of all copies, and no change was taken.
-- 2. Once it is loaded it was packed from these rows, and is caught up with the changes taken.
use Rattle.std.specs.Prelude.{◌≡◌, ◌≤◌, ◌*◌, ℕ, List, length}
use Rattle.std.specs.List.Sorted.{IsPermutation}
use Rattle.rg_base.specs.declared.options.Options.{Options}
use Rattle.rg_base.specs.declared.place.Place.{Place}
use Rattle.rg_base.specs.declared.row.Row.{Row}
use Rattle.rg_base.specs.declared.which.Which.{Which}
use Rattle.rg_translate.specs.RightCopy.Caught.{IsCaughtUp}
use Rattle.rg_feed.specs.Fold.Fold.{changes, copied_rows, since_begin}
use Rattle.rg_feed.specs.declared.fold.item.Item.{Item}
use Rattle.rg_reload.specs.Order.{IsInOrder}
use Rattle.rg_reload.specs.Reloading.{LacksPage, Reloading}
use Rattle.rg_reload.specs.declared.fault.ReloadFault.{ReloadFault}
use Rattle.rg_reload.specs.declared.fault.ReloadFault.TheVariants as reloads
use Rattle.rg_shadow.specs.Shade.{Shade, stage_in}
use Rattle.rg_shadow.specs.declared.drafts.IndexStage.TheVariants.{Built}
use Rattle.rg_shadow.specs.declared.fault.ShadowFault.{ShadowFault}
use Rattle.rg_shadow.specs.declared.fault.ShadowFault.TheVariants.{NoMemory, NoSpace}

-- a packer, by these options, of the rows of all copies among these items
pub record IsPackingOf (options : Options) (p : Reloading) (items : List Item) (taken : ℕ)
    : Type 0 where
  pub options_are : p.options ≡ options
  pub moved : IsPermutation (copied_rows (since_begin items)) p.rows
  pub order : IsInOrder p.rows
  pub none : taken ≡ 0

-- a new copy that was packed by these options from the rows of all copies among these items, and
-- brought up to date by so many of their changes
pub record IsDraftOf (options : Options) (s : Shade) (items : List Item) (taken : ℕ) : Type 0
  where
    pub rows : List (Place × Row)
    pub first : Shade
    pub moved : IsPermutation (copied_rows (since_begin items)) rows
    pub order : IsInOrder rows
    pub caught : IsCaughtUp options rows first s items taken
    pub within : taken ≤ length (changes (since_begin items))

-- only how far the indexes are made has changed
pub record SameRows (old new : Shade) : Type 0 where
  pub pages : new.pages ≡ old.pages
  pub targets : new.targets ≡ old.targets

-- it is this copy, of so many pages at most, and its indexes are built
pub record IsReady (copy capacity : ℕ) (shade : Shade) : Type 0 where
  pub copy_is : shade.copy ≡ copy
  pub capacity_is : shade.capacity ≡ capacity
  pub built : (which : Which) → stage_in which shade ≡ Built

-- there is no page for the next rows, where it was refused so
abbrev pub LacksPageIfFull : Reloading → ReloadFault → Type 0
LacksPageIfFull p (reloads.NoSpace pages) = LacksPage p
LacksPageIfFull p reloads.NoMemory = Unit {0}

-- the copy had no room, and what was sent weighs 3,221 bytes for each page that it may have; or
-- there was no memory
abbrev pub IsFullOf : (capacity weight : ℕ) → ShadowFault → Type 0
IsFullOf capacity weight NoSpace = 3221 * capacity ≤ weight
IsFullOf capacity weight NoMemory = Unit {0}
