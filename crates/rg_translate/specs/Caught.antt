-- What it is to be up to date, and what the changes of one batch leave alone.
--
-- 1. A new copy is caught up where the row of each source is the one that the items received give
--    it, without the changes that were not taken yet.
-- 2. A source that no change of a batch names has the row and the target that it had, and its row
--    lies where it lay. So what was packed stays packed where nothing was written. One that has a
--    row before and after the batch has the target that it had.
-- 3. Only a change that is made can be refused: the last one of its home.
-- 4. Pages that no record has changed stay so.
-- 5. A change claims at most the weight of its row more of the pages. Only where the pages claim
--    3,221 bytes for each that there may be a change is refused for want of space.
use Rattle.std.specs.Prelude.{◌≡◌, ◌⊎◌, ◌≤◌, ◌+◌, ◌*◌, ℕ, true, List, Some, None, is_some, Contains}
use Rattle.rg_base.specs.declared.change.Change.{Change}
use Rattle.rg_base.specs.declared.place.Place.{Place}
use Rattle.rg_base.specs.declared.which.Which.{Which}
use Rattle.rg_laws_pages.specs.ByteClaims.Claim.{claimed_all, nobody}
use Rattle.rg_feed.specs.Ends.{Received}
use Rattle.rg_feed.specs.Fold.Fold.{fold_to}
use Rattle.rg_feed.specs.Fold.Last.{last_at}
use Rattle.rg_laws_utility.specs.CopyWeight.Weighed.{weigh_changes}
use Rattle.rg_shadow.specs.Planned.{AreUnlogged}
use Rattle.rg_shadow.specs.Shade.{Refuses, Shade, lies_in, shade_slots, source_rows, stage_in}
use Rattle.rg_shadow.specs.Shade.{target_of}
use Rattle.rg_shadow.specs.declared.drafts.IndexStage.TheVariants.{Built}
use Rattle.rg_shadow.specs.declared.fault.ShadowFault.{ShadowFault}
use Rattle.rg_shadow.specs.declared.fault.ShadowFault.TheVariants.{NoMemory, NoSpace}

-- the rows of sources are those that the items give, up to the changes taken
abbrev pub Caught : Shade → Received → Type 0
Caught shadow inlet =
    (source : Place) → source_rows shadow source ≡ fold_to inlet.items inlet.taken source

-- a source that none of these changes names has its row and its target, and its row lies where it
-- lay
pub record Unmoved (old new : Shade) (cs : List Change) : Type 0 where
  pub rows : (source : Place) → last_at source cs ≡ None
      → source_rows new source ≡ source_rows old source
  pub targets : (source : Place) → last_at source cs ≡ None
      → target_of new source ≡ target_of old source
  pub lie : (source target : Place) → last_at source cs ≡ None
      → target_of old source ≡ Some target → lies_in new target ≡ lies_in old target

-- a source that has a row before and after has the target that it had
abbrev pub KeepTargets : Shade → Shade → Type 0
KeepTargets old new =
    (source target : Place) → target_of old source ≡ Some target
    → is_some (source_rows new source) ≡ true → target_of new source ≡ Some target

-- The number of the copy and its capacity are the same, and what was built stays so. No record has
-- changed a page, if none had.
pub record SameCopy (old new : Shade) : Type 0 where
  pub copy : new.copy ≡ old.copy
  pub capacity : new.capacity ≡ old.capacity
  pub positions : AreUnlogged old.pages → AreUnlogged new.pages
  pub built : (which : Which) → stage_in which old ≡ Built → stage_in which new ≡ Built

-- as it is, a new copy has no room for the row of one of these changes; or there is no memory
abbrev pub IsRefusedOf : Shade → List Change → ShadowFault → Type 0
IsRefusedOf shadow cs NoSpace =
    (change : Change) × Contains cs change × Refuses shadow change.home change.after NoSpace
IsRefusedOf shadow cs NoMemory = Unit {0}

-- the same of a change that is the last one of its home
abbrev pub IsRefusedLast : Shade → List Change → ShadowFault → Type 0
IsRefusedLast shadow cs NoSpace =
    (change : Change) × (last_at change.home cs ≡ Some change)
    × Refuses shadow change.home change.after NoSpace
IsRefusedLast shadow cs NoMemory = Unit {0}

-- n more changes are taken; out of memory it may be none
abbrev pub StopsAt : ShadowFault → (n before after : ℕ) → Type 0
StopsAt NoSpace n before after = after ≡ before + n
StopsAt NoMemory n before after = (after ≡ before) ⊎ (after ≡ before + n)

-- the pages claim at most the weight of these changes more
abbrev pub ClaimsMore : Shade → Shade → List Change → Type 0
ClaimsMore old new cs =
    claimed_all nobody (shade_slots new) ≤ claimed_all nobody (shade_slots old) + weigh_changes cs

-- one of these changes is refused for want of space only where with them the pages may claim 3,221
-- bytes for each that there may be
abbrev pub IsFullBy : Shade → List Change → ShadowFault → Type 0
IsFullBy s cs NoSpace =
    3221 * s.capacity ≤ claimed_all nobody (shade_slots s) + weigh_changes cs
IsFullBy s cs NoMemory = Unit {0}
