-- What a new copy keeps.
--
-- 1. Its pages are proper: each Pointer and Over name each other, pages are within their bytes, and
--    rows within their areas.
-- 2. Every dead area has owner 0, since the plans of a new copy are carried out by transaction 0.
-- 3. No two sources have one target. Each target is the home of a row, and each home of a row is a
--    target.
-- 4. What is made of each index lists the rows at their homes.
-- 5. Values that were read are those of the rows as they are: a change forgets them.
use Rattle.std.specs.Prelude.{◌≡◌, ◌≤◌, true, None, Option, Some, is_some}
use Rattle.std.specs.FinMap as map
use Rattle.rg_base.specs.declared.place.Place.{Place}
use Rattle.rg_base.specs.declared.row.Row.{Row}
use Rattle.rg_home.specs.Able.{Proper}
use Rattle.rg_home.specs.Pages.{row_or_empty, slot_of}
use Rattle.rg_home.specs.Plan.{pages_after}
use Rattle.rg_home.specs.Rows.{row_at}
use Rattle.rg_home.specs.declared.plan.Plan.{Plan}
use Rattle.rg_home.specs.Owners.{AllBelow}
use Rattle.rg_map.specs.Mapping.{IsOneToOne, IsTarget, Targets}
use Rattle.rg_shadow.specs.Drafts.{AreKept, HaveSpare, KeepBuilt, SameDrafts, stage_of}
use Rattle.rg_shadow.specs.Planned.{AreUnlogged, HasPages, SameSpace, pages_in, seen_in, slots_in}
use Rattle.rg_shadow.specs.Shade.{Shade}
use Rattle.rg_shadow.specs.Valued.{AreKeptValues}
use Rattle.rg_shadow.specs.declared.pieces.Pieces.{Pieces}
use Rattle.rg_space.specs.Carries.{Carries}
use Rattle.rg_space.specs.Ready.{IsAtHand}
use Rattle.rg_space.specs.Space.{capacity_in, frames_of}

-- the targets are one to one, and are exactly the places with a row
pub record IsMapped (targets : Targets) (rows : Place → Option Row) : Type 0 where
  pub single : IsOneToOne targets
  pub rows_are : (source target : Place) → map.get targets source ≡ Some target
      → is_some (rows target) ≡ true
  pub sources : (target : Place) → is_some (rows target) ≡ true → IsTarget targets target

-- the row whose home is at a place
abbrev pub rows_in : Pieces → Place → Option Row
rows_in p place = row_at (slot_of (slots_in p.space)) place

-- what the pieces are seen as together
abbrev pub shade_of : Pieces → Shade
shade_of p = record {
  copy = (frames_of p.space).copy;
  capacity = capacity_in p.space;
  pages = pages_in p.space;
  targets = p.map.targets;
  keys = stage_of p.drafts.keys;
  cluses = stage_of p.drafts.cluses;
  cats = stage_of p.drafts.cats;
}

pub record IsWhole (p : Pieces) : Type 0 where
  pub has : HasPages p.space
  pub proper : Proper (slots_in p.space)
  pub below : AllBelow 0 (slot_of (slots_in p.space))
  pub mapped : IsMapped p.map.targets (rows_in p)
  pub kept : AreKept (rows_in p) p.drafts
  pub values : AreKeptValues (slots_in p.space) p.values

-- all is the same, but for room
pub record SamePieces (old new : Pieces) : Type 0 where
  pub space : SameSpace old.space new.space
  pub targets : new.map.targets ≡ old.map.targets
  pub drafts : SameDrafts old.drafts new.drafts
  pub values : new.values ≡ old.values

-- a plan can be carried out, and all that it needs is there
pub record IsReady (p : Pieces) (after : Option Row) (plan : Plan) : Type 0 where
  pub carries : Carries 0 0 (capacity_in p.space) (slots_in p.space) after plan
  pub hand : IsAtHand (seen_in p.space) (capacity_in p.space) plan
  pub spare : HaveSpare p.drafts
  pub room : 1 ≤ p.map.spare

-- a plan was carried out, and the indexes followed; the mapping table is as it was
pub record Carried (old : Pieces) (plan : Plan) (after : Option Row) (new : Pieces) : Type 0 where
  pub has : HasPages new.space
  pub copy : (frames_of new.space).copy ≡ (frames_of old.space).copy
  pub capacity : capacity_in new.space ≡ capacity_in old.space
  pub slots : slots_in new.space ≡ pages_after 0 (row_or_empty after) (slots_in old.space) plan
  pub positions : AreUnlogged (pages_in old.space) → AreUnlogged (pages_in new.space)
  pub map_is : new.map ≡ old.map
  pub kept : AreKept (rows_in new) new.drafts
  pub built : KeepBuilt old.drafts new.drafts
  pub values : new.values ≡ None
