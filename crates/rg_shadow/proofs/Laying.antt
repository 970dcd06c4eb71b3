-- The layout of a new copy, all indexes of which are built.
use Rattle.std.proofs.Common.{◌≡◌, Option, subst}
use Rattle.rg_base.specs.declared.place.Place.{Place}
use Rattle.rg_base.specs.declared.row.Row.{Row}
use Rattle.rg_base.specs.declared.which.Which.TheVariants.{Key, Clus, Cat}
use Rattle.rg_index.specs.Indexed.{Indexed}
use Rattle.rg_btree.specs.Indexes.Listings.{AreListings}
use Rattle.rg_layout.specs.Right.{IsRightFor}
use Rattle.rg_stmt.specs.declared.layout.Side.{Side}
use Rattle.rg_shadow.specs.Drafts.{AreKept, IsKept}
use Rattle.rg_shadow.specs.Pieces.{IsWhole, rows_in, shade_of}
use Rattle.rg_shadow.specs.Planned.{slots_in}
use Rattle.rg_shadow.specs.Shade.{IsRightSideOf}
use Rattle.rg_shadow.specs.declared.drafts.Drafts.{Drafts}
use Rattle.rg_shadow.specs.declared.drafts.IndexDraft.TheVariants as draft
use Rattle.rg_shadow.specs.declared.pieces.Pieces.{Pieces}

-- these are the trees of the three indexes
pub record HasTrees (x : Drafts) (keys cluses cats : Indexed) : Type 0 where
  pub keys_are : x.keys ≡ draft.Built keys
  pub cluses_are : x.cluses ≡ draft.Built cluses
  pub cats_are : x.cats ≡ draft.Built cats

listings : (rows : Place → Option Row) (x : Drafts) (keys cluses cats : Indexed)
    → HasTrees x keys cluses cats → AreKept rows x
    → AreListings rows (record { keys = keys; cluses = cluses; cats = cats })
listings rows x keys cluses cats has kept = record {
  keys = subst (IsKept Key rows) has.keys_are kept.keys;
  cluses = subst (IsKept Clus rows) has.cluses_are kept.cluses;
  cats = subst (IsKept Cat rows) has.cats_are kept.cats;
}

pub right_side : (p : Pieces) (keys cluses cats : Indexed) (side : Side)
    → HasTrees p.drafts keys cluses cats → IsWhole p
    → IsRightFor (slots_in p.space) (record { keys = keys; cluses = cluses; cats = cats }) side
    → IsRightSideOf (shade_of p) side
right_side p keys cluses cats side has whole right table is =
    right whole.proper.tied table is (listings (rows_in p) p.drafts keys cluses cats has whole.kept)
