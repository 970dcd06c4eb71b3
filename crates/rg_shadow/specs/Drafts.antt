-- What the indexes of a new copy list, as far as they are made.
--
-- 1. A list that is sorted, and a tree that is built, has for every place with a row the row's
--    value with that place, and nothing else. The list rises by value, page and slot.
use Rattle.std.specs.Prelude.{◌≡◌, ◌≤◌, Bool, true, false, Option}
use Rattle.rg_base.specs.declared.place.Place.{Place}
use Rattle.rg_base.specs.declared.row.Row.{Row}
use Rattle.rg_base.specs.declared.which.Which.{Which}
use Rattle.rg_base.specs.declared.which.Which.TheVariants.{Key, Clus, Cat}
use Rattle.rg_index.specs.Entries.{IsRising}
use Rattle.rg_index.specs.Listed.{IsListingOf}
use Rattle.rg_btree.specs.Indexes.Listings.{IsListedAt, entries_of}
use Rattle.rg_shadow.specs.declared.drafts.Drafts.{Drafts}
use Rattle.rg_shadow.specs.declared.drafts.IndexDraft.{IndexDraft}
use Rattle.rg_shadow.specs.declared.drafts.IndexDraft.TheVariants as draft
use Rattle.rg_shadow.specs.declared.drafts.IndexStage.{IndexStage}
use Rattle.rg_shadow.specs.declared.drafts.IndexStage.TheVariants as stage

abbrev pub stage_of : IndexDraft → IndexStage
stage_of draft.Unsorted = stage.Unsorted
stage_of (draft.Sorted entries) = stage.Sorted
stage_of (draft.Built tree) = stage.Built

abbrev pub is_built : IndexDraft → Bool
is_built draft.Unsorted = false
is_built (draft.Sorted entries) = false
is_built (draft.Built tree) = true

-- what is made of an index lists these rows
abbrev pub IsKept : Which → (Place → Option Row) → IndexDraft → Type 0
IsKept which rows draft.Unsorted = Unit {0}
IsKept which rows (draft.Sorted entries) = IsRising entries × IsListingOf which rows entries
IsKept which rows (draft.Built tree) = IsListingOf which rows (entries_of tree)

-- a tree that is built lists this row at a place, or none
abbrev pub IsKeptAt : Which → IndexDraft → Place → Option Row → Type 0
IsKeptAt which draft.Unsorted place row = Unit {0}
IsKeptAt which (draft.Sorted entries) place row = Unit {0}
IsKeptAt which (draft.Built tree) place row = IsListedAt which (entries_of tree) place row

-- an entry can be added to a tree that is built without memory
abbrev pub HasSpareIn : IndexDraft → Type 0
HasSpareIn draft.Unsorted = Unit {0}
HasSpareIn (draft.Sorted entries) = Unit {0}
HasSpareIn (draft.Built tree) = 1 ≤ tree.spare

-- the same is made, and lists the same
pub record SameDraft (old new : IndexDraft) : Type 0 where
  pub stage : stage_of new ≡ stage_of old
  pub kept : (which : Which) (rows : Place → Option Row)
      → IsKept which rows old → IsKept which rows new

-- what is made of each index lists these rows
pub record AreKept (rows : Place → Option Row) (x : Drafts) : Type 0 where
  pub keys : IsKept Key rows x.keys
  pub cluses : IsKept Clus rows x.cluses
  pub cats : IsKept Cat rows x.cats

-- each tree that is built lists this row at a place, or none
pub record AreKeptAt (x : Drafts) (place : Place) (row : Option Row) : Type 0 where
  pub keys : IsKeptAt Key x.keys place row
  pub cluses : IsKeptAt Clus x.cluses place row
  pub cats : IsKeptAt Cat x.cats place row

-- an entry can be added to each tree that is built without memory
pub record HaveSpare (x : Drafts) : Type 0 where
  pub keys : HasSpareIn x.keys
  pub cluses : HasSpareIn x.cluses
  pub cats : HasSpareIn x.cats

-- of each index the same is made, and lists the same
pub record SameDrafts (old new : Drafts) : Type 0 where
  pub keys : SameDraft old.keys new.keys
  pub cluses : SameDraft old.cluses new.cluses
  pub cats : SameDraft old.cats new.cats

-- what was built is built, and nothing else
pub record KeepBuilt (old new : Drafts) : Type 0 where
  pub keys : is_built new.keys ≡ is_built old.keys
  pub cluses : is_built new.cluses ≡ is_built old.cluses
  pub cats : is_built new.cats ≡ is_built old.cats

-- its list is sorted
abbrev pub HasList : IndexDraft → Type 0
HasList draft.Unsorted = ⊥
HasList (draft.Sorted entries) = IsRising entries
HasList (draft.Built tree) = ⊥

abbrev pub draft_in : Which → Drafts → IndexDraft
draft_in Key x = x.keys
draft_in Clus x = x.cluses
draft_in Cat x = x.cats

-- one of them replaced
abbrev pub with_draft : Which → IndexDraft → Drafts → Drafts
with_draft Key draft x = record x { keys = draft }
with_draft Clus draft x = record x { cluses = draft }
with_draft Cat draft x = record x { cats = draft }

-- a tree was built, which lists what the list did
pub record BuildsOne (which : Which) (old new : Drafts) : Type 0 where
  pub tree : IndexDraft
  pub is : new ≡ with_draft which tree old
  pub built : stage_of tree ≡ stage.Built
  pub kept : (rows : Place → Option Row)
      → IsKept which rows (draft_in which old) → IsKept which rows tree
