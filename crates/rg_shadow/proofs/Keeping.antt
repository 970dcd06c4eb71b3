-- What is made of the indexes, and what a new copy keeps.
use Rattle.std.proofs.Common.{◌≡◌, ◌≤◌, List, Option, refl, sym, ◌∙◌, ap, subst}
use Rattle.std.specs.Prelude.{OnErr, OnOk}
use Rattle.std.specs.declared.result.Result.{Result}
use Rattle.std.specs.declared.result.Result.TheVariants.{Ok, Err}
use Rattle.rg_base.specs.declared.no_memory.NoMemory.{NoMemory}
use Rattle.rg_base.specs.declared.place.Place.{Place}
use Rattle.rg_base.specs.declared.row.Row.{Row}
use Rattle.rg_base.specs.declared.which.Which.{Which}
use Rattle.rg_base.specs.declared.which.Which.TheVariants.{Key, Clus, Cat}
use Rattle.rg_home.specs.Able.{Proper}
use Rattle.rg_home.specs.Pages.{slot_of}
use Rattle.rg_home.specs.Rows.{ChangesHome, row_at}
use Rattle.rg_home.specs.Slot.{Slot}
use Rattle.rg_index.specs.Listed.{SetsRow, has_value}
use Rattle.rg_home.specs.Owners.{AllBelow}
use Rattle.rg_map.specs.Mapping.{Targets}
use Rattle.rg_home.specs.declared.plan.Plan.{Plan}
use Rattle.rg_page.specs.Content.{slots_of}
use Rattle.rg_page.specs.declared.list.ListFrames.{ListFrames}
use Rattle.rg_space.specs.Carries.{Carries}
use Rattle.rg_space.specs.Ready.{IsAtHand}
use Rattle.rg_space.specs.Space.{capacity_in}
use Rattle.rg_space.specs.declared.space.Space.{Space}
use Rattle.rg_shadow.specs.Drafts.{AreKept, AreKeptAt, BuildsOne, HaveSpare, IsKept, IsKeptAt}
use Rattle.rg_shadow.specs.Drafts.{KeepBuilt, SameDrafts, draft_in, is_built, stage_of, with_draft}
use Rattle.rg_shadow.specs.Pieces.{IsMapped, IsReady, IsWhole, SamePieces, rows_in, shade_of}
use Rattle.rg_shadow.specs.Planned.{HasPages, SameSpace, seen_in, slots_in}
use Rattle.rg_shadow.specs.Shade.{stage_in}
use Rattle.rg_shadow.specs.Valued.{AreKeptValues}
use Rattle.rg_shadow.specs.declared.drafts.Drafts.{Drafts}
use Rattle.rg_shadow.specs.declared.drafts.IndexDraft.{IndexDraft}
use Rattle.rg_shadow.specs.declared.drafts.IndexDraft.TheVariants as draft
use Rattle.rg_shadow.specs.declared.drafts.IndexStage.TheVariants as stage
use Rattle.rg_shadow.specs.declared.pieces.Pieces.{Pieces}

-- a tree lists the row at each place

one_at :
    (which : Which) (rows : Place → Option Row) (x : IndexDraft) (place : Place) (row : Option Row)
    → rows place ≡ row → IsKept which rows x → IsKeptAt which x place row
one_at which rows draft.Unsorted place row e kept = tt
one_at which rows (draft.Sorted entries) place row e kept = tt
one_at which rows (draft.Built tree) place row e kept =
    λ value. kept value place ∙ ap (has_value which value) e

pub kept_at : (rows : Place → Option Row) (x : Drafts) (place : Place) (row : Option Row)
    → rows place ≡ row → AreKept rows x → AreKeptAt x place row
kept_at rows x place row e kept = record {
  keys = one_at Key rows x.keys place row e kept.keys;
  cluses = one_at Clus rows x.cluses place row e kept.cluses;
  cats = one_at Cat rows x.cats place row e kept.cats;
}

pub kept_same : (rows : Place → Option Row) (x y : Drafts) → SameDrafts x y → AreKept rows x
    → AreKept rows y
kept_same rows x y same kept = record {
  keys = same.keys.kept Key rows kept.keys;
  cluses = same.cluses.kept Clus rows kept.cluses;
  cats = same.cats.kept Cat rows kept.cats;
}

-- what a plan that is carried out does to the rows
pub listed_row : (at after : Place → Slot) (home : Place) (row : Option Row)
    → ChangesHome at after home row → SetsRow (row_at at) (row_at after) home row
listed_row at after home row c = record { set = c.here; others = c.others }

-- what was built is still built

one_built : (x y : IndexDraft) → is_built y ≡ is_built x → stage_of x ≡ stage.Built
    → stage_of y ≡ stage.Built
one_built draft.Unsorted y e f = absurd (cc (f))
one_built (draft.Sorted entries) y e f = absurd (cc (f))
one_built (draft.Built tree) draft.Unsorted e f = absurd (cc (e))
one_built (draft.Built tree) (draft.Sorted entries) e f = absurd (cc (e))
one_built (draft.Built tree) (draft.Built other) e f = refl

pub still_built : (old new : Pieces) → KeepBuilt old.drafts new.drafts → (which : Which)
    → stage_in which (shade_of old) ≡ stage.Built → stage_in which (shade_of new) ≡ stage.Built
still_built old new kept Key e = one_built old.drafts.keys new.drafts.keys kept.keys e
still_built old new kept Clus e = one_built old.drafts.cluses new.drafts.cluses kept.cluses e
still_built old new kept Cat e = one_built old.drafts.cats new.drafts.cats kept.cats e

-- the same but for room

pub same_shade : (old new : Pieces) → SamePieces old new → shade_of new ≡ shade_of old
same_shade old new same = λ i. record {
  copy = same.space.copy i;
  capacity = same.space.capacity i;
  pages = same.space.pages i;
  targets = same.targets i;
  keys = same.drafts.keys.stage i;
  cluses = same.drafts.cluses.stage i;
  cats = same.drafts.cats.stage i;
}

-- the slots of the pages, the targets and what is made of the indexes are the same
pub record SameSlots (old new : Pieces) : Type 0 where
  pub slots : slots_in new.space ≡ slots_in old.space
  pub targets : new.map.targets ≡ old.map.targets
  pub drafts : SameDrafts old.drafts new.drafts
  pub values : new.values ≡ old.values

pub whole_slots : (old new : Pieces) → SameSlots old new → HasPages new.space → IsWhole old
    → IsWhole new
whole_slots old new same has was = record {
  has = has;
  proper = subst Proper (sym same.slots) was.proper;
  below = subst (λ (ps : List (List Slot)). AllBelow 0 (slot_of ps)) (sym same.slots) was.below;
  mapped = subst (λ (ts : Targets). IsMapped ts (rows_in new)) (sym same.targets)
      (subst
      (λ (ps : List (List Slot)). IsMapped old.map.targets (λ place. row_at (slot_of ps) place))
      (sym same.slots) was.mapped);
  kept = kept_same (rows_in new) old.drafts new.drafts same.drafts
      (subst (λ (ps : List (List Slot)). AreKept (λ place. row_at (slot_of ps) place) old.drafts)
      (sym same.slots) was.kept);
  values = subst (AreKeptValues (slots_in new.space)) (sym same.values)
      (subst (λ (ps : List (List Slot)). AreKeptValues ps old.values) (sym same.slots) was.values);
}

pub whole_same : (old new : Pieces) → SamePieces old new → HasPages new.space → IsWhole old
    → IsWhole new
whole_same old new same has was =
    whole_slots old new
    (record {
      slots = ap slots_of same.space.pages;
      targets = same.targets;
      drafts = same.drafts;
      values = same.values;
    }) has was

pub same_drafts : (x : Drafts) → SameDrafts x x
same_drafts x = record {
  keys = record { stage = refl; kept = λ which rows kept. kept };
  cluses = record { stage = refl; kept = λ which rows kept. kept };
  cats = record { stage = refl; kept = λ which rows kept. kept };
}

-- a plan was made
pub planned_whole : (p : Pieces) (space : Space ListFrames) → SameSpace p.space space
    → HasPages space → IsWhole p → IsWhole (record p { space = space })
planned_whole p space same has was = whole_same p (record p { space = space })
    (record { space = same; targets = refl; drafts = same_drafts p.drafts; values = refl }) has was

pub slots_same : (old new : Space ListFrames) → SameSpace old new → slots_in new ≡ slots_in old
slots_same old new same = ap slots_of same.pages

-- a plan that was made is ready once the room is taken
pub ready_at : (p : Pieces) (space : Space ListFrames) (after : Option Row) (plan : Plan)
    → p.space ≡ space
    → Carries 0 0 (capacity_in space) (slots_in space) after plan
    → IsAtHand (seen_in space) (capacity_in space) plan
    → HaveSpare p.drafts → 1 ≤ p.map.spare → IsReady p after plan
ready_at p space after plan is carries hand spare room = record {
  carries = subst (λ (sp : Space ListFrames). Carries 0 0 (capacity_in sp) (slots_in sp) after plan)
      (sym is) carries;
  hand =
      subst (λ (sp : Space ListFrames). IsAtHand (seen_in sp) (capacity_in sp) plan) (sym is) hand;
  spare = spare;
  room = room;
}

-- a tree was built of a list

one_more : (which : Which) (rows : Place → Option Row) (x : Drafts) (tree : IndexDraft)
    → AreKept rows x
    → (IsKept which rows (draft_in which x) → IsKept which rows tree)
    → AreKept rows (with_draft which tree x)
one_more Key rows x tree kept more =
    record { keys = more kept.keys; cluses = kept.cluses; cats = kept.cats }
one_more Clus rows x tree kept more =
    record { keys = kept.keys; cluses = more kept.cluses; cats = kept.cats }
one_more Cat rows x tree kept more =
    record { keys = kept.keys; cluses = kept.cluses; cats = more kept.cats }

pub built_whole : (p : Pieces) (which : Which) (drafts : Drafts) (r : Result (Unit {0}) NoMemory)
    → OnOk r (BuildsOne which p.drafts drafts) → OnErr r (drafts ≡ p.drafts)
    → IsWhole p → IsWhole (record p { drafts = drafts })
built_whole p which drafts (Ok x) ok err was = record {
  has = was.has;
  proper = was.proper;
  below = was.below;
  mapped = was.mapped;
  kept = subst (AreKept (rows_in p)) (sym ok.is)
      (one_more which (rows_in p) p.drafts ok.tree was.kept (ok.kept (rows_in p)));
  values = was.values;
}
built_whole p which drafts (Err e) ok err was =
    subst (λ (x : Drafts). IsWhole (record p { drafts = x })) (sym err) was
