-- A plan of a change, once it is carried out and the mapping table follows.
use Rattle.std.proofs.Common.{◌≡◌, ◌≤◌, ◌+◌, List, Option, Some, None, sym, ◌∙◌, ap, subst}
use Rattle.std.proofs.Math.Nat.{le_refl}
use Rattle.std.specs.Prelude.{IsSomeAnd}
use Rattle.std.specs.FinMap as map
use Rattle.rg_base.specs.declared.place.Place.{Place}
use Rattle.rg_base.specs.declared.row.Row.{Row}
use Rattle.rg_laws_pages.specs.ByteClaims.Claim.{claimed_all, nobody}
use Rattle.rg_laws_pages.specs.ByteClaims.Weight.{weight}
use Rattle.rg_feed.specs.Fold.Fed.{SetsRow}
use Rattle.rg_home.specs.Able.{Proper}
use Rattle.rg_home.specs.Pages.{row_or_empty, slot_of}
use Rattle.rg_home.specs.Plan.{pages_after}
use Rattle.rg_home.specs.Rows.{ChangesHome}
use Rattle.rg_home.specs.Slot.{Slot}
use Rattle.rg_home.specs.declared.plan.Plan.{Plan}
use Rattle.rg_home.specs.Owners.{AllBelow}
use Rattle.rg_home.proofs.Owners.{applied_below}
use Rattle.rg_map.specs.Mapping.{Mapping, Targets}
use Rattle.rg_space.specs.Carries.{cleared}
use Rattle.rg_space.specs.Space.{capacity_in}
use Rattle.rg_shadow.specs.Pieces.{Carried, IsReady, IsWhole, SamePieces, rows_in, shade_of}
use Rattle.rg_shadow.specs.Planned.{change_plan, drop_plan, put_plan, slots_in}
use Rattle.rg_shadow.specs.Valued.{AreKeptValues}
use Rattle.rg_shadow.specs.Shade.{Applies, Shade, plan_at, plan_for}
use Rattle.rg_shadow.specs.declared.pieces.Pieces.{Pieces}
use Rattle.rg_shadow.proofs.Claiming.{plan_claims}
use Rattle.rg_shadow.proofs.Keeping.{same_shade, still_built}
use Rattle.rg_shadow.proofs.Moving.{Moves, applied, mapped, put_in, replaced, row_set, taken_out}

-- the new copy with this mapping table follows the old one
pub record Follows (old mid car : Pieces) (m : Mapping) (source : Place) (after : Option Row)
    : Type 0 where
  pub whole : IsWhole (record car { map = m })
  pub applies : Applies (shade_of old) source after (shade_of (record car { map = m }))

module _ (old mid car : Pieces) (plan : Plan) (source : Place) (same : SamePieces old mid)
    (whole : IsWhole mid) where
  pub changes : (after : Option Row) → IsReady mid after plan → Carried mid plan after car
      → ChangesHome (slot_of (slots_in mid.space)) (slot_of (slots_in car.space)) plan.home after
  changes after ready carried =
      subst
      (λ (ps : List (List Slot)). ChangesHome (slot_of (slots_in mid.space)) (slot_of ps) plan.home
      after) (sym carried.slots) ready.carries.writes.changes

  pub sets : (after : Option Row) → IsReady mid after plan → Carried mid plan after car
      → SetsRow (rows_in mid) (rows_in car) plan.home after
  sets after ready carried =
      row_set (shade_of mid) (shade_of car) plan.home after (changes after ready carried)

  -- what the plan leaves dead is of owner 0
  below : (after : Option Row) → IsReady mid after plan → Carried mid plan after car
      → AllBelow 0 (slot_of (slots_in car.space))
  below after ready carried =
      let c = ready.carries in
      let purged = applied_below 0 0 (row_or_empty None) (capacity_in mid.space)
      (slots_in mid.space) plan.purge (le_refl 0) c.purge_fits whole.below in
      subst (λ (ps : List (List Slot)). AllBelow 0 (slot_of ps)) (c.after ∙ sym carried.slots)
      (applied_below 0 0 (row_or_empty after) (capacity_in mid.space)
      (cleared 0 (slots_in mid.space) plan) plan.parts (le_refl 0) c.parts_fit purged)

  follows : (m : Mapping) (after : Option Row) → IsReady mid after plan → Carried mid plan after car
      → Moves mid.map.targets m.targets (rows_in mid) (rows_in car) source plan.home after
      → plan_for (shade_of mid) source after ≡ Some plan
      → Follows old mid car m source after
  follows m after ready carried moves is = record {
    whole = record {
      has = carried.has;
      proper = subst Proper (sym carried.slots) ready.carries.writes.proper;
      below = below after ready carried;
      mapped = mapped mid.map.targets m.targets (rows_in mid) (rows_in car) source plan.home after
          moves whole.mapped;
      kept = carried.kept;
      values = subst (AreKeptValues (slots_in car.space)) (sym carried.values) tt;
    };
    applies = subst (λ (s : Shade). Applies s source after (shade_of (record car { map = m })))
        (same_shade old mid same) (applied (shade_of mid) (shade_of (record car { map = m })) source
        plan.home after moves (changes after ready carried) (record {
          pages = subst
              (λ (o : Option Plan). IsSomeAnd o
              (λ p. slots_in car.space ≡ pages_after 0 (row_or_empty after) (slots_in mid.space) p))
              (sym is) carried.slots;
          claims =
              subst
              (λ (ps : List (List Slot)). claimed_all nobody ps
              ≤ claimed_all nobody (slots_in mid.space) + weight after) (sym carried.slots)
              (plan_claims (shade_of mid) whole.proper source after plan whole.mapped is);
          positions = carried.positions;
          copy = carried.copy;
          capacity = carried.capacity;
          built = still_built mid (record car { map = m }) carried.built;
        }));
  }

  -- the target of a source, before the plan was made
  was : (o : Option Place) → map.get old.map.targets source ≡ o → map.get mid.map.targets source ≡ o
  was o e = ap (λ (ts : Targets). map.get ts source) same.targets ∙ e

  pub put_follows : (m : Mapping) (row : Row) → IsReady mid (Some row) plan
      → Carried mid plan (Some row) car
      → map.get old.map.targets source ≡ None → rows_in mid plan.home ≡ None
      → m.targets ≡ map.insert car.map.targets source plan.home
      → put_plan row (capacity_in mid.space) (slots_in mid.space) ≡ Some plan
      → Follows old mid car m source (Some row)
  put_follows m row ready carried none fresh is planned =
      follows m (Some row) ready carried (put_in mid.map.targets m.targets (rows_in mid)
      (rows_in car) source plan.home row whole.mapped (was None none) fresh
      (is ∙ ap (λ (t : Mapping). map.insert t.targets source plan.home) carried.map_is)
      (sets (Some row) ready carried))
      (ap (λ (o : Option Place). plan_at (shade_of mid) o (Some row)) (was None none) ∙ planned)

  pub replace_follows : (target : Place) (row : Row) → IsReady mid (Some row) plan
      → Carried mid plan (Some row) car
      → map.get old.map.targets source ≡ Some target → plan.home ≡ target
      → change_plan row (capacity_in mid.space) (slots_in mid.space) target ≡ Some plan
      → Follows old mid car car.map source (Some row)
  replace_follows target row ready carried there home planned =
      follows car.map (Some row) ready carried (replaced mid.map.targets car.map.targets
      (rows_in mid) (rows_in car) source plan.home row whole.mapped
      (was (Some target) there ∙ ap (λ (p : Place). Some p) (sym home))
      (ap (λ (t : Mapping). t.targets) carried.map_is) (sets (Some row) ready carried))
      (ap (λ (o : Option Place). plan_at (shade_of mid) o (Some row)) (was (Some target) there)
      ∙ planned)

  pub remove_follows : (m : Mapping) (target : Place) → IsReady mid None plan
      → Carried mid plan None car
      → map.get old.map.targets source ≡ Some target → plan.home ≡ target
      → m.targets ≡ map.remove car.map.targets source
      → plan ≡ drop_plan (slots_in mid.space) target → Follows old mid car m source None
  remove_follows m target ready carried there home is planned =
      follows m None ready carried
      (taken_out mid.map.targets m.targets (rows_in mid) (rows_in car) source plan.home whole.mapped
      (was (Some target) there ∙ ap (λ (p : Place). Some p) (sym home))
      (is ∙ ap (λ (t : Mapping). map.remove t.targets source) carried.map_is)
      (sets None ready carried))
      (ap (λ (o : Option Place). plan_at (shade_of mid) o None) (was (Some target) there)
      ∙ ap (λ (p : Plan). Some p) (sym planned))
