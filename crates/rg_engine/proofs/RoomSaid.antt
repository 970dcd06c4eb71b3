-- What a plan, or the want of one, says of the engine before it was planned.
use Rattle.std.proofs.Common.{◌≡◌, ℕ, Bool, List, ◌∷◌, Option, Some, None, sym, ◌∙◌, ap, subst, inl}
use Rattle.std.proofs.Common.{inr}
use Rattle.std.specs.Option.{is_some}
use Rattle.rg_base.specs.declared.place.Place.{Place}
use Rattle.rg_base.specs.declared.row.Row.{Row}
use Rattle.rg_base.specs.declared.session.Session.{Session}
use Rattle.rg_base.specs.RowBytes.{row_size}
use Rattle.rg_home.specs.Pages.{slot_of}
use Rattle.rg_home.specs.Plan.{new_area, planned_change, planned_drop, planned_put}
use Rattle.rg_home.specs.Rows.{row_at}
use Rattle.rg_home.specs.Slot.{Slot}
use Rattle.rg_home.specs.declared.plan.Plan.{Plan}
use Rattle.rg_model.specs.State.{State}
use Rattle.rg_stmt.specs.declared.stmt.Reply.{Reply}
use Rattle.rg_stmt.specs.declared.stmt.Reply.TheVariants.{Done, LogFull, NoMemory}
use Rattle.rg_stmt.specs.declared.stmt.Stmt.TheVariants.{Insert, Update, Delete}
use Rattle.rg_engine.specs.Engine.{ground_of, slots_in}
use Rattle.rg_engine.specs.Bytes.{needed}
use Rattle.rg_engine.specs.Planned.{change_plan, drop_plan, put_plan}
use Rattle.rg_engine.specs.Room.{HasPlan, IfNeeds, IsHomeOfKey, number_in, plan_to_change}
use Rattle.rg_engine.specs.Room.{plan_to_put}
use Rattle.rg_engine.specs.Shows.{Shows, left_by}
use Rattle.rg_engine.specs.Steps.{IsUnitOf}
use Rattle.rg_engine.specs.Units.{trans_of, unit_at}
use Rattle.rg_engine.specs.Wrote.{Refuses, SameEngine, Writes}
use Rattle.rg_engine.specs.declared.engine.Engine.{Engine}
use Rattle.rg_engine.specs.declared.units.OpenUnit.{OpenUnit}
use Rattle.rg_engine.proofs.Sessions.{left_consistent}

-- `mid` is the engine once the write was planned
module _ (st : State) (allowed : ℕ) (d : Engine) (shows : Shows st allowed d) (session : Session)
    (unit : OpenUnit) (is_unit : IsUnitOf d session.0 unit) (mid : Engine)
    (same : SameEngine d mid) where
  number : unit.tran.0 ≡ number_in (unit_at d.units session.0) d.top
  number = go is_unit
    where
      go : IsUnitOf d session.0 unit → unit.tran.0 ≡ number_in (unit_at d.units session.0) d.top
      go (inl has) = ap (λ (o : Option OpenUnit). number_in o d.top) (sym has)
      go (inr new) = ap (λ (u : OpenUnit). u.tran.0) new.1
          ∙ ap (λ (o : Option OpenUnit). number_in o d.top) (sym new.0)

  put_is : (b : ℕ) → put_plan unit.tran.0 b mid ≡ plan_to_put (ground_of d) session.0 b
  put_is b = λ i.
      planned_put (number i ∷ trans_of (same.units i)) b (same.slots i)
      (new_area (number i ∷ trans_of (same.units i)) b (same.capacity i) (same.slots i))

  change_is : (b : ℕ) (home : Place)
      → change_plan unit.tran.0 b home mid ≡ plan_to_change (ground_of d) session.0 b home
  change_is b home = λ i. planned_change (number i ∷ trans_of (same.units i)) b (same.capacity i)
      (same.slots i) home

  pub put_room : (row : Row) (plan : Option Plan) (has : Bool)
      → plan ≡ put_plan unit.tran.0 (row_size row) mid → is_some plan ≡ has
      → HasPlan has (ground_of d) session.0 (Insert row)
  put_room row plan has is e =
      ap (λ (o : Option Plan). is_some o) (sym (is ∙ put_is (row_size row))) ∙ e

  pub change_room : (home : Place) (old row : Row) (plan : Option Plan) (has : Bool)
      → row_at (slot_of (slots_in d)) home ≡ Some old → row.key ≡ old.key
      → plan ≡ change_plan unit.tran.0 (row_size row) home mid → is_some plan ≡ has
      → HasPlan has (ground_of d) session.0 (Update row)
  change_room home old row plan has there key is e = λ other at.
      let here : (p : Place) (found : Row) → row_at (slot_of (slots_in d)) p ≡ Some found
      → row_at (slot_of (left_by shows.first d).pages) p ≡ Some found =
      λ p found h. subst (λ (ps : List (List Slot)). row_at (slot_of ps) p ≡ Some found)
      shows.by.slots h in
      let one : home ≡ other = (left_consistent st allowed d shows).table.once home other old at.row
      (here home old there) (here other at.row at.there) (sym key ∙ sym at.key_is) in
      ap (λ (o : Option Plan). is_some o)
      (sym
      (is ∙ change_is (row_size row) home
      ∙ ap (plan_to_change (ground_of d) session.0 (row_size row)) one)) ∙ e

  -- what the write needs of the log

  one_plan : (plan other : Plan) → Some plan ≡ Some other → plan ≡ other
  one_plan plan other e = cc (e)

  need_same : (plan other : Plan) (after : Option Row) → plan ≡ other
      → needed (unit_at mid.units session.0) plan after
      ≡ needed (unit_at d.units session.0) other after
  need_same plan other after e = λ i. needed (unit_at (same.units i) session.0) (e i) after

  pub put_needs : (row : Row) (plan : Plan) (P : ℕ → Type 0)
      → Some plan ≡ put_plan unit.tran.0 (row_size row) mid
      → P (needed (unit_at mid.units session.0) plan (Some row))
      → IfNeeds (ground_of d) session.0 (Insert row) P
  put_needs row plan P is h = λ other e. subst P
      (need_same plan other (Some row) (one_plan plan other (is ∙ put_is (row_size row) ∙ sym e))) h

  -- what is so of the plan is so of one that the ground says

  pub put_planned : (row : Row) (plan : Plan) (P : Plan → Type 0)
      → Some plan ≡ put_plan unit.tran.0 (row_size row) mid → P plan
      → (other : Plan) × (Some other ≡ plan_to_put (ground_of d) session.0 (row_size row))
      × P other
  put_planned row plan P is h = (plan, is ∙ put_is (row_size row), h)

  same_home : (home : Place) (old : Row) (key : ℕ) → row_at (slot_of (slots_in d)) home ≡ Some old
      → old.key ≡ key → (other : Place) → IsHomeOfKey (ground_of d) key other → home ≡ other
  same_home home old key there is other at =
      let here : (p : Place) (found : Row) → row_at (slot_of (slots_in d)) p ≡ Some found
      → row_at (slot_of (left_by shows.first d).pages) p ≡ Some found =
      λ p found h. subst (λ (ps : List (List Slot)). row_at (slot_of ps) p ≡ Some found)
      shows.by.slots h in (left_consistent st allowed d shows).table.once home other old at.row
      (here home old there) (here other at.row at.there) (is ∙ sym at.key_is)

  pub change_needs : (home : Place) (old row : Row) (plan : Plan) (P : ℕ → Type 0)
      → row_at (slot_of (slots_in d)) home ≡ Some old → row.key ≡ old.key
      → Some plan ≡ change_plan unit.tran.0 (row_size row) home mid
      → P (needed (unit_at mid.units session.0) plan (Some row))
      → IfNeeds (ground_of d) session.0 (Update row) P
  change_needs home old row plan P there key is h = λ other at plan2 e.
      let one : home ≡ other = same_home home old row.key there (sym key) other at in
      subst P
      (need_same plan plan2 (Some row)
      (one_plan plan plan2
      (is ∙ change_is (row_size row) home
      ∙ ap (plan_to_change (ground_of d) session.0 (row_size row)) one ∙ sym e))) h

  pub change_planned : (home : Place) (old row : Row) (plan : Plan) (P : Plan → Type 0)
      → row_at (slot_of (slots_in d)) home ≡ Some old → row.key ≡ old.key
      → Some plan ≡ change_plan unit.tran.0 (row_size row) home mid → P plan
      → (other : Place) × IsHomeOfKey (ground_of d) row.key other × (plan2 : Plan)
      × (Some plan2 ≡ plan_to_change (ground_of d) session.0 (row_size row) other) × P plan2
  change_planned home old row plan P there key is h = (
    home,
    record { row = old; there = there; key_is = sym key },
    plan,
    is ∙ change_is (row_size row) home,
    h,
  )

  pub drop_planned : (home : Place) (old : Row) (key : ℕ) (plan : Plan) (P : Plan → Type 0)
      → row_at (slot_of (slots_in d)) home ≡ Some old → old.key ≡ key
      → plan ≡ drop_plan home mid → P plan
      → (other : Place) × IsHomeOfKey (ground_of d) key other
      × P (planned_drop (slots_in d) other (slot_of (slots_in d) other))
  drop_planned home old key plan P there is_key is h =
      let drop : drop_plan home mid ≡ planned_drop (slots_in d) home (slot_of (slots_in d) home) =
      λ i. planned_drop (same.slots i) home (slot_of (same.slots i) home) in (
        home,
        record { row = old; there = there; key_is = is_key },
        subst P (is ∙ drop) h,
      )

  pub drop_needs : (home : Place) (old : Row) (key : ℕ) (plan : Plan) (P : ℕ → Type 0)
      → row_at (slot_of (slots_in d)) home ≡ Some old → old.key ≡ key
      → plan ≡ drop_plan home mid → P (needed (unit_at mid.units session.0) plan None)
      → IfNeeds (ground_of d) session.0 (Delete key) P
  drop_needs home old key plan P there is_key is h = λ other at.
      let one : home ≡ other = same_home home old key there is_key other at in
      let drop : drop_plan home mid ≡ planned_drop (slots_in d) home (slot_of (slots_in d) home) =
      λ i. planned_drop (same.slots i) home (slot_of (same.slots i) home) in
      subst P
      (need_same plan (planned_drop (slots_in d) other (slot_of (slots_in d) other)) None
      (is ∙ drop ∙ ap (λ (p : Place). planned_drop (slots_in d) p (slot_of (slots_in d) p)) one)) h

-- what was refused, was refused as a write is
pub refused_writes : (old : Engine) (session : Session) (unit : OpenUnit) (plan : Plan) (key : ℕ)
    (after : Option Row) (reply : Reply) (new : Engine)
    → Refuses old (needed (unit_at old.units session.0) plan after) reply new
    → Writes old session unit plan key after reply new
refused_writes old session unit plan key after Done new h = absurd h
refused_writes old session unit plan key after (LogFull need left) new h = h
refused_writes old session unit plan key after NoMemory new h = h
refused_writes old session unit plan key after reply new h = absurd h
