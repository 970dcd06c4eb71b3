-- A write of an engine that shows a state: what its plan rests on, and what it leaves.
use Rattle.std.proofs.Common.{◌≡◌, ◌≤◌, ◌<◌, ◌+◌, ◌*◌, ℕ, true, List, [], ◌∷◌, Option, Some, None}
use Rattle.std.proofs.Common.{sym, ◌∙◌, ap, subst, arith}
use Rattle.rg_base.specs.RowBytes.{row_size}
use Rattle.rg_base.specs.declared.place.Place.{Place}
use Rattle.rg_base.specs.declared.row.Row.{Row}
use Rattle.rg_base.specs.declared.session.Session.{Session}
use Rattle.rg_base.specs.declared.which.Which.{Which}
use Rattle.rg_base.specs.declared.which.Which.TheVariants.{Key, Clus, Cat}
use Rattle.rg_home.specs.Pages.{applied, row_or_empty, slot_of}
use Rattle.rg_home.specs.Plan.{is_home, new_area, planned_put, planned_change, planned_drop}
use Rattle.rg_home.specs.Rows.{row_at}
use Rattle.rg_home.specs.Slot.{Slot}
use Rattle.rg_home.specs.declared.plan.Plan.{Plan}
use Rattle.rg_index.specs.Listed.{has_value}
use Rattle.rg_btree.specs.Indexes.Listings.{AreListedAt}
use Rattle.rg_model.specs.Held.{holder}
use Rattle.rg_model.specs.Plain.{write_key}
use Rattle.rg_model.specs.Quiet.{names_key}
use Rattle.rg_model.specs.Said.{may_want_log}
use Rattle.rg_model.specs.State.{State, row_of}
use Rattle.rg_stmt.specs.declared.stmt.Reply.TheVariants.{Done}
use Rattle.rg_stmt.specs.declared.stmt.Stmt.{Stmt}
use Rattle.rg_laws_log.specs.LogState.Act.{LogState}
use Rattle.rg_laws_log.specs.LogState.Consistent.{IsConsistent}
use Rattle.rg_laws_log.specs.LogState.Write.{key_of}
use Rattle.rg_space.specs.Carries.{Carries, cleared}
use Rattle.rg_space.specs.Space.{capacity_in}
use Rattle.rg_log.specs.Kept.{Listed}
use Rattle.rg_engine.specs.Engine.{slots_in}
use Rattle.rg_laws_utility.specs.ByteAccount.Found.{rows_found, rows_made}
use Rattle.rg_home.specs.Table.{IsTable}
use Rattle.rg_engine.specs.Moves.{Moves}
use Rattle.rg_engine.specs.Newest.{KeepsNewest}
use Rattle.rg_engine.specs.Planned.{change_plan, drop_plan, put_plan, units_with}
use Rattle.rg_engine.specs.Reopens.{IsCleanIn, KeepsParts}
use Rattle.rg_engine.specs.Shows.{Shows, left_by}
use Rattle.rg_engine.specs.Wrote.{Wrote}
use Rattle.rg_engine.specs.declared.engine.Engine.{Engine}
use Rattle.rg_engine.specs.declared.units.OpenUnit.{OpenUnit}
use Rattle.rg_engine.proofs.Claimed.{written_claims}
use Rattle.rg_engine.proofs.NewestKept.{space_newest}
use Rattle.rg_engine.proofs.PlansWrite.{MayPlan, full_change, full_put, may_change, may_drop}
use Rattle.rg_engine.proofs.PlansWrite.{may_put}
use Rattle.rg_engine.proofs.Sessions.{are_live, begins, left_consistent, mine}
use Rattle.rg_engine.proofs.UnitsWritten.{IsUnitFor}
use Rattle.rg_engine.proofs.Written.{written_clean, written_moves, written_parts, written_shows}

module _ (st : State) (allowed : ℕ) (d : Engine) (shows : Shows st allowed d) (session : Session)
    (unit : OpenUnit)
    (own : IsUnitFor d.units (left_by shows.first d) session.0 unit) where
  abbrev s : LogState
  s = left_by shows.first d

  abbrev t : ℕ
  t = unit.tran.0

  abbrev limit : ℕ
  limit = capacity_in d.space

  good : IsConsistent limit s
  good = left_consistent st allowed d shows

  -- a plan of this engine that may be carried out
  abbrev pub Plans : (more : ℕ) → Option Row → Plan → Type 0
  Plans more after plan = MayPlan (capacity_in d.space) (left_by shows.first d)
      (left_by shows.first d).pages unit.tran.0 more after plan

  -- the row that is there, by its key
  now_is : (key : ℕ) (row : Option Row) → row_of st.table key ≡ row → s.now key ≡ row
  now_is key row e = sym (shows.by.table key) ∙ e

  pub engine_put : (row : Row) (plan : Plan) → row_of st.table row.key ≡ None
      → holder d.locks session row.key ≡ None → row_size row ≤ 826
      → Some plan ≡ put_plan unit.tran.0 (row_size row) d
      → (plan.before ≡ None) × Plans (18 + row_size row) (Some row) plan
  engine_put row plan absent alone small is =
      may_put limit s good t (begins st allowed d shows session unit own) (units_with t d)
      (are_live st allowed d shows session unit own) row plan
      (now_is row.key None absent) (mine st allowed d shows session unit own row.key alone) small
      (is
      ∙ ap
      (λ (ps : List (List Slot)). planned_put (units_with t d) (row_size row) ps
      (new_area (units_with t d) (row_size row) limit ps)) shows.by.slots)

  pub engine_change : (home : Place) (old row : Row) (plan : Plan)
      → row_at (slot_of (slots_in d)) home ≡ Some old → is_home (slot_of (slots_in d) home) ≡ true
      → holder d.locks session old.key ≡ None → row.key ≡ old.key → row_size row ≤ 826
      → Some plan ≡ change_plan unit.tran.0 (row_size row) home d
      → (plan.before ≡ Some old) × Plans (18 + row_size row) (Some row) plan
  engine_change home old row plan there is_there alone same small is =
      may_change limit s good t (begins st allowed d shows session unit own) (units_with t d)
      (are_live st allowed d shows session unit own) home old row plan
      (subst (λ (ps : List (List Slot)). row_at (slot_of ps) home ≡ Some old) shows.by.slots there)
      (subst (λ (ps : List (List Slot)). is_home (slot_of ps home) ≡ true) shows.by.slots is_there)
      (mine st allowed d shows session unit own old.key alone) same small
      (is
      ∙ ap (λ (ps : List (List Slot)). planned_change (units_with t d) (row_size row) limit ps home)
      shows.by.slots)

  pub engine_drop : (home : Place) (old : Row) (plan : Plan)
      → row_at (slot_of (slots_in d)) home ≡ Some old → is_home (slot_of (slots_in d) home) ≡ true
      → holder d.locks session old.key ≡ None
      → plan ≡ drop_plan home d → (plan.before ≡ Some old) × Plans 0 None plan
  engine_drop home old plan there is_there alone is =
      may_drop limit s good t (begins st allowed d shows session unit own) (units_with t d)
      (are_live st allowed d shows session unit own) home old plan
      (subst (λ (ps : List (List Slot)). row_at (slot_of ps) home ≡ Some old) shows.by.slots there)
      (subst (λ (ps : List (List Slot)). is_home (slot_of ps home) ≡ true) shows.by.slots is_there)
      (mine st allowed d shows session unit own old.key alone)
      (is ∙ ap (λ (ps : List (List Slot)). planned_drop ps home (slot_of ps home)) shows.by.slots)

  -- there is no plan only where the entries so far have allowed 3,221 bytes a page
  pub engine_full_put : (b : ℕ) → b ≤ 826 → put_plan unit.tran.0 b d ≡ None
      → 3221 * capacity_in d.space ≤ allowed
  engine_full_put b small none =
      let full = full_put limit s good t (begins st allowed d shows session unit own)
      (units_with t d) (are_live st allowed d shows session unit own) b small
      (subst
      (λ (ps : List (List Slot)).
      planned_put (units_with t d) b ps (new_area (units_with t d) b limit ps) ≡ None)
      shows.by.slots none) in
      omega (arith, full, shows.by.claimed)

  pub engine_full_change : (b : ℕ) (home : Place) → b ≤ 826
      → change_plan unit.tran.0 b home d ≡ None → 3221 * capacity_in d.space ≤ allowed
  engine_full_change b home small none =
      let full = full_change limit s good t (begins st allowed d shows session unit own)
      (units_with t d) (are_live st allowed d shows session unit own) b home small
      (subst (λ (ps : List (List Slot)). planned_change (units_with t d) b limit ps home ≡ None)
      shows.by.slots none) in
      omega (arith, full, shows.by.claimed)

  -- the indexes list the row before at its home
  pub plan_listed : (more : ℕ) (after : Option Row) (plan : Plan) → Plans more after plan
      → AreListedAt d.indexes plan.home plan.before
  plan_listed more after plan plans =
      let is : (which : Which) (value : ℕ)
      → has_value which value (row_at (slot_of s.pages) plan.home)
      ≡ has_value which value plan.before =
      λ which value. ap (has_value which value) (sym plans.carries.writes.before) in
      record {
        keys = λ value. shows.by.indexes.keys value plan.home ∙ is Key value;
        cluses = λ value. shows.by.indexes.cluses value plan.home ∙ is Clus value;
        cats = λ value. shows.by.indexes.cats value plan.home ∙ is Cat value;
      }

  pub plan_shows : (more key : ℕ) (after : Option Row) (plan : Plan) (new : Engine)
      → Plans more after plan → key_of plan.before after ≡ key → holder d.locks session key ≡ None
      → session.0 < 256
      → Wrote d session unit plan key after new
      → Shows (write_key st session key after) (allowed + more) new
  plan_shows more key after plan new plans of_key alone low wrote =
      written_shows st allowed more d new session unit plan key after shows wrote low own alone
      plans.lawful of_key
      (subst (λ (ps : List (List Slot)). Carries t 0 limit ps after plan) (sym shows.by.slots)
      plans.carries) plans.within
      (written_claims limit s t allowed more plan after good
      (begins st allowed d shows session unit own) plans.lawful shows.by.claimed plans.grows)

  -- the rows are moved by it
  pub plan_moves : (more key : ℕ) (after : Option Row) (plan : Plan) (new : Engine)
      → Plans more after plan → key_of plan.before after ≡ key → holder d.locks session key ≡ None
      → session.0 < 256
      → Wrote d session unit plan key after new → (stmt : Stmt) → may_want_log stmt ≡ true
      → names_key key stmt ≡ true
      → ((found : List (Option Row)) → rows_made stmt Done found ≡ after ∷ [])
      → ((table : ℕ → Option Row) → IsTable (row_at (slot_of (slots_in d))) table
      → (found : List (Option Row)) → rows_found table stmt Done found ≡ plan.before ∷ found)
      → Moves d session stmt Done new
  plan_moves more key after plan new plans of_key alone low wrote =
      written_moves st allowed more d new session unit plan key after shows wrote low own alone
      plans.lawful of_key
      (subst (λ (ps : List (List Slot)). Carries t 0 limit ps after plan) (sym shows.by.slots)
      plans.carries) plans.within

  -- and the parts of the log can be opened
  pub plan_parts : (more key : ℕ) (after : Option Row) (plan : Plan) (new : Engine)
      → Plans more after plan → key_of plan.before after ≡ key → holder d.locks session key ≡ None
      → session.0 < 256
      → Wrote d session unit plan key after new → KeepsParts d new
  plan_parts more key after plan new plans of_key alone low wrote =
      written_parts st allowed more d new session unit plan key after shows wrote low own alone
      plans.lawful of_key
      (subst (λ (ps : List (List Slot)). Carries t 0 limit ps after plan) (sym shows.by.slots)
      plans.carries) plans.within

  pub plan_clean : (more key : ℕ) (after : Option Row) (plan : Plan) (new : Engine)
      → Plans more after plan → key_of plan.before after ≡ key → holder d.locks session key ≡ None
      → session.0 < 256
      → Wrote d session unit plan key after new → IsCleanIn d → IsCleanIn new
  plan_clean more key after plan new plans of_key alone low wrote =
      written_clean st allowed more d new session unit plan key after shows wrote low own alone
      plans.lawful of_key
      (subst (λ (ps : List (List Slot)). Carries t 0 limit ps after plan) (sym shows.by.slots)
      plans.carries) plans.within
      (written_claims limit s t allowed more plan after good
      (begins st allowed d shows session unit own) plans.lawful shows.by.claimed plans.grows)

  -- and the pages stay the newest versions
  pub plan_newest : (more key : ℕ) (after : Option Row) (plan : Plan) (new : Engine)
      → Plans more after plan → Wrote d session unit plan key after new → KeepsNewest d new
  plan_newest more key after plan new plans w = λ e h.
      let space = w.prepared.space in
      let carries : Carries t 0 limit (slots_in d) after plan =
      subst (λ (ps : List (List Slot)). Carries t 0 limit ps after plan) (sym shows.by.slots)
      plans.carries in
      w.put.newest
      (subst (λ sp. Carries t 0 (capacity_in sp) (slots_in (record d { space = sp })) after plan)
      (sym space) carries) e
      (space_newest d.log.records w.middle.log.records d.space w.middle.space
      (ap (λ (l : Listed). l.records) w.prepared.log) space e h)

  -- and the pages are those that its records make
  pub plan_slots : (more key : ℕ) (after : Option Row) (plan : Plan) (new : Engine)
      → Plans more after plan → Wrote d session unit plan key after new
      → slots_in new
      ≡ applied unit.tran.0 (row_or_empty after) (cleared 0 (slots_in d) plan) plan.parts
  plan_slots more key after plan new plans w =
      let space = w.prepared.space in
      let carries : Carries t 0 limit (slots_in d) after plan =
      subst (λ (ps : List (List Slot)). Carries t 0 limit ps after plan) (sym shows.by.slots)
      plans.carries in
      w.put.slots
      (subst (λ sp. Carries t 0 (capacity_in sp) (slots_in (record d { space = sp })) after plan)
      (sym space) carries)
      ∙ ap
      (λ sp. applied t (row_or_empty after) (cleared 0 (slots_in (record d { space = sp })) plan)
      plan.parts) space
