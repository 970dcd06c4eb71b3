-- How a write goes that was planned, from a state that the engine shows.
use Rattle.std.proofs.Common.{◌≡◌, ◌≤◌, ◌<◌, ◌+◌, ◌*◌, ℕ, true, false, List, [], ◌∷◌, Option, Some}
use Rattle.std.proofs.Common.{None, cond, nat_le, set, refl, sym, ◌∙◌, ap, subst, arith, ◌++◌}
use Rattle.std.proofs.Common.{inl, inr}
use Rattle.rg_base.specs.RowBytes.{row_size}
use Rattle.rg_base.specs.declared.place.Place.{Place}
use Rattle.rg_base.specs.declared.row.Row.{Row}
use Rattle.rg_base.specs.declared.session.Session.{Session}
use Rattle.rg_base.proofs.Small.{nat_itself}
use Rattle.rg_home.specs.Pages.{applied, row_or_empty, slot_of}
use Rattle.rg_home.specs.Plan.{is_home}
use Rattle.rg_home.specs.Rows.{row_at}
use Rattle.rg_home.specs.Slot.{Slot}
use Rattle.rg_home.specs.declared.plan.Plan.{Plan}
use Rattle.rg_btree.specs.Indexes.Listings.{AreListedAt}
use Rattle.rg_model.specs.Held.{holder}
use Rattle.rg_model.specs.Plain.{is_done, plain_reply, write_key}
use Rattle.rg_model.specs.Quiet.{names_key}
use Rattle.rg_model.specs.Said.{may_want_log}
use Rattle.rg_model.specs.State.{Locks, State, row_of}
use Rattle.rg_stmt.specs.declared.stmt.Reply.{Reply}
use Rattle.rg_stmt.specs.declared.stmt.Reply.TheVariants.{Done, Full, LogFull, NoMemory}
use Rattle.rg_stmt.specs.declared.stmt.Stmt.{Stmt}
use Rattle.rg_stmt.specs.declared.stmt.Stmt.TheVariants.{Insert, Update, Delete}
use Rattle.rg_laws_log.specs.LogState.Write.{key_of, write_of}
use Rattle.rg_space.specs.Carries.{cleared}
use Rattle.rg_space.specs.Space.{capacity_in}
use Rattle.rg_space.specs.declared.fault.SpaceFault.{SpaceFault}
use Rattle.rg_space.specs.declared.fault.SpaceFault.TheVariants as faults
use Rattle.rg_image.specs.Pack.{log_bytes}
use Rattle.rg_log.specs.Kept.{Listed, left_of}
use Rattle.rg_engine.specs.Bytes.{most_needed, needed, taken_of}
use Rattle.rg_engine.specs.Effect.{LeavesPlan, unit_to_write, writer_in}
use Rattle.rg_engine.specs.Engine.{ground_of, slots_in}
use Rattle.rg_engine.specs.Planned.{IsRefusal, change_plan, drop_plan, put_plan, refused}
use Rattle.rg_engine.specs.Shows.{Shows, left_by}
use Rattle.rg_laws_utility.specs.ByteAccount.Found.{rows_found, rows_made}
use Rattle.rg_home.specs.Table.{IsTable}
use Rattle.rg_engine.specs.Moves.{Moves}
use Rattle.rg_engine.specs.Newest.{KeepsNewest}
use Rattle.rg_engine.specs.Room.{HasPlan, IfNeeds}
use Rattle.rg_engine.specs.Steps.{Goes, IsUnitOf}
use Rattle.rg_engine.specs.Stored.{Grows}
use Rattle.rg_engine.specs.Units.{unit_at}
use Rattle.rg_engine.specs.Wrote.{Refuses, SameEngine, Writes, Wrote, records_wrote, unit_wrote}
use Rattle.rg_engine.specs.declared.engine.Engine.{Engine}
use Rattle.rg_engine.specs.declared.units.OpenUnit.{OpenUnit}
use Rattle.rg_engine.proofs.Appended.{more_wrote, wrote_more}
use Rattle.rg_engine.proofs.Logged.{bytes_wrote}
use Rattle.rg_engine.specs.Reopens.{IsCleanIn, KeepsParts, PartsReopen}
use Rattle.rg_engine.proofs.Moving.{moves_since}
use Rattle.rg_engine.proofs.NewestKept.{same_newest}
use Rattle.rg_engine.proofs.Reopens.{same_clean, same_reopens}
use Rattle.rg_engine.proofs.RoomSaid.{change_needs, change_planned, change_room, drop_needs}
use Rattle.rg_engine.proofs.RoomSaid.{drop_planned, put_needs, put_planned, put_room}
use Rattle.rg_engine.proofs.EngineWrites.{Plans, engine_change, engine_drop, engine_full_change}
use Rattle.rg_engine.proofs.EngineWrites.{engine_full_put, engine_put, plan_clean, plan_listed}
use Rattle.rg_engine.proofs.EngineWrites.{plan_moves, plan_newest, plan_parts, plan_shows}
use Rattle.rg_engine.proofs.EngineWrites.{plan_slots}
use Rattle.rg_engine.proofs.Statements.{go_full, go_log_full, go_wanting, same_unit, unit_for}
use Rattle.rg_engine.proofs.UnitSlots.{set_here}
use Rattle.rg_engine.proofs.UnitsWritten.{IsUnitFor}

-- what is as it was is so after what is as it was
pub same_same : (a b c : Engine) → SameEngine a b → SameEngine b c → SameEngine a c
same_same a b c f g = record {
  capacity = g.capacity ∙ f.capacity;
  pages = λ h. g.pages (f.pages h);
  slots = g.slots ∙ f.slots;
  contents = g.contents ∙ f.contents;
  of_copy = g.of_copy ∙ f.of_copy;
  log = g.log ∙ f.log;
  entries = record {
    keys = g.entries.keys ∙ f.entries.keys;
    cluses = g.entries.cluses ∙ f.entries.cluses;
    cats = g.entries.cats ∙ f.entries.cats;
  };
  locks = g.locks ∙ f.locks;
  claims = g.claims ∙ f.claims;
  units = g.units ∙ f.units;
  top = g.top ∙ f.top;
  opened = g.opened ∙ f.opened;
  set_aside = g.set_aside ∙ f.set_aside;
}

-- `mid` is the engine once the write was planned, which shows the same state
module _ (st : State) (allowed : ℕ) (d : Engine) (shows : Shows st allowed d) (session : Session)
    (unit : OpenUnit) (is_unit : IsUnitOf d session.0 unit) (mid : Engine) (same : SameEngine d mid)
    (shows_mid : Shows st allowed mid) where
  own_mid : IsUnitFor mid.units (left_by shows_mid.first mid) session.0 unit
  own_mid =
      unit_for st allowed mid shows_mid session unit (same_unit d mid session.0 unit same is_unit)

  alone_mid : (key : ℕ) → holder d.locks session key ≡ None → holder mid.locks session key ≡ None
  alone_mid key alone = ap (λ (ls : Locks). holder ls session key) same.locks ∙ alone

  there_mid : (home : Place) (old : Row) → row_at (slot_of (slots_in d)) home ≡ Some old
      → row_at (slot_of (slots_in mid)) home ≡ Some old
  there_mid home old there =
      ap (λ (ps : List (List Slot)). row_at (slot_of ps) home) same.slots ∙ there

  home_mid : (home : Place) → is_home (slot_of (slots_in d) home) ≡ true
      → is_home (slot_of (slots_in mid) home) ≡ true
  home_mid home is = ap (λ (ps : List (List Slot)). is_home (slot_of ps home)) same.slots ∙ is

  -- a plan of the engine then
  abbrev PlansMid : ℕ → Option Row → Plan → Type 0
  PlansMid more after plan = Plans st allowed mid shows_mid session unit own_mid more after plan

  put : (row : Row) (plan : Plan) → row_of st.table row.key ≡ None
      → holder d.locks session row.key ≡ None → row_size row ≤ 826
      → Some plan ≡ put_plan unit.tran.0 (row_size row) mid
      → PlansMid (18 + row_size row) (Some row) plan
  put row plan absent alone small is =
      (engine_put st allowed mid shows_mid session unit own_mid row plan absent
      (alone_mid row.key alone) small is).1

  put_before : (row : Row) (plan : Plan) → row_of st.table row.key ≡ None
      → holder d.locks session row.key ≡ None → row_size row ≤ 826
      → Some plan ≡ put_plan unit.tran.0 (row_size row) mid → plan.before ≡ None
  put_before row plan absent alone small is =
      (engine_put st allowed mid shows_mid session unit own_mid row plan absent
      (alone_mid row.key alone) small is).0

  change_before : (home : Place) (old row : Row) (plan : Plan)
      → row_at (slot_of (slots_in d)) home ≡ Some old → is_home (slot_of (slots_in d) home) ≡ true
      → holder d.locks session row.key ≡ None → row.key ≡ old.key → row_size row ≤ 826
      → Some plan ≡ change_plan unit.tran.0 (row_size row) home mid → plan.before ≡ Some old
  change_before home old row plan there is_there alone key small is =
      (engine_change st allowed mid shows_mid session unit own_mid home old row plan
      (there_mid home old there) (home_mid home is_there)
      (subst (λ (k : ℕ). holder mid.locks session k ≡ None) key (alone_mid row.key alone)) key small
      is).0

  change : (home : Place) (old row : Row) (plan : Plan)
      → row_at (slot_of (slots_in d)) home ≡ Some old → is_home (slot_of (slots_in d) home) ≡ true
      → holder d.locks session row.key ≡ None → row.key ≡ old.key → row_size row ≤ 826
      → Some plan ≡ change_plan unit.tran.0 (row_size row) home mid
      → PlansMid (18 + row_size row) (Some row) plan
  change home old row plan there is_there alone key small is =
      (engine_change st allowed mid shows_mid session unit own_mid home old row plan
      (there_mid home old there) (home_mid home is_there)
      (subst (λ (k : ℕ). holder mid.locks session k ≡ None) key (alone_mid row.key alone)) key small
      is).1

  drop : (home : Place) (old : Row) (plan : Plan) → row_at (slot_of (slots_in d)) home ≡ Some old
      → is_home (slot_of (slots_in d) home) ≡ true → holder d.locks session old.key ≡ None
      → plan ≡ drop_plan home mid → (plan.before ≡ Some old) × PlansMid 0 None plan
  drop home old plan there is_there alone is =
      engine_drop st allowed mid shows_mid session unit own_mid home old plan
      (there_mid home old there) (home_mid home is_there) (alone_mid old.key alone) is

  -- the indexes list what is at the home of the plan

  pub put_listed : (row : Row) (plan : Plan) → row_of st.table row.key ≡ None
      → holder d.locks session row.key ≡ None → row_size row ≤ 826
      → Some plan ≡ put_plan unit.tran.0 (row_size row) mid
      → AreListedAt mid.indexes plan.home plan.before
  put_listed row plan absent alone small is = plan_listed st allowed mid shows_mid session unit
      own_mid (18 + row_size row) (Some row) plan (put row plan absent alone small is)

  pub change_listed : (home : Place) (old row : Row) (plan : Plan)
      → row_at (slot_of (slots_in d)) home ≡ Some old → is_home (slot_of (slots_in d) home) ≡ true
      → holder d.locks session row.key ≡ None → row.key ≡ old.key → row_size row ≤ 826
      → Some plan ≡ change_plan unit.tran.0 (row_size row) home mid
      → AreListedAt mid.indexes plan.home plan.before
  change_listed home old row plan there is_there alone key small is =
      plan_listed st allowed mid shows_mid session unit own_mid (18 + row_size row) (Some row) plan
      (change home old row plan there is_there alone key small is)

  pub drop_listed : (home : Place) (old : Row) (plan : Plan)
      → row_at (slot_of (slots_in d)) home ≡ Some old → is_home (slot_of (slots_in d) home) ≡ true
      → holder d.locks session old.key ≡ None
      → plan ≡ drop_plan home mid → AreListedAt mid.indexes plan.home plan.before
  drop_listed home old plan there is_there alone is =
      plan_listed st allowed mid shows_mid session unit own_mid 0 None plan
      (drop home old plan there is_there alone is).1

  -- a write goes as its statement says

  wrote_logged : (key : ℕ) (after : Option Row) (plan : Plan) (new : Engine)
      → Wrote mid session unit plan key after new → taken_of new.log ≤ taken_of d.log + most_needed
  wrote_logged key after plan new w =
      omega (
        arith,
        ap log_bytes w.put.records,
        bytes_wrote w.middle.log.records unit plan after,
        w.put.reserved,
        ap (λ (l : Listed). log_bytes l.records) w.prepared.log,
        ap (λ (l : Listed). l.reserved) w.prepared.log,
        w.most,
        ap (λ (l : Listed). taken_of l) same.log,
      )

  wrote_opened : (key : ℕ) (after : Option Row) (plan : Plan) (new : Engine)
      → Wrote mid session unit plan key after new → new.opened ≡ d.opened
  wrote_opened key after plan new w = w.put.base.opened ∙ w.prepared.opened ∙ same.opened

  wrote_held : (key : ℕ) (after : Option Row) (plan : Plan) (new : Engine)
      → Wrote mid session unit plan key after new → new.set_aside ≡ d.set_aside
  wrote_held key after plan new w = w.put.base.set_aside ∙ w.prepared.set_aside ∙ same.set_aside

  wrote_forced : (key : ℕ) (after : Option Row) (plan : Plan) (new : Engine)
      → Wrote mid session unit plan key after new → new.log.forced ≡ d.log.forced
  wrote_forced key after plan new w = w.put.base.forced
      ∙ ap (λ (l : Listed). l.forced) w.prepared.log ∙ ap (λ (l : Listed). l.forced) same.log

  wrote_grows : (key : ℕ) (after : Option Row) (plan : Plan) (new : Engine)
      → Wrote mid session unit plan key after new → Grows d.log new.log
  wrote_grows key after plan new w =
      let more = more_wrote mid.log.records unit plan.purge
      (write_of unit.tran.0 plan.home plan.before after plan.parts) in
      record {
        more = more;
        records =
            w.put.records
            ∙ ap (λ (l : Listed). records_wrote l.records unit plan after) w.prepared.log
            ∙ wrote_more mid.log.records unit plan after
            ∙ ap (λ (l : Listed). l.records ++ more) same.log;
        pages = w.put.base.pages ∙ ap (λ (l : Listed). l.pages) w.prepared.log
            ∙ ap (λ (l : Listed). l.pages) same.log;
      }

  wrote_newest : (more key : ℕ) (after : Option Row) (plan : Plan) (new : Engine)
      → PlansMid more after plan → Wrote mid session unit plan key after new → KeepsNewest d new
  wrote_newest more key after plan new plans w = λ e h. plan_newest st allowed mid shows_mid session
      unit own_mid more key after plan new plans w e (same_newest d mid same e h)

  -- it leaves what its plan says

  writer : unit ≡ writer_in (ground_of d) session.0
  writer = go is_unit
    where
      go : IsUnitOf d session.0 unit → unit ≡ unit_to_write (unit_at d.units session.0) d.top
      go (inl has) = ap (λ (o : Option OpenUnit). unit_to_write o d.top) (sym has)
      go (inr new) =
          new.1 ∙ ap (λ (o : Option OpenUnit). unit_to_write o d.top) (sym new.0)

  wrote_leaves : (more key : ℕ) (after : Option Row) (plan : Plan) (new : Engine)
      → PlansMid more after plan → session.0 < 256 → Wrote mid session unit plan key after new
      → LeavesPlan (ground_of d) session.0 plan after (ground_of new)
  wrote_leaves more key after plan new plans low w =
      let log : w.middle.log
      ≡ record d.log {
        reserved = d.log.reserved + needed (unit_at d.units session.0) plan after;
      } =
      w.prepared.log
      ∙ (λ i.
      let now : Listed = record (same.log i) {
        reserved =
            (same.log i).reserved + needed (unit_at (same.units i) session.0) plan after;
      } in
      now) in
      let units : w.middle.units ≡ d.units = w.prepared.units ∙ same.units in
      let top : w.middle.top ≡ d.top = w.prepared.top ∙ same.top in
      let wrote_unit : Option OpenUnit =
      Some (unit_wrote d.log.records (writer_in (ground_of d) session.0) plan) in
      let all : new.units ≡ set d.units session.0 wrote_unit =
      w.put.units
      ∙ (λ i. set (units i) session.0 (Some (unit_wrote (log i).records (writer i) plan))) in
      record {
        records = w.put.records
            ∙ (λ i. records_wrote (log i).records (writer i) plan after);
        pages = plan_slots st allowed mid shows_mid session unit own_mid more key after plan new
            plans w
            ∙ (λ i. applied (writer i).tran.0 (row_or_empty after) (cleared 0 (same.slots i) plan)
            plan.parts);
        units = all;
        own = ap (λ (us : List (Option OpenUnit)). unit_at us session.0) all
            ∙ set_here d.units session.0 wrote_unit (omega (arith, low, shows.by.places));
        top = w.put.top
            ∙ (λ i. cond (nat_le (writer i).tran.0 (top i)) (top i) (writer i).tran.0);
        capacity = w.put.capacity ∙ ap (λ sp. capacity_in sp) w.prepared.space ∙ same.capacity;
        forced = wrote_forced key after plan new w;
        reserved = w.put.reserved ∙ ap (λ (l : Listed). l.reserved) log;
        log_pages = w.put.base.pages ∙ ap (λ (l : Listed). l.pages) log;
      }

  -- a write has room in the log as the engine had it
  within : (n : ℕ) → n ≤ left_of mid.log → n ≤ left_of d.log
  within n h = subst (λ (l : Listed). n ≤ left_of l) same.log h

  -- LOGFULL stands for what the log has too little left for
  log_full : (stmt : Stmt) (n need left : ℕ) (new : Engine) → may_want_log stmt ≡ true
      → plain_reply st session stmt ≡ Done → Refuses mid n (LogFull need left) new
      → HasPlan true (ground_of d) session.0 stmt
      → IfNeeds (ground_of d) session.0 stmt (λ k. need ≡ k)
      → Goes st allowed d session stmt (LogFull need left) new
  log_full stmt n need left new may done h room needs =
      go_log_full st allowed d shows session stmt need left new may (ap is_done done) room (
        h.1 ∙ ap (λ (l : Listed). left_of l) same.log,
        omega (arith, h.0, h.2),
        omega (arith, h.0, h.3),
        needs,
      ) (same_same d mid new same h.4)

  wrote : (stmt : Stmt) (more key : ℕ) (after : Option Row) (plan : Plan) (new : Engine)
      → plain_reply st session stmt ≡ Done
      → Shows (write_key st session key after) (allowed + more) new
      → Wrote mid session unit plan key after new → capacity_in new.space ≡ capacity_in d.space
  wrote stmt more key after plan new done shown w =
      w.put.capacity ∙ ap (λ sp. capacity_in sp) w.prepared.space ∙ same.capacity

  wrote_parts : (more key : ℕ) (after : Option Row) (plan : Plan) (new : Engine)
      → PlansMid more after plan → key_of plan.before after ≡ key
      → holder mid.locks session key ≡ None → session.0 < 256
      → Wrote mid session unit plan key after new → KeepsParts d new
  wrote_parts more key after plan new plans of_key alone low w = λ capacities e h.
      subst (λ (n : ℕ). PartsReopen capacities e (record new.log { forced = n }))
      (ap (λ (l : Listed). l.forced) same.log)
      (plan_parts st allowed mid shows_mid session unit own_mid more key after plan new plans of_key
      alone low w capacities e (same_reopens capacities e d mid same h))

  wrote_clean : (more key : ℕ) (after : Option Row) (plan : Plan) (new : Engine)
      → PlansMid more after plan → key_of plan.before after ≡ key
      → holder mid.locks session key ≡ None → session.0 < 256
      → Wrote mid session unit plan key after new → IsCleanIn d → IsCleanIn new
  wrote_clean more key after plan new plans of_key alone low w =
      λ clean. plan_clean st allowed mid shows_mid session unit own_mid more key after plan new
      plans of_key alone low w (same_clean d mid same clean)

  wrote_moves : (more key : ℕ) (after : Option Row) (plan : Plan) (new : Engine)
      → PlansMid more after plan → key_of plan.before after ≡ key
      → holder mid.locks session key ≡ None → session.0 < 256
      → Wrote mid session unit plan key after new → (stmt : Stmt) → may_want_log stmt ≡ true
      → names_key key stmt ≡ true
      → ((found : List (Option Row)) → rows_made stmt Done found ≡ after ∷ [])
      → ((table : ℕ → Option Row) → IsTable (row_at (slot_of (slots_in mid))) table
      → (found : List (Option Row)) → rows_found table stmt Done found ≡ plan.before ∷ found)
      → Moves d session stmt Done new
  wrote_moves more key after plan new plans of_key alone low w stmt may names rows finds =
      moves_since d mid session stmt Done new same
      (plan_moves st allowed mid shows_mid session unit own_mid more key after plan new plans of_key
      alone low w stmt may names rows finds)

  pub put_goes : (row : Row) (plan : Plan) (reply : Reply) (new : Engine) → session.0 < 256
      → row_of st.table row.key ≡ None → holder d.locks session row.key ≡ None → row_size row ≤ 826
      → Some plan ≡ put_plan unit.tran.0 (row_size row) mid
      → plain_reply st session (Insert row) ≡ Done
      → Writes mid session unit plan row.key (Some row) reply new
      → Goes st allowed d session (Insert row) reply new
  put_goes row plan Done new low absent alone small is done w =
      let plans = put row plan absent alone small is in
      let shown = plan_shows st allowed mid shows_mid session unit own_mid (18 + row_size row)
      row.key (Some row) plan new plans refl (alone_mid row.key alone) low w in
      record {
        says = sym done;
        room =
            put_room st allowed d shows session unit is_unit mid same row (Some plan) true is refl;
        log = put_needs st allowed d shows session unit is_unit mid same row plan
            (λ n. n ≤ left_of d.log) is (within _ w.prepared.room);
        logged = wrote_logged row.key (Some row) plan new w;
        opened = wrote_opened row.key (Some row) plan new w;
        set_aside = wrote_held row.key (Some row) plan new w;
        grows = wrote_grows row.key (Some row) plan new w;
        forced = λ e. wrote_forced row.key (Some row) plan new w;
        newest = wrote_newest (18 + row_size row) row.key (Some row) plan new plans w;
        parts = wrote_parts (18 + row_size row) row.key (Some row) plan new plans refl
            (alone_mid row.key alone) low w;
        clean = wrote_clean (18 + row_size row) row.key (Some row) plan new plans refl
            (alone_mid row.key alone) low w;
        left = tt;
        shows = shown;
        moves = wrote_moves (18 + row_size row) row.key (Some row) plan new plans refl
            (alone_mid row.key alone) low w (Insert row) refl (nat_itself row.key) (λ found. refl)
            (λ table is_table found. ap (λ (r : Option Row). r ∷ found)
            (sym (put_before row plan absent alone small is)));
        kept = λ is. absurd (cc (is));
        capacity = wrote (Insert row) (18 + row_size row) row.key (Some row) plan new done shown w;
        effect = put_planned st allowed d shows session unit is_unit mid same row plan
            (λ other. LeavesPlan (ground_of d) session.0 other (Some row) (ground_of new)) is
            (wrote_leaves (18 + row_size row) row.key (Some row) plan new plans low w);
      }
  put_goes row plan (LogFull need left) new low absent alone small is done w =
      log_full (Insert row) _ need left new refl done w
      (put_room st allowed d shows session unit is_unit mid same row (Some plan) true is refl)
      (put_needs st allowed d shows session unit is_unit mid same row plan (λ n. need ≡ n) is w.0)
  put_goes row plan NoMemory new low absent alone small is done w =
      go_wanting st allowed d shows session (Insert row) new refl (same_same d mid new same w)
  put_goes row plan reply new low absent alone small is done w = absurd w

  pub change_goes : (home : Place) (old row : Row) (plan : Plan) (reply : Reply) (new : Engine)
      → session.0 < 256 → row_at (slot_of (slots_in d)) home ≡ Some old
      → is_home (slot_of (slots_in d) home) ≡ true → holder d.locks session row.key ≡ None
      → row.key ≡ old.key → row_size row ≤ 826
      → Some plan ≡ change_plan unit.tran.0 (row_size row) home mid
      → plain_reply st session (Update row) ≡ Done
      → Writes mid session unit plan row.key (Some row) reply new
      → Goes st allowed d session (Update row) reply new
  change_goes home old row plan Done new low there is_there alone key small is done w =
      let plans = change home old row plan there is_there alone key small is in
      let shown = plan_shows st allowed mid shows_mid session unit own_mid (18 + row_size row)
      row.key (Some row) plan new plans refl (alone_mid row.key alone) low w in
      record {
        says = sym done;
        room = change_room st allowed d shows session unit is_unit mid same home old row (Some plan)
            true there key is refl;
        log = change_needs st allowed d shows session unit is_unit mid same home old row plan
            (λ n. n ≤ left_of d.log) there key is (within _ w.prepared.room);
        logged = wrote_logged row.key (Some row) plan new w;
        opened = wrote_opened row.key (Some row) plan new w;
        set_aside = wrote_held row.key (Some row) plan new w;
        grows = wrote_grows row.key (Some row) plan new w;
        forced = λ e. wrote_forced row.key (Some row) plan new w;
        newest = wrote_newest (18 + row_size row) row.key (Some row) plan new plans w;
        parts = wrote_parts (18 + row_size row) row.key (Some row) plan new plans refl
            (alone_mid row.key alone) low w;
        clean = wrote_clean (18 + row_size row) row.key (Some row) plan new plans refl
            (alone_mid row.key alone) low w;
        left = tt;
        shows = shown;
        moves = wrote_moves (18 + row_size row) row.key (Some row) plan new plans refl
            (alone_mid row.key alone) low w (Update row) refl (nat_itself row.key) (λ found. refl)
            (λ table is_table found. ap (λ (r : Option Row). r ∷ found)
            (ap table key ∙ is_table.there home old (there_mid home old there)
            ∙ sym (change_before home old row plan there is_there alone key small is)));
        kept = λ is. absurd (cc (is));
        capacity = wrote (Update row) (18 + row_size row) row.key (Some row) plan new done shown w;
        effect = change_planned st allowed d shows session unit is_unit mid same home old row plan
            (λ other. LeavesPlan (ground_of d) session.0 other (Some row) (ground_of new)) there key
            is (wrote_leaves (18 + row_size row) row.key (Some row) plan new plans low w);
      }
  change_goes home old row plan (LogFull need left) new low there is_there alone key small is done
      w =
      log_full (Update row) _ need left new refl done w
      (change_room st allowed d shows session unit is_unit mid same home old row (Some plan) true
      there key is refl)
      (change_needs st allowed d shows session unit is_unit mid same home old row plan
      (λ n. need ≡ n) there key is w.0)
  change_goes home old row plan NoMemory new low there is_there alone key small is done w =
      go_wanting st allowed d shows session (Update row) new refl (same_same d mid new same w)
  change_goes home old row plan reply new low there is_there alone key small is done w = absurd w

  pub drop_goes : (home : Place) (old : Row) (key : ℕ) (plan : Plan) (reply : Reply) (new : Engine)
      → session.0 < 256 → row_at (slot_of (slots_in d)) home ≡ Some old
      → is_home (slot_of (slots_in d) home) ≡ true → holder d.locks session key ≡ None
      → old.key ≡ key
      → plan ≡ drop_plan home mid
      → plain_reply st session (Delete key) ≡ Done → Writes mid session unit plan key None reply new
      → Goes st allowed d session (Delete key) reply new
  drop_goes home old key plan Done new low there is_there alone of_key is done w =
      let plans = drop home old plan there is_there
      (subst (λ (k : ℕ). holder d.locks session k ≡ None) (sym of_key) alone) is in
      let same_key : key_of plan.before None ≡ key =
      ap (λ (x : Option Row). key_of x None) plans.0 ∙ of_key in
      let shown = plan_shows st allowed mid shows_mid session unit own_mid 0 key None plan new
      plans.1 same_key (alone_mid key alone) low w in
      record {
        says = sym done;
        room = tt;
        log = drop_needs st allowed d shows session unit is_unit mid same home old key plan
            (λ n. n ≤ left_of d.log) there of_key is (within _ w.prepared.room);
        logged = wrote_logged key None plan new w;
        opened = wrote_opened key None plan new w;
        set_aside = wrote_held key None plan new w;
        grows = wrote_grows key None plan new w;
        forced = λ e. wrote_forced key None plan new w;
        newest = wrote_newest 0 key None plan new plans.1 w;
        parts = wrote_parts 0 key None plan new plans.1 same_key (alone_mid key alone) low w;
        clean = wrote_clean 0 key None plan new plans.1 same_key (alone_mid key alone) low w;
        left = tt;
        shows = shown;
        moves = wrote_moves 0 key None plan new plans.1 same_key (alone_mid key alone) low w
            (Delete key) refl (nat_itself key) (λ found. refl)
            (λ table is_table found. ap (λ (r : Option Row). r ∷ found)
            (ap table (sym of_key) ∙ is_table.there home old (there_mid home old there)
            ∙ sym plans.0));
        kept = λ is. absurd (cc (is));
        capacity = wrote (Delete key) 0 key None plan new done shown w;
        effect = drop_planned st allowed d shows session unit is_unit mid same home old key plan
            (λ other. LeavesPlan (ground_of d) session.0 other None (ground_of new)) there of_key is
            (wrote_leaves 0 key None plan new plans.1 low w);
      }
  drop_goes home old key plan (LogFull need left) new low there is_there alone of_key is done w =
      log_full (Delete key) _ need left new refl done w tt
      (drop_needs st allowed d shows session unit is_unit mid same home old key plan (λ n. need ≡ n)
      there of_key is w.0)
  drop_goes home old key plan NoMemory new low there is_there alone of_key is done w =
      go_wanting st allowed d shows session (Delete key) new refl (same_same d mid new same w)
  drop_goes home old key plan reply new low there is_there alone of_key is done w = absurd w

  -- FULL

  put_full : (row : Row) → row_size row ≤ 826 → put_plan unit.tran.0 (row_size row) mid ≡ None
      → plain_reply st session (Insert row) ≡ Done
      → Goes st allowed d session (Insert row) (Full (row_size row)) mid
  put_full row small none done =
      go_full st allowed d shows session (Insert row) (row_size row) mid refl (ap is_done done)
      (subst (λ (n : ℕ). 3221 * n ≤ allowed) same.capacity
      (engine_full_put st allowed mid shows_mid session unit own_mid (row_size row) small none)) (
        refl,
        put_room st allowed d shows session unit is_unit mid same row None false (sym none) refl,
      ) same

  change_full : (home : Place) (old row : Row) → row_at (slot_of (slots_in d)) home ≡ Some old
      → row.key ≡ old.key → row_size row ≤ 826
      → change_plan unit.tran.0 (row_size row) home mid ≡ None
      → plain_reply st session (Update row) ≡ Done
      → Goes st allowed d session (Update row) (Full (row_size row)) mid
  change_full home old row there key small none done =
      go_full st allowed d shows session (Update row) (row_size row) mid refl (ap is_done done)
      (subst (λ (n : ℕ). 3221 * n ≤ allowed) same.capacity
      (engine_full_change st allowed mid shows_mid session unit own_mid (row_size row) home small
      none)) (
        refl,
        change_room st allowed d shows session unit is_unit mid same home old row None false there
            key (sym none) refl,
      ) same

  pub put_refused : (row : Row) (fault : SpaceFault) → row_size row ≤ 826
      → IsRefusal (row_size row) (put_plan unit.tran.0 (row_size row) mid) fault
      → plain_reply st session (Insert row) ≡ Done
      → Goes st allowed d session (Insert row) (refused fault) mid
  put_refused row (faults.Full need) small h done =
      subst (λ (n : ℕ). Goes st allowed d session (Insert row) (Full n) mid) (sym h.0)
      (put_full row small h.1 done)
  put_refused row faults.Device small h done = absurd h
  put_refused row faults.NoMemory small h done =
      go_wanting st allowed d shows session (Insert row) mid refl same

  pub change_refused : (home : Place) (old row : Row) (fault : SpaceFault)
      → row_at (slot_of (slots_in d)) home ≡ Some old → row.key ≡ old.key → row_size row ≤ 826
      → IsRefusal (row_size row) (change_plan unit.tran.0 (row_size row) home mid) fault
      → plain_reply st session (Update row) ≡ Done
      → Goes st allowed d session (Update row) (refused fault) mid
  change_refused home old row (faults.Full need) there key small h done =
      subst (λ (n : ℕ). Goes st allowed d session (Update row) (Full n) mid) (sym h.0)
      (change_full home old row there key small h.1 done)
  change_refused home old row faults.Device there key small h done = absurd h
  change_refused home old row faults.NoMemory there key small h done =
      go_wanting st allowed d shows session (Update row) mid refl same
