-- What a statement may rest on, and how it goes, from a state that the engine shows.
use Rattle.std.proofs.Common.{◌≡◌, ◌==◌, ◌≤◌, ◌+◌, ◌*◌, ℕ, suc, Bool, true, false, List, Option}
use Rattle.std.proofs.Common.{Some, None, refl, sym, ◌∙◌, ap, subst, inl, inr, arith}
use Rattle.std.specs.Option.{is_some}
use Rattle.std.proofs.lemmas.Bool.{eqb-true}
use Rattle.rg_base.specs.declared.place.Place.{Place}
use Rattle.rg_base.specs.declared.row.Row.{Row}
use Rattle.rg_base.specs.declared.session.Session.{Session}
use Rattle.rg_base.specs.declared.which.Which.TheVariants.{Key}
use Rattle.rg_base.proofs.Small.{nat_itself}
use Rattle.rg_home.specs.Able.{IsLive}
use Rattle.rg_home.specs.Pages.{slot_of}
use Rattle.rg_home.specs.Plan.{is_home}
use Rattle.rg_home.specs.Rows.{home_row, row_at}
use Rattle.rg_home.specs.Slot.{Slot}
use Rattle.rg_home.specs.Slot.{Free, Row as RowSlot, Pointer, Over, DeadRow, DeadPointer, DeadOver}
use Rattle.rg_index.specs.Entries.{has_entry}
use Rattle.rg_index.specs.Listed.{has_value}
use Rattle.rg_btree.specs.Indexes.Listings.{entries_of}
use Rattle.rg_model.specs.Held.{holder}
use Rattle.rg_model.specs.Plain.{change_reply, insert_reply, is_done, plain_reply, row_reply}
use Rattle.rg_model.specs.Plain.{unless_held}
use Rattle.rg_model.specs.Said.{may_want_log, may_want_memory, may_want_room}
use Rattle.rg_model.specs.State.{Locks, State, row_of}
use Rattle.rg_stmt.specs.declared.stmt.Reply.TheVariants.{Absent, Done, Duplicate, Full, Held}
use Rattle.rg_stmt.specs.declared.stmt.Reply.TheVariants.{LogFull, NoMemory}
use Rattle.rg_stmt.specs.declared.stmt.Stmt.{Stmt}
use Rattle.rg_stmt.specs.declared.stmt.Stmt.TheVariants.{Delete, Insert, Select, Update}
use Rattle.rg_laws_log.specs.LogState.Act.{LogState, is_in}
use Rattle.rg_laws_log.proofs.LogStateLemmas.Own.{own_live}
use Rattle.rg_space.specs.Space.{capacity_in}
use Rattle.rg_engine.specs.Bytes.{taken_of}
use Rattle.rg_engine.specs.Engine.{ground_of, slots_in}
use Rattle.rg_log.specs.Kept.{Listed}
use Rattle.rg_engine.specs.Room.{SaysLog, SaysRoom}
use Rattle.rg_engine.specs.Shows.{Shows, left_by}
use Rattle.rg_engine.specs.Steps.{Goes, IsUnitOf}
use Rattle.rg_engine.specs.Units.{new_unit, unit_at}
use Rattle.rg_engine.specs.Wrote.{SameEngine}
use Rattle.rg_engine.specs.declared.engine.Engine.{Engine}
use Rattle.rg_engine.specs.declared.units.OpenUnit.{OpenUnit}
use Rattle.rg_engine.proofs.Moving.{no_moves, same_moves}
use Rattle.rg_engine.proofs.NewestKept.{same_newest}
use Rattle.rg_engine.proofs.Reopens.{same_clean, same_parts}
use Rattle.rg_engine.proofs.Same.{same_engine, same_ground, same_shows}
use Rattle.rg_engine.proofs.Sessions.{left_consistent}
use Rattle.rg_engine.proofs.Settled.{grows_same}
use Rattle.rg_engine.proofs.UnitsWritten.{IsUnitFor}

-- a place of the row with a key
pub record IsKeyAt (st : State) (d : Engine) (key : ℕ) (p : Place) : Type 0 where
  pub row : Row
  pub there : row_at (slot_of (slots_in d)) p ≡ Some row
  pub home : is_home (slot_of (slots_in d) p) ≡ true
  pub key_is : row.key ≡ key
  pub now : row_of st.table key ≡ Some row

home_if : (at : Place → Slot) (s : Slot) (row : Row) → home_row at s ≡ Some row → is_home s ≡ true
home_if at (RowSlot c x) row e = refl
home_if at (Pointer c o) row e = refl
home_if at Free row e = absurd (cc (e))
home_if at (Over c x o) row e = absurd (cc (e))
home_if at (DeadRow c o) row e = absurd (cc (e))
home_if at (DeadPointer c o u) row e = absurd (cc (e))
home_if at (DeadOver c o u) row e = absurd (cc (e))

-- a unit is the session's in an engine that is as it was
pub same_unit : (d mid : Engine) (n : ℕ) (unit : OpenUnit) → SameEngine d mid → IsUnitOf d n unit
    → IsUnitOf mid n unit
same_unit d mid n unit same (inl e) =
    inl (ap (λ (us : List (Option OpenUnit)). unit_at us n) same.units ∙ e)
same_unit d mid n unit same (inr h) = inr (
  ap (λ (us : List (Option OpenUnit)). unit_at us n) same.units ∙ h.0,
  h.1 ∙ ap (λ (top : ℕ). new_unit (top + 1)) (sym same.top),
)

module _ (st : State) (allowed : ℕ) (d : Engine) (shows : Shows st allowed d)
    (session : Session) where
  abbrev s : LogState
  s = left_by shows.first d

  pub none_more : Shows st (allowed + 0) d
  none_more = subst (λ (n : ℕ). Shows st n d) (omega arith) shows

  -- the key index knows which keys have rows, and where

  pub key_none : (key : ℕ) → ((p : Place) → has_entry (entries_of d.indexes.keys) (key, p) ≡ false)
      → row_of st.table key ≡ None
  key_none key none = go (row_of st.table key) refl
    where
      go : (o : Option Row) → row_of st.table key ≡ o → o ≡ None
      go None e = refl
      go (Some row) e =
          let placed = (left_consistent st allowed d shows).table.placed key row
          (sym (shows.by.table key) ∙ e) in
          let listed : has_value Key key (row_at (slot_of s.pages) placed.1) ≡ false =
          sym (shows.by.indexes.keys key placed.1) ∙ none placed.1 in
          let has : (key == row.key) ≡ false = ap (has_value Key key) (sym placed.2) ∙ listed in
          absurd (cc (has, ap (λ (k : ℕ). key == k) placed.0 ∙ nat_itself key))

  pub key_some : (key : ℕ) (p : Place) → has_entry (entries_of d.indexes.keys) (key, p) ≡ true
      → IsKeyAt st d key p
  key_some key p has =
      go (row_at (slot_of s.pages) p) refl (sym (shows.by.indexes.keys key p) ∙ has)
    where
      go : (o : Option Row) → row_at (slot_of s.pages) p ≡ o → has_value Key key o ≡ true
          → IsKeyAt st d key p
      go None e v = absurd (cc (v))
      go (Some row) e v =
          let there : row_at (slot_of (slots_in d)) p ≡ Some row =
          subst (λ (ps : List (List Slot)). row_at (slot_of ps) p ≡ Some row) (sym shows.by.slots)
          e in
          let is : row.key ≡ key = sym (eqb-true key row.key v) in
          record {
            row = row;
            there = there;
            home = home_if (slot_of (slots_in d)) (slot_of (slots_in d) p) row there;
            key_is = is;
            now = shows.by.table key ∙ ap s.now (sym is)
                ∙ (left_consistent st allowed d shows).table.there p row e;
          }

  -- the unit of a session that is to write

  pub unit_for : (unit : OpenUnit) → IsUnitOf d session.0 unit
      → IsUnitFor d.units (left_by shows.first d) session.0 unit
  unit_for unit (inl e) = inl e
  unit_for unit (inr h) =
      let good = left_consistent st allowed d shows in
      let number : unit.tran.0 ≡ suc s.top =
      omega (arith, ap (λ (u : OpenUnit). u.tran.0) h.1, shows.by.top) in
      let dead : IsLive s.live unit.tran.0 → ⊥ =
      λ l. omega (arith, good.fresh unit.tran.0 l, number) in
      inr (
        h.0,
        record {
          number = number;
          last = ap (λ (u : OpenUnit). u.last.0) h.1;
          writes = ap (λ (u : OpenUnit). u.writes) h.1;
          none = own_live s.live (slot_of s.pages) unit.tran.0 s.writes dead good.ready.can;
          steady = steady (is_in unit.tran.0 s.rolling) refl number;
        },
      )
    where
      steady : (b : Bool) → is_in unit.tran.0 s.rolling ≡ b → unit.tran.0 ≡ suc s.top → b ≡ false
      steady true e number =
          absurd (omega (arith, (left_consistent st allowed d shows).rolled unit.tran.0 e, number))
      steady false e number = refl

  -- locks, as the trace sees them
  pub held_is : (key : ℕ) (owner : Option Session) → owner ≡ holder d.locks session key
      → holder st.locks session key ≡ owner
  held_is key owner e = ap (λ (ls : Locks). holder ls session key) shows.by.locks ∙ sym e

  -- refusals leave all as it was

  pub go_held : (stmt : Stmt) (owner : Session) → plain_reply st session stmt ≡ Held owner
      → Goes st allowed d session stmt (Held owner) d
  go_held stmt owner is = record {
    says = sym is;
    room = tt;
    log = tt;
    logged = omega arith;
    opened = refl;
    set_aside = refl;
    grows = grows_same d.log d.log refl;
    forced = λ e. refl;
    newest = λ e h. h;
    parts = same_parts d d refl;
    clean = λ h. h;
    left = tt;
    shows = none_more;
    moves = no_moves d session stmt (Held owner) refl;
    kept = λ is. same_ground d d (same_engine d);
    capacity = refl;
    effect = tt;
  }

  pub go_absent : (stmt : Stmt) → plain_reply st session stmt ≡ Absent
      → Goes st allowed d session stmt Absent d
  go_absent stmt is = record {
    says = sym is;
    room = tt;
    log = tt;
    logged = omega arith;
    opened = refl;
    set_aside = refl;
    grows = grows_same d.log d.log refl;
    forced = λ e. refl;
    newest = λ e h. h;
    parts = same_parts d d refl;
    clean = λ h. h;
    left = tt;
    shows = none_more;
    moves = no_moves d session stmt Absent refl;
    kept = λ is. same_ground d d (same_engine d);
    capacity = refl;
    effect = tt;
  }

  pub go_duplicate : (stmt : Stmt) → plain_reply st session stmt ≡ Duplicate
      → Goes st allowed d session stmt Duplicate d
  go_duplicate stmt is = record {
    says = sym is;
    room = tt;
    log = tt;
    logged = omega arith;
    opened = refl;
    set_aside = refl;
    grows = grows_same d.log d.log refl;
    forced = λ e. refl;
    newest = λ e h. h;
    parts = same_parts d d refl;
    clean = λ h. h;
    left = tt;
    shows = none_more;
    moves = no_moves d session stmt Duplicate refl;
    kept = λ is. same_ground d d (same_engine d);
    capacity = refl;
    effect = tt;
  }

  pub go_wanting : (stmt : Stmt) (new : Engine) → may_want_memory stmt ≡ true → SameEngine d new
      → Goes st allowed d session stmt NoMemory new
  go_wanting stmt new may same = record {
    says = may;
    room = tt;
    log = tt;
    logged = omega (arith, ap (λ (l : Listed). taken_of l) same.log);
    opened = same.opened;
    set_aside = same.set_aside;
    grows = grows_same d.log new.log same.log;
    forced = λ e. ap (λ (l : Listed). l.forced) same.log;
    newest = same_newest d new same;
    parts = same_parts d new same.log;
    clean = same_clean d new same;
    left = tt;
    shows = same_shows st (allowed + 0) d new same none_more;
    moves = same_moves d session stmt NoMemory new refl same;
    kept = λ is. same_ground d new same;
    capacity = same.capacity;
    effect = tt;
  }

  -- out of memory before anything was done
  pub go_wanting_here : (stmt : Stmt) → may_want_memory stmt ≡ true
      → Goes st allowed d session stmt NoMemory d
  go_wanting_here stmt may = go_wanting stmt d may (same_engine d)

  pub go_full : (stmt : Stmt) (need : ℕ) (new : Engine) → may_want_room stmt ≡ true
      → is_done (plain_reply st session stmt) ≡ true → 3221 * capacity_in d.space ≤ allowed
      → SaysRoom (ground_of d) session.0 stmt (Full need) → SameEngine d new
      → Goes st allowed d session stmt (Full need) new
  go_full stmt need new may done most room same = record {
    says = (may, done, most);
    room = room;
    log = tt;
    logged = omega (arith, ap (λ (l : Listed). taken_of l) same.log);
    opened = same.opened;
    set_aside = same.set_aside;
    grows = grows_same d.log new.log same.log;
    forced = λ e. ap (λ (l : Listed). l.forced) same.log;
    newest = same_newest d new same;
    parts = same_parts d new same.log;
    clean = same_clean d new same;
    left = tt;
    shows = same_shows st (allowed + 0) d new same none_more;
    moves = same_moves d session stmt (Full need) new refl same;
    kept = λ is. same_ground d new same;
    capacity = same.capacity;
    effect = tt;
  }

  pub go_log_full : (stmt : Stmt) (need left : ℕ) (new : Engine) → may_want_log stmt ≡ true
      → is_done (plain_reply st session stmt) ≡ true
      → SaysRoom (ground_of d) session.0 stmt (LogFull need left)
      → SaysLog (ground_of d) session.0 stmt (LogFull need left) → SameEngine d new
      → Goes st allowed d session stmt (LogFull need left) new
  go_log_full stmt need left new may done room log same = record {
    says = (may, done);
    room = room;
    log = log;
    logged = omega (arith, ap (λ (l : Listed). taken_of l) same.log);
    opened = same.opened;
    set_aside = same.set_aside;
    grows = grows_same d.log new.log same.log;
    forced = λ e. ap (λ (l : Listed). l.forced) same.log;
    newest = same_newest d new same;
    parts = same_parts d new same.log;
    clean = same_clean d new same;
    left = tt;
    shows = same_shows st (allowed + 0) d new same none_more;
    moves = same_moves d session stmt (LogFull need left) new refl same;
    kept = λ is. same_ground d new same;
    capacity = same.capacity;
    effect = tt;
  }

  -- the plain table's replies

  insert_is : (row : Row) (o : Option Row) → holder d.locks session row.key ≡ None
      → row_of st.table row.key ≡ o → plain_reply st session (Insert row) ≡ insert_reply (is_some o)
  insert_is row o alone e =
      ap (λ (h : Option Session). unless_held h (insert_reply (is_some (row_of st.table row.key))))
      (held_is row.key None (sym alone)) ∙ ap (λ (x : Option Row). insert_reply (is_some x)) e

  pub insert_done : (row : Row) → holder d.locks session row.key ≡ None
      → row_of st.table row.key ≡ None → plain_reply st session (Insert row) ≡ Done
  insert_done row alone absent = insert_is row None alone absent

  pub insert_duplicate : (row old : Row) → holder d.locks session row.key ≡ None
      → row_of st.table row.key ≡ Some old → plain_reply st session (Insert row) ≡ Duplicate
  insert_duplicate row old alone now = insert_is row (Some old) alone now

  update_is : (row : Row) (o : Option Row) → holder d.locks session row.key ≡ None
      → row_of st.table row.key ≡ o → plain_reply st session (Update row) ≡ change_reply (is_some o)
  update_is row o alone e =
      ap (λ (h : Option Session). unless_held h (change_reply (is_some (row_of st.table row.key))))
      (held_is row.key None (sym alone)) ∙ ap (λ (x : Option Row). change_reply (is_some x)) e

  pub update_done : (row old : Row) → holder d.locks session row.key ≡ None
      → row_of st.table row.key ≡ Some old → plain_reply st session (Update row) ≡ Done
  update_done row old alone now = update_is row (Some old) alone now

  pub update_absent : (row : Row) → holder d.locks session row.key ≡ None
      → row_of st.table row.key ≡ None → plain_reply st session (Update row) ≡ Absent
  update_absent row alone none = update_is row None alone none

  delete_is : (key : ℕ) (o : Option Row) → holder d.locks session key ≡ None
      → row_of st.table key ≡ o → plain_reply st session (Delete key) ≡ change_reply (is_some o)
  delete_is key o alone e =
      ap (λ (h : Option Session). unless_held h (change_reply (is_some (row_of st.table key))))
      (held_is key None (sym alone)) ∙ ap (λ (x : Option Row). change_reply (is_some x)) e

  pub delete_done : (key : ℕ) (old : Row) → holder d.locks session key ≡ None
      → row_of st.table key ≡ Some old → plain_reply st session (Delete key) ≡ Done
  delete_done key old alone now = delete_is key (Some old) alone now

  pub delete_absent : (key : ℕ) → holder d.locks session key ≡ None → row_of st.table key ≡ None
      → plain_reply st session (Delete key) ≡ Absent
  delete_absent key alone none = delete_is key None alone none

  -- another session has the key

  pub go_select_held : (key : ℕ) (owner : Session) → Some owner ≡ holder d.locks session key
      → Goes st allowed d session (Select key) (Held owner) d
  go_select_held key owner e = go_held (Select key) owner
      (ap (λ (h : Option Session). unless_held h (row_reply (row_of st.table key)))
      (held_is key (Some owner) e))

  pub go_insert_held : (row : Row) (owner : Session) → Some owner ≡ holder d.locks session row.key
      → Goes st allowed d session (Insert row) (Held owner) d
  go_insert_held row owner e = go_held (Insert row) owner
      (ap (λ (h : Option Session). unless_held h (insert_reply (is_some (row_of st.table row.key))))
      (held_is row.key (Some owner) e))

  pub go_update_held : (row : Row) (owner : Session) → Some owner ≡ holder d.locks session row.key
      → Goes st allowed d session (Update row) (Held owner) d
  go_update_held row owner e = go_held (Update row) owner
      (ap (λ (h : Option Session). unless_held h (change_reply (is_some (row_of st.table row.key))))
      (held_is row.key (Some owner) e))

  pub go_delete_held : (key : ℕ) (owner : Session) → Some owner ≡ holder d.locks session key
      → Goes st allowed d session (Delete key) (Held owner) d
  go_delete_held key owner e = go_held (Delete key) owner
      (ap (λ (h : Option Session). unless_held h (change_reply (is_some (row_of st.table key))))
      (held_is key (Some owner) e))
