-- How a ROLLBACK goes, from a state that the engine shows.
use Rattle.std.proofs.Common.{◌≡◌, ◌==◌, ◌≤◌, ◌<◌, ◌+◌, ◌*◌, ℕ, Bool, true, false, not, List, []}
use Rattle.std.proofs.Common.{◌∷◌, ◌++◌, Option, Some, None, length, set, refl, sym, ◌∙◌, ap, subst}
use Rattle.std.proofs.Common.{◌⊎◌, inl, inr, ◌≢◌, arith}
use Rattle.std.specs.FinMap as fin
use Rattle.std.proofs.lemmas.Bool.{eqb-true}
use Rattle.std.proofs.lemmas.List.{append_assoc}
use Rattle.rg_base.specs.declared.lock.Lock.{Lock}
use Rattle.rg_base.specs.declared.session.Session.{Session}
use Rattle.rg_claim.specs.declared.claims.Claims.{Claims}
use Rattle.rg_laws_crash.specs.LogChain.Next.{AreNext, IsNext}
use Rattle.rg_laws_crash.specs.LogChain.Tells.{Tells}
use Rattle.rg_laws_crash.proofs.LogChainLemmas.Owing.{owes}
use Rattle.rg_laws_crash.proofs.LogChainLemmas.Telling.{records_tell}
use Rattle.rg_check.specs.OpenUnits.Unended.{left_of}
use Rattle.rg_image.specs.Rules.{HasSpace, IsOpen, limit_of, owed}
use Rattle.rg_home.specs.Able.{IsLive}
use Rattle.rg_home.specs.Pages.{slot_of}
use Rattle.rg_home.specs.Rows.{row_at}
use Rattle.rg_btree.specs.Indexes.Listings.{AreListings}
use Rattle.rg_btree.specs.declared.indexes.indexes.Indexes.{Indexes}
use Rattle.rg_model.specs.Committed.{locks_without, own_locks, put_back}
use Rattle.rg_model.specs.Held.{is_others}
use Rattle.rg_model.specs.Plain.{after_commit, after_rollback}
use Rattle.rg_model.specs.State.{Locks, State, Table}
use Rattle.rg_model.proofs.Ends.{put_own-none}
use Rattle.rg_record.specs.declared.record.Record.{Record}
use Rattle.rg_laws_log.specs.LogState.Act.{Act, LogState, state}
use Rattle.rg_laws_log.specs.LogState.Act.{RollBack}
use Rattle.rg_laws_log.specs.LogState.Closing.{AreUndos}
use Rattle.rg_laws_log.specs.LogState.Consistent.{IsConsistent}
use Rattle.rg_laws_log.specs.LogState.Lawful.{Runs}
use Rattle.rg_laws_log.specs.LogState.Records.{acts_of}
use Rattle.rg_laws_log.specs.LogState.Write.{Write, first_write, own_of}
use Rattle.rg_laws_log.proofs.LogStateLemmas.Own.{own_ended_other, own_first}
use Rattle.rg_space.specs.Space.{Agree, InStep, capacity_in, frames_of, summaries_of}
use Rattle.rg_stmt.specs.declared.stmt.Reply.TheVariants.{Done}
use Rattle.rg_stmt.specs.declared.stmt.Stmt.TheVariants.{Rollback}
use Rattle.rg_engine.specs.Ended.{EndsSession, records_committed, rolled_record, LogsRolledBack}
use Rattle.rg_engine.specs.Effect.{AfterRollback}
use Rattle.rg_engine.specs.Engine.{ground_of, slots_in}
use Rattle.rg_space.specs.Memory.{list_seen}
use Rattle.rg_engine.specs.Shows.{KeyShown, Shows, left_by}
use Rattle.rg_engine.specs.Steps.{Goes}
use Rattle.rg_engine.specs.Stored.{IsSettled}
use Rattle.rg_engine.specs.Trails.{IsTrail, Trails}
use Rattle.rg_engine.specs.Undone.{IsUndoing}
use Rattle.rg_log.specs.Kept.{Listed}
use Rattle.rg_engine.specs.Bytes.{taken_of}
use Rattle.rg_engine.specs.Units.{owed_to, unit_at}
use Rattle.rg_engine.specs.declared.engine.Engine.{Engine}
use Rattle.rg_engine.specs.declared.units.OpenUnit.{OpenUnit}
use Rattle.rg_engine.proofs.Appended.{acts_snoc}
use Rattle.rg_engine.proofs.CommitShows.{idle_clean, idle_leaves, idle_shows}
use Rattle.rg_engine.proofs.Reopens.{same_parts}
use Rattle.rg_engine.proofs.Keys.{same_or_not}
use Rattle.rg_engine.proofs.Moving.{idle_end_moves}
use Rattle.rg_engine.proofs.NewestKept.{space_newest}
use Rattle.rg_engine.proofs.RollbackMoves.{undos_loud, undos_made, undos_rows}
use Rattle.rg_engine.proofs.Rolled.{rolled_back, undos_leave}
use Rattle.rg_engine.proofs.RollbackShows.{rollback_goes}
use Rattle.rg_engine.proofs.Sessions.{left_consistent}
use Rattle.rg_engine.proofs.Settled.{grows_same}
use Rattle.rg_engine.proofs.Trails.{trail_other}
use Rattle.rg_engine.proofs.UndoTrails.{next_more, trail_others, undo_of_tran, undo_tells, undos_of}
use Rattle.rg_engine.proofs.UnitSlots.{at_within, set_here, set_there}
use Rattle.rg_engine.proofs.WalkLists.{chain_length}

-- no own writes are left
none_left : (ws : List Write) (n : ℕ) → length ws + n ≡ n → ws ≡ []
none_left [] n e = refl
none_left (w ∷ ws) n e = absurd (omega (arith, e))

module _ (st : State) (allowed : ℕ) (d : Engine) (session : Session) (shows : Shows st allowed d)
    (low : session.0 < 256) where
  abbrev s : LogState
  s = left_by shows.first d

  abbrev limit : ℕ
  limit = capacity_in d.space

  good : IsConsistent limit s
  good = left_consistent st allowed d shows

  module _ (mid now : Engine) (unit : OpenUnit) (last others : ℕ)
      (has : unit_at d.units session.0 ≡ Some unit)
      (so : IsUndoing d (left_by shows.first d) unit mid [] 0 last unit.writes)
      (room : others + (23 + 911 * unit.writes) ≡ d.log.reserved)
      (logged : LogsRolledBack mid unit last others now) where
    abbrev t : ℕ
    t = unit.tran.0

    abbrev u : LogState
    u = state s so.undos

    abbrev rolled : Record
    rolled = rolled_record (length mid.log.records + 1) last unit

    lawful : Runs limit s (RollBack t ∷ so.undos)
    lawful =
        let own : own_of t u.writes ≡ [] = none_left (own_of t u.writes) unit.writes so.left in
        let one = shows.by.units.each session.0 unit has in (
          (
            subst (λ (us : List ℕ). IsLive us t) (sym (undos_leave t s so.undos so.are).live)
                one.live,
            own_first t u.writes ∙ ap first_write own,
          ),
          so.runs,
        )

    opened : IsOpen t mid.log.records
    opened = (undo_tells d s good shows.trails unit mid [] 0 last unit.writes so).live t lawful.0.0

    -- then nothing is owed to the unit
    owes_end : owed (mid.log.records ++ rolled ∷ []) + 23 ≡ owed mid.log.records
    owes_end = omega (
      arith,
      owes.end mid.log.records rolled
          (undo_of_tran d s good shows.trails unit mid [] 0 last unit.writes so rolled opened refl
          refl) refl opened.1,
      ap (λ (rs : List Record). length rs) so.left_is,
    )

    -- what is reserved is what is owed, and what is set aside
    paid_then : owed now.log.records + d.set_aside ≡ now.log.reserved
    paid_then = omega (
      arith,
      ap (λ (rs : List Record). owed rs) logged.records,
      owes_end,
      so.owes,
      shows.trails.paid,
      room,
      logged.reserved,
    )

    room_then : taken_of now.log ≤ limit_of d.log.pages
    room_then = omega (arith, logged.taken, so.taken, shows.trails.space)

    space_then : HasSpace d.log.pages now.log.records
    space_then = omega (arith, paid_then, room_then)

    -- the records of a rollback may be appended, one after another
    pub rollback_next : AreNext (capacity_in d.space) d.log.pages d.log.records
        (so.more ++ rolled_record (length mid.log.records + 1) last unit ∷ [])
    rollback_next =
        let one : IsNext limit d.log.pages mid.log.records rolled = record {
          position = refl;
          links = record { some = opened.0; back = so.last };
          names = tt;
          near = tt;
          space = subst (HasSpace d.log.pages) logged.records space_then;
        } in
        next_more limit d.log.pages d.log.records so.more rolled so.follows
        (subst (λ (rs : List Record). IsNext limit d.log.pages rs rolled) so.records one)

    all_acts : acts_of [] (so.more ++ rolled ∷ []) ≡ RollBack t ∷ so.undos
    all_acts = acts_snoc so.more rolled ∙ ap (λ (acts : List Act). RollBack t ∷ acts) so.acts

    all_records : now.log.records ≡ d.log.records ++ (so.more ++ rolled ∷ [])
    all_records = logged.records ∙ ap (λ (rs : List Record). rs ++ rolled ∷ []) so.records
        ∙ append_assoc d.log.records so.more (rolled ∷ [])

    tells_then : Tells now.log.records (state s (RollBack t ∷ so.undos))
    tells_then =
        subst (λ (rs : List Record). Tells rs (state s (RollBack t ∷ so.undos))) (sym all_records)
        (subst
        (λ (acts : List Act). Tells (d.log.records ++ (so.more ++ rolled ∷ [])) (state s acts))
        all_acts
        (records_tell limit d.log.pages d.log.records (so.more ++ rolled ∷ []) s shows.trails.tells
        good (subst (Runs limit s) (sym all_acts) lawful) rollback_next))

    -- each other unit keeps its trail
    trail_then : (n : ℕ) (other : OpenUnit) → unit_at d.units n ≡ Some other → (n ≡ session.0 → ⊥)
        → IsTrail now.log.records (state s (RollBack t ∷ so.undos)) other
    trail_then n other has_other not_it =
        let later : LogState = state s (RollBack t ∷ so.undos) in
        let apart : t ≢ other.tran.0 =
        λ e. not_it (shows.by.units.apart n session.0 other unit has_other has (sym e)) in
        let own : own_of other.tran.0 later.writes ≡ own_of other.tran.0 s.writes =
        ap (own_of other.tran.0) (rolled_back limit s good t so.undos so.are lawful).writes
        ∙ own_ended_other other.tran.0 t s.writes (λ e. apart (sym e)) in
        let undone : IsTrail (d.log.records ++ so.more) later other =
        trail_others t d.log.records so.more s later other
        (undos_of t so.more (subst (AreUndos t) (sym so.acts) so.are)) apart own
        (shows.trails.each n other has_other) in
        subst (λ (rs : List Record). IsTrail rs later other) (sym logged.records)
        (trail_other mid.log.records later later rolled other apart refl
        (subst (λ (rs : List Record). IsTrail rs later other) (sym so.records) undone))

    pub rollback_trails : (log : Listed) (set_aside : ℕ) (units : List (Option OpenUnit))
        → log ≡ now.log → set_aside ≡ d.set_aside → units ≡ set d.units session.0 None
        → Trails log set_aside units
        (state (left_by shows.first d) (RollBack unit.tran.0 ∷ so.undos))
    rollback_trails log set_aside units log_is aside_is units_are = record {
      tells = subst (λ (l : Listed). Tells l.records later) (sym log_is) tells_then;
      each = λ n other e.
          subst (λ (l : Listed). IsTrail l.records later other) (sym log_is)
          (each n other (sym (ap (λ (us : List (Option OpenUnit)). unit_at us n) units_are) ∙ e)
          (same_or_not n session.0));
      paid = subst (λ (l : Listed). owed l.records + set_aside ≡ l.reserved) (sym log_is)
          (subst (λ (n : ℕ). owed now.log.records + n ≡ now.log.reserved) (sym aside_is) paid_then);
      space = subst (λ (l : Listed). taken_of l ≤ limit_of l.pages) (sym log_is)
          (subst (λ (pages : ℕ). taken_of now.log ≤ limit_of pages)
          (sym (logged.base.pages ∙ so.base.pages)) room_then);
    }
      where
        later : LogState
        later = state s (RollBack t ∷ so.undos)

        each : (n : ℕ) (other : OpenUnit) → unit_at (set d.units session.0 None) n ≡ Some other
            → (n ≡ session.0) ⊎ (n ≡ session.0 → ⊥)
            → IsTrail now.log.records (state s (RollBack t ∷ so.undos)) other
        each n other e (inl f) = absurd
            (cc (
              e,
              ap (unit_at (set d.units session.0 None)) f,
              set_here d.units session.0 None (at_within d.units session.0 unit has),
            ))
        each n other e (inr f) =
            trail_then n other (sym (set_there d.units session.0 n None f) ∙ e) f

  pub rollback_done : (mid now new : Engine) (unit : OpenUnit) (last others : ℕ)
      → unit_at d.units session.0 ≡ Some unit
      → IsUndoing d (left_by shows.first d) unit mid [] 0 last unit.writes
      → others + (23 + 911 * unit.writes) ≡ d.log.reserved → LogsRolledBack mid unit last others now
      → EndsSession now session new → Goes st allowed d session Rollback Done new
  rollback_done mid now new unit last others has so room logged ended =
      let space : now.space ≡ mid.space = ap (λ (x : Engine). x.space) logged.same in
      let indexes : now.indexes ≡ mid.indexes = ap (λ (x : Engine). x.indexes) logged.same in
      let top : now.top ≡ mid.top = ap (λ (x : Engine). x.top) logged.same in
      let locks : now.locks ≡ mid.locks = ap (λ (x : Engine). x.locks) logged.same in
      let claims : now.claims ≡ mid.claims = ap (λ (x : Engine). x.claims) logged.same in
      let units : now.units ≡ mid.units = ap (λ (x : Engine). x.units) logged.same in
      let t : ℕ = unit.tran.0 in
      let u : LogState = state s so.undos in
      let runs : Runs limit s (RollBack unit.tran.0 ∷ so.undos) =
      lawful mid now unit last others has so room logged in
      let r : Record = rolled_record (length mid.log.records + 1) last unit in
      let all : new.log.records ≡ mid.log.records ++ r ∷ [] =
      ap (λ (l : Listed). l.records) ended.log ∙ logged.records in
      let same_space : new.space ≡ mid.space = ended.space ∙ space in
      let undo_acts : AreUndos t (acts_of [] so.more) = subst (AreUndos t) (sym so.acts) so.are in
      rollback_goes st allowed d new session shows low unit has so.undos so.are runs
      (so.more ++ r ∷ [])
      (all ∙ ap (λ (rs : List Record). rs ++ r ∷ []) so.records
      ∙ append_assoc d.log.records so.more (r ∷ []))
      (acts_snoc so.more r ∙ ap (λ (acts : List Act). RollBack unit.tran.0 ∷ acts) so.acts)
      (ended.opened ∙ logged.base.opened ∙ so.base.opened)
      (ended.set_aside ∙ logged.base.set_aside ∙ so.base.set_aside)
      (ap (λ (l : Listed). l.forced) ended.log ∙ logged.base.forced ∙ so.base.forced)
      (ap (λ sp. capacity_in sp) same_space ∙ so.capacity)
      (record {
        step = subst (λ sp. InStep (list_seen (frames_of sp)) (summaries_of sp) (capacity_in sp))
            (sym same_space) so.pages.step;
        agree = subst (λ sp. Agree (list_seen (frames_of sp)) (summaries_of sp)) (sym same_space)
            so.pages.agree;
      })
      (ap (λ sp. slots_in (record mid { space = sp })) same_space ∙ so.slots)
      (subst (λ (x : Indexes). AreListings (row_at (slot_of u.pages)) x)
      (sym (ended.indexes ∙ indexes)) so.indexes)
      (ended.locks ∙ ap (locks_without session) (locks ∙ so.locks))
      (ended.claims
      ∙ ap
      (λ (c : Claims). let left : Claims = record c { claims = fin.remove c.claims session.0 } in
      left) (claims ∙ so.claims))
      (ended.units ∙ ap (λ (us : List (Option OpenUnit)). set us session.0 None) (units ∙ so.units))
      (ended.top ∙ top ∙ so.top)
      (omega (arith, ap (λ (l : Listed). l.reserved) ended.log, logged.reserved, room))
      (omega (arith, ap (λ (l : Listed). taken_of l) ended.log, logged.taken, so.taken))
      (ap (λ (l : Listed). l.pages) ended.log ∙ logged.base.pages ∙ so.base.pages)
      (λ e h. space_newest now.log.records new.log.records now.space new.space
      (ap (λ (l : Listed). l.records) ended.log) ended.space e (logged.newest e (so.newest e h)))
      (rollback_trails mid now unit last others has so room logged new.log new.set_aside new.units
      ended.log (ended.set_aside ∙ logged.base.set_aside ∙ so.base.set_aside)
      (ended.units
      ∙ ap (λ (us : List (Option OpenUnit)). set us session.0 None) (units ∙ so.units)))
      (rollback_next mid now unit last others has so room logged)
      (λ past. undos_loud past t so.more unit (length mid.log.records + 1) last undo_acts)
      (undos_made limit s unit so.more (length mid.log.records + 1) last undo_acts
      (subst (Runs limit s) (sym so.acts) so.runs)
      (subst (λ (acts : List Act). own_of t (state s acts).writes ≡ []) (sym so.acts)
      (none_left (own_of t u.writes) unit.writes so.left))
      (shows.by.units.each session.0 unit has).count)
      (undos_rows limit s unit so.more (length mid.log.records + 1) last undo_acts
      (subst (Runs limit s) (sym so.acts) so.runs)
      (subst (λ (acts : List Act). own_of t (state s acts).writes ≡ []) (sym so.acts)
      (none_left (own_of t u.writes) unit.writes so.left)))
      (record {
        records = all ∙ sym so.still;
        pages = ap (λ sp. slots_in (record mid { space = sp })) same_space ∙ sym so.still_pages;
        forced =
            ap (λ (l : Listed). l.forced) ended.log ∙ logged.base.forced ∙ so.base.forced;
        count = omega (
          arith,
          chain_length d.log.records t 0 [] unit.last.0 (own_of t s.writes)
              (left_of t d.log.records) (shows.trails.each session.0 unit has).lefts,
          (shows.by.units.each session.0 unit has).count,
        );
        ends = record {
          units = ended.units
              ∙ ap (λ (us : List (Option OpenUnit)). set us session.0 None) (units ∙ so.units);
          own = ap (λ (us : List (Option OpenUnit)). unit_at us session.0)
              (ended.units
              ∙ ap (λ (us : List (Option OpenUnit)). set us session.0 None) (units ∙ so.units))
              ∙ set_here d.units session.0 None (omega (arith, low, shows.by.places));
          top = ended.top ∙ top ∙ so.top;
          capacity = ap (λ sp. capacity_in sp) same_space ∙ so.capacity;
          reserved = omega (
            arith,
            ap owed_to has,
            ap (λ (l : Listed). l.reserved) ended.log,
            logged.reserved,
            room,
          );
          log_pages =
              ap (λ (l : Listed). l.pages) ended.log ∙ logged.base.pages ∙ so.base.pages;
        };
      })

  -- without a unit nothing is put back
  pub rollback_idle : (new : Engine) → unit_at d.units session.0 ≡ None → EndsSession d session new
      → Goes st allowed d session Rollback Done new
  rollback_idle new none ended =
      let same : put_back (fin.entries (own_locks session st.locks)) st.table ≡ st.table =
      put_own-none session st.locks
      (λ k. subst (λ (ls : Locks). is_others session (fin.get ls k) ≡ true) (sym shows.by.locks)
      (unlocked (fin.get d.locks k) k (shows.by.keys k))) st.table in
      let state_is : after_commit st session ≡ after_rollback st session =
      ap
      (λ (table : Table). record st {
        table = table;
        locks = locks_without session st.locks;
        claims = fin.remove st.claims session.0;
      }) (sym same) in
      record {
        says = refl;
        room = tt;
        log = tt;
        logged = omega (arith, ap (λ (l : Listed). taken_of l) ended.log);
        opened = ended.opened;
        set_aside = ended.set_aside;
        grows = grows_same d.log new.log ended.log;
        forced = λ e. ap (λ (l : Listed). l.forced) ended.log;
        newest = space_newest d.log.records new.log.records d.space new.space
            (ap (λ (l : Listed). l.records) ended.log) ended.space;
        parts = same_parts d new ended.log;
        clean = idle_clean st allowed d new session shows low ended.space ended.indexes ended.top
            ended.locks ended.claims ended.units
            (ap (λ (l : Listed). l.records) ended.log
            ∙ ap (records_committed d.log.records) (sym none))
            (omega (arith, ap owed_to none, ap (λ (l : Listed). l.reserved) ended.log)) ended.opened
            ended.set_aside (subst IsSettled (sym ended.log) shows.settled)
            (grows_same d.log new.log ended.log) none;
        shows = subst (λ (x : State). Shows x (allowed + 0) new) state_is
            (idle_shows st allowed d new session shows low ended.space ended.indexes ended.top
            ended.locks ended.claims ended.units
            (ap (λ (l : Listed). l.records) ended.log
            ∙ ap (records_committed d.log.records) (sym none))
            (omega (arith, ap owed_to none, ap (λ (l : Listed). l.reserved) ended.log)) ended.opened
            ended.set_aside (subst IsSettled (sym ended.log) shows.settled)
            (grows_same d.log new.log ended.log) none);
        left = tt;
        moves = idle_end_moves d session Rollback new (omega (arith, low, shows.by.places)) none
            (ap (λ sp. slots_in (record d { space = sp })) ended.space)
            (ap (λ (l : Listed). l.records) ended.log) ended.units (λ t. refl) refl refl refl;
        kept = λ is. absurd (cc (is));
        capacity = ap (λ sp. capacity_in sp) ended.space;
        effect = subst
            (λ (o : Option OpenUnit). AfterRollback (ground_of d) session.0 o (ground_of new))
            (sym none)
            (idle_leaves st allowed d new session shows low ended.space ended.indexes ended.top
            ended.locks ended.claims ended.units
            (ap (λ (l : Listed). l.records) ended.log
            ∙ ap (records_committed d.log.records) (sym none))
            (omega (arith, ap owed_to none, ap (λ (l : Listed). l.reserved) ended.log)) ended.opened
            ended.set_aside (subst IsSettled (sym ended.log) shows.settled)
            (grows_same d.log new.log ended.log) none ended.log);
      }
    where
      unlocked : (o : Option Lock) (k : ℕ) → KeyShown d.units (left_by shows.first d) o k
          → is_others session o ≡ true
      unlocked None k h = refl
      unlocked (Some lock) k h = go (lock.owner.0 == session.0) refl
        where
          go : (b : Bool) → (lock.owner.0 == session.0) ≡ b → not b ≡ true
          go false e = refl
          go true e =
              absurd (cc (h.has, ap (unit_at d.units) (eqb-true lock.owner.0 session.0 e), none))
