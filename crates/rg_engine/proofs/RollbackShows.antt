-- A ROLLBACK leaves the state of the trace after it.
use Rattle.std.proofs.Common.{◌≡◌, ◌==◌, ◌≤◌, ◌<◌, ◌+◌, ◌*◌, ℕ, suc, Bool, true, false, not, cond}
use Rattle.std.proofs.Common.{List, [], ◌∷◌, ◌++◌, Option, Some, None, length, set, refl, sym, ◌∙◌}
use Rattle.std.proofs.Common.{ap, subst, arith}
use Rattle.std.specs.FinMap as fin
use Rattle.std.proofs.lemmas.Bool.{eqb-true, eqb-false}
use Rattle.std.proofs.lemmas.List.{length-set}
use Rattle.rg_base.specs.declared.lock.Lock.{Lock}
use Rattle.rg_base.specs.declared.session.Session.{Session}
use Rattle.rg_claim.specs.declared.claims.Claims.{Claims}
use Rattle.rg_laws_pages.specs.ByteClaims.Claim.{claimed_all, holding}
use Rattle.rg_laws_pages.proofs.ByteClaimsLemmas.Owners.{covers, ends}
use Rattle.rg_laws_pages.proofs.ByteClaimsLemmas.Pages.{claimed_all-fewer}
use Rattle.rg_laws_crash.specs.LogChain.Next.{AreNext}
use Rattle.rg_home.specs.Pages.{slot_of}
use Rattle.rg_home.specs.Rows.{row_at}
use Rattle.rg_btree.specs.Indexes.Listings.{AreListings}
use Rattle.rg_model.specs.Committed.{locks_without, own_locks, put_back}
use Rattle.rg_model.specs.Held.{is_others}
use Rattle.rg_model.specs.Plain.{after_rollback}
use Rattle.rg_model.specs.State.{Locks, State, row_of}
use Rattle.rg_model.proofs.Ends.{get-put_own}
use Rattle.rg_model.proofs.Overlay.{kept_or}
use Rattle.rg_record.specs.declared.record.Record.{Record}
use Rattle.rg_laws_log.specs.LogState.Act.{Act, LogState, others, state}
use Rattle.rg_laws_log.specs.LogState.Act.{RollBack}
use Rattle.rg_laws_log.specs.LogState.Closing.{AreUndos}
use Rattle.rg_laws_log.specs.LogState.Consistent.{IsConsistent, stored_of}
use Rattle.rg_laws_log.specs.LogState.Lawful.{Runs}
use Rattle.rg_laws_log.specs.LogState.Records.{acts_of}
use Rattle.rg_laws_log.specs.LogState.Write.{Write, HitBy, NoneHit, at_key, own_of}
use Rattle.rg_laws_log.proofs.LogStateLemmas.Free.{free_apart, free_kept}
use Rattle.rg_laws_log.proofs.LogStateLemmas.Live.{live_was}
use Rattle.rg_laws_log.proofs.LogStateLemmas.Rolls.{rollback_rows}
use Rattle.rg_space.specs.Space.{capacity_in}
use Rattle.rg_stmt.specs.declared.stmt.Reply.TheVariants.{Done}
use Rattle.rg_stmt.specs.declared.stmt.Stmt.TheVariants as stmts
use Rattle.rg_stmt.specs.declared.event.Entry.{Entry}
use Rattle.rg_laws_utility.specs.RecordChanges.Changed.{changes_in, rows_after}
use Rattle.rg_engine.specs.Bytes.{taken_of}
use Rattle.rg_engine.specs.Effect.{AfterRollback, LeavesUndone}
use Rattle.rg_engine.specs.Engine.{HasPages, ground_of, slots_in}
use Rattle.rg_engine.specs.Moves.{AreOwn, rows_before}
use Rattle.rg_engine.specs.Newest.{KeepsNewest}
use Rattle.rg_engine.specs.Shows.{IsLocked, KeyShown, Shows, ShowsBy, UnitsShown, left_by}
use Rattle.rg_engine.specs.Steps.{Goes}
use Rattle.rg_engine.specs.Stored.{IsQuiet}
use Rattle.rg_engine.specs.Trails.{Trails}
use Rattle.rg_engine.specs.Units.{owed, owed_to, unit_at, writes_in}
use Rattle.rg_engine.specs.declared.engine.Engine.{Engine}
use Rattle.rg_engine.specs.declared.units.OpenUnit.{OpenUnit}
use Rattle.rg_engine.proofs.Ended.{keys_ended, units_ended}
use Rattle.rg_laws_utility.specs.ByteAccount.Found.{rows_found}
use Rattle.rg_engine.proofs.Moving.{AllLoud, ended_found, ended_others, ended_own, record_moves}
use Rattle.rg_engine.proofs.Moving.{walked_rows}
use Rattle.rg_engine.proofs.Rolled.{rolled_back, undos_claim, undos_leave}
use Rattle.rg_engine.proofs.Reopens.{appended_clean, appended_parts}
use Rattle.rg_engine.proofs.Sessions.{left_consistent}
use Rattle.rg_engine.proofs.Settled.{quiet_undos, settled_more, shows_more}
use Rattle.rg_engine.proofs.UnitSlots.{owed-set}

module _ (st : State) (allowed : ℕ) (d new : Engine) (session : Session)
    (shows : Shows st allowed d) (low : session.0 < 256) (unit : OpenUnit)
    (has : unit_at d.units session.0 ≡ Some unit) (undos : List Act)
    (are : AreUndos unit.tran.0 undos)
    (lawful : Runs (capacity_in d.space) (left_by shows.first d) (RollBack unit.tran.0 ∷ undos))
    (more : List Record) (records : new.log.records ≡ d.log.records ++ more)
    (acts : acts_of [] more ≡ RollBack unit.tran.0 ∷ undos) (opened : new.opened ≡ d.opened)
    (set_aside : new.set_aside ≡ d.set_aside) (forced : new.log.forced ≡ d.log.forced)
    (capacity : capacity_in new.space ≡ capacity_in d.space) (pages : HasPages new) where
  abbrev s : LogState
  s = left_by shows.first d

  abbrev t : ℕ
  t = unit.tran.0

  abbrev limit : ℕ
  limit = capacity_in d.space

  -- the state that the rollback leaves
  abbrev pub s_rolled : LogState
  s_rolled = state (left_by shows.first d) (RollBack unit.tran.0 ∷ undos)

  good : IsConsistent limit s
  good = left_consistent st allowed d shows

  place : session.0 < length d.units
  place = omega (arith, low, shows.by.places)

  -- locked keys of the session have their committed rows again, and others keep theirs
  table : (k : ℕ)
      → row_of (put_back (fin.entries (own_locks session st.locks)) st.table) k ≡ s_rolled.now k
  table k =
      ap (λ (ls : Locks). row_of (put_back (fin.entries (own_locks session ls)) st.table) k)
      shows.by.locks
      ∙ get-put_own session d.locks st.table k
      ∙ ap (kept_or (cond (not (is_others session (fin.get d.locks k))) (fin.get d.locks k) None))
      (shows.by.table k)
      ∙ go (fin.get d.locks k) (shows.by.keys k)
    where
      rows : (HitBy t (at_key k) s.writes → s_rolled.now k ≡ stored_of s k)
          × (NoneHit (at_key k) (own_of t s.writes) → s_rolled.now k ≡ s.now k)
          × (stored_of s_rolled k ≡ stored_of s k)
      rows = rollback_rows limit s good t undos are lawful k

      locked : (lock : Lock) → IsLocked d.units s lock k → (b : Bool)
          → (lock.owner.0 == session.0) ≡ b
          → kept_or (cond (not (not b)) (Some lock) None) (s.now k) ≡ s_rolled.now k
      locked lock h true e =
          let same : unit ≡ h.unit =
          cc (has, ap (unit_at d.units) (sym (eqb-true lock.owner.0 session.0 e)), h.has) in
          h.kept
          ∙ sym
          (rows.0 (subst (λ (u : OpenUnit). HitBy u.tran.0 (at_key k) s.writes) (sym same) h.own))
      locked lock h false e =
          let apart : h.unit.tran.0 ≡ t → ⊥ = λ f. eqb-false lock.owner.0 session.0 e
          (shows.by.units.apart lock.owner.0 session.0 h.unit unit h.has has f) in
          sym (rows.1 (free_apart (at_key k) h.unit.tran.0 t s.writes apart h.own))

      go : (o : Option Lock) → KeyShown d.units s o k
          → kept_or (cond (not (is_others session o)) o None) (s.now k) ≡ s_rolled.now k
      go None h = sym (rows.1 (free_kept (at_key k) (λ u. u == t) s.writes h))
      go (Some lock) h = locked lock h (lock.owner.0 == session.0) refl

  claimed : claimed_all (holding s_rolled.live (suc s_rolled.top)) s_rolled.pages ≤ allowed
  claimed =
      let left = undos_leave t s undos are in
      let one = shows.by.units.each session.0 unit has in
      let fewer =
      claimed_all-fewer (holding s.live (suc s.top)) (holding (others t s.live) (suc s.top))
      (ends s.live (others t s.live) (suc s.top) (λ u l. live_was t u s.live l)) s_rolled.pages in
      let undone_so = undos_claim limit s t (holding s.live (suc s.top)) undos good
      (covers s.live (suc s.top) t one.live) are lawful.1 in
      omega (
        arith,
        fewer,
        undone_so,
        shows.by.claimed,
        ap (λ (us : List ℕ). claimed_all (holding (others t us) (suc s_rolled.top)) s_rolled.pages)
            left.live,
        ap (λ (n : ℕ). claimed_all (holding (others t s.live) (suc n)) s_rolled.pages) left.top,
      )

  pub rollback_goes : slots_in new ≡ s_rolled.pages
      → AreListings (row_at (slot_of s_rolled.pages)) new.indexes
      → new.locks ≡ locks_without session d.locks
      → new.claims ≡ record d.claims { claims = fin.remove d.claims.claims session.0 }
      → new.units ≡ set d.units session.0 None → new.top ≡ d.top
      → new.log.reserved + (23 + 911 * unit.writes) ≡ d.log.reserved
      → taken_of new.log ≤ taken_of d.log → new.log.pages ≡ d.log.pages → KeepsNewest d new
      → Trails new.log new.set_aside new.units
      (state (left_by shows.first d) (RollBack unit.tran.0 ∷ undos))
      → AreNext (capacity_in d.space) d.log.pages d.log.records more
      → ((past : List Entry) → AllLoud past more) → length (changes_in more) ≡ unit.writes
      → rows_after (changes_in more)
      ≡ rows_before (own_of unit.tran.0 (left_by shows.first d).writes)
      → LeavesUndone (ground_of d) session.0 unit (ground_of new)
      → Goes st allowed d session stmts.Rollback Done new
  rollback_goes slots indexes locks claims units top reserved taken log_pages newest trails next
      loud made rows leaves = record {
        says = refl;
        room = tt;
        log = tt;
        logged = omega (arith, taken);
        opened = opened;
        set_aside = set_aside;
        grows = record { more = more; records = records; pages = log_pages };
        forced = λ e. forced;
        newest = newest;
        parts = appended_parts st allowed d shows more runs next new records;
        clean = appended_clean st allowed d shows more runs next (after_rollback st session)
            (allowed + 0) new shown;
        left = tt;
        shows =
            shows_more st allowed d shows (after_rollback st session) (allowed + 0) new more opened
            records capacity runs
            (settled_more st allowed d shows more runs
            (subst IsQuiet (sym acts) (quiet_undos t undos are)) new.log records forced)
            shown
            (subst (Trails new.log new.set_aside new.units) (sym (ap (state s) acts)) trails);
        moves =
            record_moves st allowed d shows session stmts.Rollback Done new more records runs next
            (slots ∙ ap (λ (as_is : List Act). (state s as_is).pages) (sym acts))
            (λ past write. loud past)
            (λ ws are. rows
            ∙ own_rows ws (subst (λ (o : Option OpenUnit). AreOwn d.log.records o ws) has are))
            (made ∙ sym (ap writes_in has))
            (ap (λ (us : List (Option OpenUnit)). writes_in (unit_at us session.0)) units
            ∙ ended_own d.units session.0 place)
            (λ n apart. ap (λ (us : List (Option OpenUnit)). unit_at us n) units
            ∙ ended_others d.units session.0 n apart)
            (λ table_rows table.
            let one = shows.by.units.each session.0 unit has in
            ended_found d session new unit (own_of t s.writes) place has (one.walks, one.count)
            units
            (rows_found table_rows stmts.Rollback Done) (λ found. refl));
        kept = λ is. absurd (cc (is));
        capacity = capacity;
        effect = subst
            (λ (o : Option OpenUnit). AfterRollback (ground_of d) session.0 o (ground_of new))
            (sym has) leaves;
      }
    where
      own_rows : (ws : List Write) → AreOwn d.log.records (Some unit) ws
          → rows_before (own_of t s.writes) ≡ rows_before ws
      own_rows ws are = walked_rows d.log.records t unit.last.0 (own_of t s.writes) ws
          (shows.by.units.each session.0 unit has).walks are.0

      runs : Runs limit s (acts_of [] more)
      runs = subst (Runs limit s) (sym acts) lawful

      shown : ShowsBy (after_rollback st session) (allowed + 0) new (state s (acts_of [] more))
      shown = subst (ShowsBy (after_rollback st session) (allowed + 0) new)
          (sym (ap (state s) acts)) (record {
            up = shows.by.up;
            sure = shows.by.sure;
            copy = shows.by.copy;
            table = table;
            locks = ap (locks_without session) shows.by.locks ∙ sym locks;
            claims = ap (λ c. fin.remove c session.0) shows.by.claims
                ∙ ap (λ (c : Claims). c.claims) (sym claims);
            drain = shows.by.drain ∙ ap (λ (c : Claims). c.drain) (sym claims);
            pages = pages;
            slots = slots;
            indexes = indexes;
            keys = λ k.
                subst
                (λ (us : List (Option OpenUnit)). KeyShown us s_rolled (fin.get new.locks k) k)
                (sym units) (subst
                (λ (ls : Locks). KeyShown (set d.units session.0 None) s_rolled (fin.get ls k) k)
                (sym locks) (keys_ended t s s_rolled session unit d.units d.locks place has refl
                (rolled_back limit s good t undos are lawful)
                (λ n other e f. shows.by.units.apart n session.0 other unit e has f) shows.by.keys
                k));
            places = ap length units ∙ length-set d.units session.0 None ∙ shows.by.places;
            units =
                subst (UnitsShown new.log.records s_rolled) (sym units)
                (subst (λ (rs : List Record). UnitsShown rs s_rolled (set d.units session.0 None))
                (sym records)
                (units_ended t s s_rolled session unit d.units d.locks place has refl
                (rolled_back limit s good t undos are lawful) d.log.records more shows.by.units));
            top = top ∙ shows.by.top ∙ sym (undos_leave t s undos are).top;
            owed = omega (
              arith,
              ap owed units,
              owed-set d.units session.0 None place,
              ap owed_to has,
              reserved,
              set_aside,
              shows.by.owed,
            );
            claimed = omega (arith, claimed);
          })
