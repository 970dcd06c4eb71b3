-- A COMMIT leaves the state of the trace after it.
use Rattle.std.proofs.Common.{◌≡◌, ◌==◌, ◌≤◌, ◌<◌, ◌+◌, ℕ, suc, Bool, true, false, not, List, []}
use Rattle.std.proofs.Common.{◌∷◌, ◌++◌, Option, Some, None, length, set, refl, sym, ◌∙◌, ap, subst}
use Rattle.std.proofs.Common.{◌⊎◌, inl, inr, arith, append-nil}
use Rattle.std.specs.FinMap as fin
use Rattle.std.proofs.lemmas.Bool.{eqb-true}
use Rattle.std.proofs.lemmas.List.{length-set, set-get_or}
use Rattle.rg_base.specs.declared.lock.Lock.{Lock}
use Rattle.rg_base.specs.declared.session.Session.{Session}
use Rattle.rg_claim.specs.declared.claims.Claims.{Claims}
use Rattle.rg_laws_pages.specs.ByteClaims.Claim.{claimed_all, holding}
use Rattle.rg_laws_pages.proofs.ByteClaimsLemmas.Owners.{ends}
use Rattle.rg_laws_pages.proofs.ByteClaimsLemmas.Pages.{claimed_all-fewer}
use Rattle.rg_home.specs.Pages.{slot_of}
use Rattle.rg_home.specs.Rows.{row_at}
use Rattle.rg_btree.specs.Indexes.Listings.{AreListings}
use Rattle.rg_btree.specs.declared.indexes.indexes.Indexes.{Indexes}
use Rattle.rg_model.specs.Committed.{locks_without}
use Rattle.rg_model.specs.Held.{is_others}
use Rattle.rg_model.specs.Plain.{after_commit}
use Rattle.rg_model.specs.State.{Locks, State}
use Rattle.rg_model.proofs.Ends.{without-none}
use Rattle.rg_record.specs.declared.record.Record.{Record}
use Rattle.rg_laws_log.specs.LogState.Act.{LogState, others, step}
use Rattle.rg_laws_log.specs.LogState.Act.{Commit}
use Rattle.rg_laws_log.proofs.LogStateLemmas.Live.{live_was}
use Rattle.rg_laws_log.proofs.LogStateLemmas.Units.{stored_other}
use Rattle.rg_space.specs.Space.{Agree, InStep, capacity_in, frames_of, summaries_of}
use Rattle.rg_stmt.specs.declared.stmt.Reply.TheVariants.{Done}
use Rattle.rg_stmt.specs.declared.stmt.Stmt.TheVariants as stmts
use Rattle.rg_laws_crash.specs.LogChain.Next.{AreNext}
use Rattle.rg_laws_crash.specs.LogChain.Tells.{Tells}
use Rattle.rg_laws_crash.proofs.LogChainLemmas.Owing.{owes}
use Rattle.rg_laws_crash.proofs.LogChainLemmas.Telling.{records_tell}
use Rattle.rg_image.specs.Pack.{log_bytes}
use Rattle.rg_image.specs.Rules.{HasSpace, IsOfTran, IsOpen, owed as owed_by}
use Rattle.rg_laws_log.specs.LogState.Lawful.{Runs}
use Rattle.rg_laws_log.specs.LogState.Records.{acts_of}
use Rattle.rg_laws_log.specs.LogState.Write.{own_of}
use Rattle.rg_laws_log.proofs.LogStateLemmas.Own.{own_ended_other}
use Rattle.rg_check.specs.OpenUnits.Unended.{left_of}
use Rattle.rg_engine.specs.Ended.{HasEnded, commit_record, records_committed}
use Rattle.rg_engine.specs.Effect.{AfterCommit, LeavesCommit}
use Rattle.rg_engine.specs.Engine.{HasPages, ground_of, slots_in}
use Rattle.rg_engine.specs.Newest.{KeepsNewest}
use Rattle.rg_space.specs.Memory.{list_seen}
use Rattle.rg_engine.specs.Moves.{Moves}
use Rattle.rg_engine.specs.Shows.{KeyShown, Shows, ShowsBy, UnitsShown, left_by}
use Rattle.rg_engine.specs.Steps.{Goes}
use Rattle.rg_engine.specs.Stored.{Grows, IsSettled}
use Rattle.rg_engine.specs.Reopens.{IsCleanIn, KeepsParts}
use Rattle.rg_engine.specs.Trails.{IsTrail, Trails}
use Rattle.rg_engine.specs.Units.{owed, owed_to, unit_at, writes_in}
use Rattle.rg_engine.specs.declared.engine.Engine.{Engine}
use Rattle.rg_engine.specs.declared.units.OpenUnit.{OpenUnit}
use Rattle.rg_engine.proofs.Ended.{keys_ended, units_ended}
use Rattle.rg_engine.proofs.Logged.{bytes_committed}
use Rattle.rg_engine.proofs.Settled.{shows_more}
use Rattle.rg_engine.proofs.Keys.{same_or_not}
use Rattle.rg_laws_utility.specs.ByteAccount.Found.{rows_found}
use Rattle.rg_engine.proofs.Moving.{ended_found, ended_others, ended_own, idle_end_moves}
use Rattle.rg_engine.proofs.Moving.{record_moves}
use Rattle.rg_engine.proofs.Reopens.{appended_clean, appended_parts, clean_in, clean_of}
use Rattle.rg_engine.proofs.Sessions.{left_consistent}
use Rattle.rg_engine.proofs.Trails.{trail_other}
use Rattle.rg_engine.proofs.UnitSlots.{owed-set, set_here, set_there}
use Rattle.rg_engine.proofs.WalkLists.{chain_length}

-- the state after the Commit of unit t
pub committed : (limit : ℕ) (s : LogState) (t : ℕ) → HasEnded t s (step s (Commit t))
committed limit s t = record {
  writes = refl;
  live = refl;
  stored = λ k none. stored_other limit s t k none;
  steady = λ u apart e. e;
}

module _ (st : State) (allowed : ℕ) (d new : Engine) (session : Session)
    (shows : Shows st allowed d) (low : session.0 < 256)
    (space : new.space ≡ d.space) (indexes : new.indexes ≡ d.indexes) (top : new.top ≡ d.top)
    (locks : new.locks ≡ locks_without session d.locks)
    (claims : new.claims ≡ record d.claims { claims = fin.remove d.claims.claims session.0 })
    (units : new.units ≡ set d.units session.0 None)
    (records : new.log.records ≡ records_committed d.log.records (unit_at d.units session.0))
    (reserved : new.log.reserved + owed_to (unit_at d.units session.0) ≡ d.log.reserved)
    (opened : new.opened ≡ d.opened) (set_aside : new.set_aside ≡ d.set_aside)
    (settled : IsSettled new.log) (grows : Grows d.log new.log) where
  abbrev s : LogState
  s = left_by shows.first d

  place : session.0 < length d.units
  place = omega (arith, low, shows.by.places)

  pages : HasPages new
  pages = record {
    step = subst (λ sp. InStep (list_seen (frames_of sp)) (summaries_of sp) (capacity_in sp))
        (sym space) shows.by.pages.step;
    agree = subst (λ sp. Agree (list_seen (frames_of sp)) (summaries_of sp)) (sym space)
        shows.by.pages.agree;
  }

  slots : slots_in new ≡ s.pages
  slots = ap (λ sp. slots_in (record d { space = sp })) space ∙ shows.by.slots

  owed_after : owed new.units + new.set_aside ≡ new.log.reserved
  owed_after = omega (
    arith,
    ap owed units,
    owed-set d.units session.0 None place,
    reserved,
    set_aside,
    shows.by.owed,
  )

  -- what is left stands to the state of the trace as it did
  by : (left : LogState) → left.pages ≡ s.pages → ((k : ℕ) → left.now k ≡ s.now k)
      → left.top ≡ s.top
      → ((k : ℕ)
      → KeyShown (set d.units session.0 None) left (fin.get (locks_without session d.locks) k) k)
      → UnitsShown new.log.records left (set d.units session.0 None)
      → claimed_all (holding left.live (suc left.top)) left.pages ≤ allowed
      → ShowsBy (after_commit st session) (allowed + 0) new left
  by left same_pages same_now same_top keys each claimed = record {
    up = shows.by.up;
    sure = shows.by.sure;
    copy = shows.by.copy;
    table = λ k. shows.by.table k ∙ sym (same_now k);
    locks = ap (locks_without session) shows.by.locks ∙ sym locks;
    claims = ap (λ c. fin.remove c session.0) shows.by.claims
        ∙ ap (λ (c : Claims). c.claims) (sym claims);
    drain = shows.by.drain ∙ ap (λ (c : Claims). c.drain) (sym claims);
    pages = pages;
    slots = slots ∙ sym same_pages;
    indexes = subst (λ (x : Indexes). AreListings (row_at (slot_of left.pages)) x) (sym indexes)
        (subst (λ ps. AreListings (row_at (slot_of ps)) d.indexes) (sym same_pages)
        shows.by.indexes);
    keys = λ k.
        subst (λ (us : List (Option OpenUnit)). KeyShown us left (fin.get new.locks k) k)
        (sym units)
        (subst (λ (ls : Locks). KeyShown (set d.units session.0 None) left (fin.get ls k) k)
        (sym locks) (keys k));
    places = ap length units ∙ length-set d.units session.0 None ∙ shows.by.places;
    units = subst (UnitsShown new.log.records left) (sym units) each;
    top = top ∙ shows.by.top ∙ sym same_top;
    owed = owed_after;
    claimed = omega (arith, claimed);
  }

  -- without a unit the trails are the same ones
  idle_trails : unit_at d.units session.0 ≡ None → new.log.records ≡ d.log.records
      → set d.units session.0 None ≡ d.units → Trails new.log new.set_aside new.units s
  idle_trails none same same_units = record {
    tells = subst (λ (rs : List Record). Tells rs s) (sym same) shows.trails.tells;
    each = λ n unit has. subst (λ (rs : List Record). IsTrail rs s unit) (sym same)
        (shows.trails.each n unit
        (ap (λ (us : List (Option OpenUnit)). unit_at us n) (sym same_units ∙ sym units) ∙ has));
    paid = omega (arith, ap owed_by same, shows.trails.paid, reserved, set_aside, ap owed_to none);
    space = omega
        (arith, ap log_bytes same, reserved, ap owed_to none, grows.pages, shows.trails.space);
  }

  module _ (unit : OpenUnit) (has : unit_at d.units session.0 ≡ Some unit) where
    abbrev rs : List Record
    rs = d.log.records

    abbrev t : ℕ
    t = unit.tran.0

    abbrev entry : Record
    entry = commit_record (length d.log.records + 1) unit

    is_open : IsOpen t rs
    is_open = shows.trails.tells.live t (shows.by.units.each session.0 unit has).live

    is_of : IsOfTran rs entry
    is_of = record {
      some = is_open.0;
      drawn = λ none. absurd (omega (arith, ap length none, is_open.1));
      back = (shows.trails.each session.0 unit has).last;
      going = is_open.2;
    }

    paid : owed_by (rs ++ entry ∷ []) + new.set_aside ≡ new.log.reserved
    paid =
        let chain = chain_length rs t 0 [] unit.last.0 (own_of t s.writes) (left_of t rs)
        (shows.trails.each session.0 unit has).lefts in
        omega (
          arith,
          owes.end rs entry is_of refl is_open.1,
          chain,
          (shows.by.units.each session.0 unit has).count,
          shows.trails.paid,
          reserved,
          set_aside,
          ap owed_to has,
        )

    same : new.log.records ≡ rs ++ entry ∷ []
    same = records ∙ ap (records_committed rs) has

    has_space : HasSpace d.log.pages (rs ++ entry ∷ [])
    has_space = omega (
      arith,
      paid,
      shows.trails.space,
      ap log_bytes same,
      ap log_bytes records,
      bytes_committed rs (unit_at d.units session.0) d.log.reserved new.log.reserved reserved,
    )

    -- the Commit may be appended
    pub commit_next : AreNext (capacity_in d.space) d.log.pages d.log.records
        (commit_record (length d.log.records + 1) unit ∷ [])
    commit_next = (
      record {
        position = refl;
        links = record { some = is_open.0; back = (shows.trails.each session.0 unit has).last };
        names = tt;
        near = tt;
        space = has_space;
      },
      tt,
    )

    -- and then the trails of the other units go on
    committed_trails : Trails new.log new.set_aside new.units (step s (Commit t))
    committed_trails =
        let one = shows.by.units.each session.0 unit has in
        record {
          tells =
              subst (λ (xs : List Record). Tells xs (step s (Commit t))) (sym same)
              (records_tell (capacity_in d.space) d.log.pages rs (entry ∷ []) s shows.trails.tells
              (left_consistent st allowed d shows) ((one.live, one.steady), tt) commit_next);
          each = λ n u h. subst (λ (xs : List Record). IsTrail xs (step s (Commit t)) u) (sym same)
              (go n u (ap (λ (us : List (Option OpenUnit)). unit_at us n) (sym units) ∙ h)
              (same_or_not n session.0));
          paid = ap (λ (xs : List Record). owed_by xs + new.set_aside) same ∙ paid;
          space = omega (
            arith,
            ap log_bytes records,
            bytes_committed rs (unit_at d.units session.0) d.log.reserved new.log.reserved reserved,
            grows.pages,
            shows.trails.space,
          );
        }
      where
        go : (n : ℕ) (u : OpenUnit) → unit_at (set d.units session.0 None) n ≡ Some u
            → (n ≡ session.0) ⊎ (n ≡ session.0 → ⊥)
            → IsTrail (rs ++ entry ∷ []) (step s (Commit t)) u
        go n u h (inl f) = absurd
            (cc
            (h, ap (unit_at (set d.units session.0 None)) f, set_here d.units session.0 None place))
        go n u h (inr f) =
            let there : unit_at d.units n ≡ Some u =
            sym (set_there d.units session.0 n None f) ∙ h in
            let apart : u.tran.0 ≡ t → ⊥ =
            λ g. f (shows.by.units.apart n session.0 u unit there has g) in
            trail_other rs s (step s (Commit t)) entry u (λ g. apart (sym g))
            (own_ended_other u.tran.0 t s.writes apart) (shows.trails.each n u there)

  -- no unit, and so no locks

  no_change : unit_at d.units session.0 ≡ None → set d.units session.0 None ≡ d.units
  no_change none = ap (set d.units session.0) (sym none) ∙ set-get_or d.units session.0 None

  no_record : unit_at d.units session.0 ≡ None → new.log.records ≡ d.log.records
  no_record none = records ∙ ap (records_committed d.log.records) none

  idle_by : unit_at d.units session.0 ≡ None → ShowsBy (after_commit st session) (allowed + 0) new s
  idle_by none =
      let same_locks : locks_without session d.locks ≡ d.locks =
      without-none session d.locks (λ k. unlocked (fin.get d.locks k) k (shows.by.keys k)) in
      by s refl (λ k. refl) refl
      (λ k.
      subst
      (λ (us : List (Option OpenUnit)). KeyShown us s (fin.get (locks_without session d.locks) k) k)
      (sym (no_change none))
      (subst (λ (ls : Locks). KeyShown d.units s (fin.get ls k) k) (sym same_locks)
      (shows.by.keys k)))
      (subst (UnitsShown new.log.records s) (sym (no_change none))
      (subst (λ (rs : List Record). UnitsShown rs s d.units) (sym (no_record none)) shows.by.units))
      shows.by.claimed
    where
      unlocked : (o : Option Lock) (k : ℕ) → KeyShown d.units s o k → is_others session o ≡ true
      unlocked None k h = refl
      unlocked (Some lock) k h = go (lock.owner.0 == session.0) refl
        where
          go : (b : Bool) → (lock.owner.0 == session.0) ≡ b → not b ≡ true
          go false e = refl
          go true e =
              absurd (cc (h.has, ap (unit_at d.units) (eqb-true lock.owner.0 session.0 e), none))

  pub idle_shows : unit_at d.units session.0 ≡ None
      → Shows (after_commit st session) (allowed + 0) new
  idle_shows none =
      shows_more st allowed d shows (after_commit st session) (allowed + 0) new [] opened
      (no_record none ∙ sym (append-nil d.log.records)) (ap (λ sp. capacity_in sp) space) tt settled
      (idle_by none) (idle_trails none (no_record none) (no_change none))

  pub idle_parts : unit_at d.units session.0 ≡ None → KeepsParts d new
  idle_parts none = appended_parts st allowed d shows [] tt tt new
      (no_record none ∙ sym (append-nil d.log.records))

  pub idle_clean : unit_at d.units session.0 ≡ None → IsCleanIn d → IsCleanIn new
  idle_clean none clean = clean_in (after_commit st session) (allowed + 0) new s (idle_by none)
      (clean_of st allowed d s shows.by clean)

  -- a unit that has written

  one_record : (unit : OpenUnit) → unit_at d.units session.0 ≡ Some unit
      → new.log.records ≡ d.log.records ++ commit_record (length d.log.records + 1) unit ∷ []
  one_record unit has = records ∙ ap (records_committed d.log.records) has

  pub one_runs : (unit : OpenUnit) → unit_at d.units session.0 ≡ Some unit
      → Runs (capacity_in d.space) s
      (acts_of [] (commit_record (length d.log.records + 1) unit ∷ []))
  one_runs unit has = let one = shows.by.units.each session.0 unit has in
      ((one.live, one.steady), tt)

  ended_by : (unit : OpenUnit) → unit_at d.units session.0 ≡ Some unit
      → ShowsBy (after_commit st session) (allowed + 0) new (step s (Commit unit.tran.0))
  ended_by unit has =
      let t : ℕ = unit.tran.0 in
      let entry : Record = commit_record (length d.log.records + 1) unit in
      let left : LogState = step s (Commit t) in
      by left refl (λ k. refl) refl (keys_ended t s left session unit d.units d.locks place has refl
      (committed (capacity_in d.space) s t)
      (λ n other e f. shows.by.units.apart n session.0 other unit e has f) shows.by.keys)
      (subst (λ (rs : List Record). UnitsShown rs left (set d.units session.0 None))
      (sym (one_record unit has))
      (units_ended t s left session unit d.units d.locks place has refl
      (committed (capacity_in d.space) s t) d.log.records (entry ∷ []) shows.by.units))
      (omega (
        arith,
        shows.by.claimed,
        claimed_all-fewer (holding s.live (suc s.top)) (holding (others t s.live) (suc s.top))
            (ends s.live (others t s.live) (suc s.top) (λ u l. live_was t u s.live l)) s.pages,
      ))

  pub ended : (unit : OpenUnit) → unit_at d.units session.0 ≡ Some unit
      → Shows (after_commit st session) (allowed + 0) new
  ended unit has =
      shows_more st allowed d shows (after_commit st session) (allowed + 0) new
      (commit_record (length d.log.records + 1) unit ∷ []) opened (one_record unit has)
      (ap (λ sp. capacity_in sp) space) (one_runs unit has) settled
      (ended_by unit has) (committed_trails unit has)

  -- the parts of the log can be opened

  pub ended_parts : (unit : OpenUnit) → unit_at d.units session.0 ≡ Some unit → KeepsParts d new
  ended_parts unit has =
      appended_parts st allowed d shows (commit_record (length d.log.records + 1) unit ∷ [])
      (one_runs unit has) (commit_next unit has) new (one_record unit has)

  pub ended_clean : (unit : OpenUnit) → unit_at d.units session.0 ≡ Some unit → IsCleanIn d
      → IsCleanIn new
  ended_clean unit has clean =
      appended_clean st allowed d shows (commit_record (length d.log.records + 1) unit ∷ [])
      (one_runs unit has) (commit_next unit has) (after_commit st session) (allowed + 0) new
      (ended_by unit has) clean

  -- no row is moved

  idle_moves : unit_at d.units session.0 ≡ None → Moves d session stmts.Commit Done new
  idle_moves none = idle_end_moves d session stmts.Commit new place none
      (ap (λ sp. slots_in (record d { space = sp })) space) (no_record none) units (λ t. refl) refl
      refl refl

  ended_moves : (unit : OpenUnit) → unit_at d.units session.0 ≡ Some unit
      → Moves d session stmts.Commit Done new
  ended_moves unit has =
      record_moves st allowed d shows session stmts.Commit Done new
      (commit_record (length d.log.records + 1) unit ∷ []) (one_record unit has) (one_runs unit has)
      (commit_next unit has) slots (λ past write. (tt, tt)) (λ ws are. refl) refl
      (ap (λ (us : List (Option OpenUnit)). writes_in (unit_at us session.0)) units
      ∙ ended_own d.units session.0 place)
      (λ n apart. ap (λ (us : List (Option OpenUnit)). unit_at us n) units
      ∙ ended_others d.units session.0 n apart)
      (λ t table.
      let one = shows.by.units.each session.0 unit has in
      ended_found d session new unit (own_of unit.tran.0 s.writes) place has (one.walks, one.count)
      units (rows_found t stmts.Commit Done) (λ found. refl))

  -- what it leaves

  pub idle_leaves : unit_at d.units session.0 ≡ None → new.log ≡ d.log → ground_of new ≡ ground_of d
  idle_leaves none log =
      let same : new.units ≡ d.units = units ∙ no_change none in
      λ i. record {
        pages = slots_in (record d { space = space i });
        units = same i;
        top = top i;
        capacity = capacity_in (space i);
        log = log i;
      }

  ended_leaves : (unit : OpenUnit) → unit_at d.units session.0 ≡ Some unit
      → new.log.forced ≡ length new.log.records
      → LeavesCommit (ground_of d) session.0 unit (ground_of new)
  ended_leaves unit has forced = record {
    records = one_record unit has;
    forced = forced;
    pages = ap (λ sp. slots_in (record d { space = sp })) space;
    ends = record {
      units = units;
      own = ap (λ (us : List (Option OpenUnit)). unit_at us session.0) units
          ∙ set_here d.units session.0 None place;
      top = top;
      capacity = ap (λ sp. capacity_in sp) space;
      reserved = reserved;
      log_pages = grows.pages;
    };
  }

  pub commit_goes : KeepsNewest d new → (unit_at d.units session.0 ≡ None → new.log ≡ d.log)
      → ((unit : OpenUnit) → unit_at d.units session.0 ≡ Some unit
      → new.log.forced ≡ length new.log.records)
      → Goes st allowed d session stmts.Commit Done new
  commit_goes newest same forced = record {
    says = refl;
    room = tt;
    log = tt;
    logged = omega (
      arith,
      ap log_bytes records,
      bytes_committed d.log.records (unit_at d.units session.0) d.log.reserved new.log.reserved
          reserved,
    );
    opened = opened;
    set_aside = set_aside;
    grows = grows;
    forced = λ e. absurd (cc (e));
    newest = newest;
    parts = go_parts (unit_at d.units session.0) refl;
    clean = go_clean (unit_at d.units session.0) refl;
    shows = go (unit_at d.units session.0) refl;
    left = tt;
    moves = go_moves (unit_at d.units session.0) refl;
    kept = λ is. absurd (cc (is));
    capacity = ap (λ sp. capacity_in sp) space;
    effect = go_effect (unit_at d.units session.0) refl;
  }
    where
      go_effect : (o : Option OpenUnit) → unit_at d.units session.0 ≡ o
          → AfterCommit (ground_of d) session.0 o (ground_of new)
      go_effect None e = idle_leaves e (same e)
      go_effect (Some unit) e = ended_leaves unit e (forced unit e)

      go_moves : (o : Option OpenUnit) → unit_at d.units session.0 ≡ o
          → Moves d session stmts.Commit Done new
      go_moves None e = idle_moves e
      go_moves (Some unit) e = ended_moves unit e

      go : (o : Option OpenUnit) → unit_at d.units session.0 ≡ o
          → Shows (after_commit st session) (allowed + 0) new
      go None e = idle_shows e
      go (Some unit) e = ended unit e

      go_parts : (o : Option OpenUnit) → unit_at d.units session.0 ≡ o → KeepsParts d new
      go_parts None e = idle_parts e
      go_parts (Some unit) e = ended_parts unit e

      go_clean : (o : Option OpenUnit) → unit_at d.units session.0 ≡ o → IsCleanIn d → IsCleanIn new
      go_clean None e = idle_clean e
      go_clean (Some unit) e = ended_clean unit e
