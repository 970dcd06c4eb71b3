-- Each entry keeps what the trace tells of the locks, and that a quiet key has none.
use Rattle.std.proofs.Common.{◌≡◌, ◌==◌, ◌||◌, ◌&&◌, ℕ, Bool, true, false, not, cond, List, [], ◌∷◌}
use Rattle.std.proofs.Common.{Option, Some, None, refl, sym, ◌∙◌, ap, if◌then◌else◌, arith, is_some}
use Rattle.std.proofs.Common.{inl, inr}
use Rattle.std.specs.Ordering.{nat_cmp, eq_by_cmp}
use Rattle.std.proofs.lemmas.Bool.{eqb-true}
use Rattle.std.proofs.lemmas.Cmp.{nat_cmp_total}
use Rattle.std.specs.FinMap as map
use Rattle.std.specs.FinMap.{get-insert, get-empty}
use Rattle.std.proofs.lemmas.Bool.Decides.{nat_tests}
use Rattle.rg_base.specs.declared.control.Answer.{Answer}
use Rattle.rg_base.specs.declared.lock.Lock.{Lock}
use Rattle.rg_base.specs.declared.session.Session.{Session}
use Rattle.rg_base.proofs.Small.{nat_turned, cmp_turned}
use Rattle.rg_stmt.specs.declared.event.Actor.{Actor}
use Rattle.rg_stmt.specs.declared.event.Actor.TheVariants as actors
use Rattle.rg_stmt.specs.declared.event.Entry.{Entry}
use Rattle.rg_stmt.specs.declared.event.Event.{Event}
use Rattle.rg_stmt.specs.declared.event.Event.TheVariants as events
use Rattle.rg_stmt.specs.declared.stmt.Reply.{Reply}
use Rattle.rg_stmt.specs.declared.stmt.Stmt.{Stmt}
use Rattle.rg_model.specs.Changes.{is_write}
use Rattle.rg_model.specs.Held.{is_others}
use Rattle.rg_model.specs.Plain.{lock_key}
use Rattle.rg_model.specs.Quiet.{is_among, is_locked_by, is_locked_in, is_quiet, is_quiet_by}
use Rattle.rg_model.specs.Quiet.{is_write_of, names_key}
use Rattle.rg_model.specs.Run.{Allows}
use Rattle.rg_model.specs.State.{State, Table, at_rest}
use Rattle.rg_model.proofs.Overlay.{get-without}
use Rattle.rg_laws_utility.specs.TraceLocks.Laws.{WasQuiet}
use Rattle.rg_laws_utility.specs.TraceLocks.Told.{LocksTold, QuietFree, left_of}
use Rattle.rg_laws_utility.proofs.TraceLocksLemmas.Allowed.{Ended, Moved, Stayed, Wrote, moved}
use Rattle.rg_laws_utility.proofs.TraceLocksLemmas.Allowed.{system_held, utility_held}
use Rattle.rg_laws_utility.proofs.TraceLocksLemmas.Allowed.{utility_opens_not}

-- what the trace tells after one more entry, by its actor and event
abbrev pub ToldBy : Actor → Event → List Entry → State → Type 0
ToldBy actor event past new = (key : ℕ) (over : List ℕ)
    → is_locked_by key over actor event (λ over. is_locked_in key over past)
    ≡ left_of (map.get new.locks key) over

abbrev pub FreeBy : Actor → Event → List Entry → State → Type 0
FreeBy actor event past new = (key : ℕ)
    → is_quiet_by key actor event past (is_quiet key past) ≡ true → map.get new.locks key ≡ None

-- where there is no lock, as after an opening
module _ (new : State) (none : new.locks ≡ map.empty) where
  pub free_at : (key : ℕ) → map.get new.locks key ≡ None
  free_at key = ap (λ l. map.get l key) none ∙ get-empty nat_cmp key

  pub told_at : (key : ℕ) (over : List ℕ) → false ≡ left_of (map.get new.locks key) over
  told_at key over = sym (ap (λ o. left_of o over) (free_at key))

-- a key that is quiet after a statement
module _ (past : List Entry) (session : Session) (stmt : Stmt) (reply : Reply) where
  not_written : (key : ℕ)
      → is_quiet_by key (actors.Session session) (events.Said stmt reply) past (is_quiet key past)
      ≡ true
      → is_write_of key stmt reply ≡ false
  not_written key e = go (is_write_of key stmt reply) e
    where
      go : (b : Bool) → (not b && is_quiet key past) ≡ true → b ≡ false
      go true e = absurd (cc (e))
      go false e = refl

  quiet_before : (key : ℕ)
      → is_quiet_by key (actors.Session session) (events.Said stmt reply) past (is_quiet key past)
      ≡ true
      → is_quiet key past ≡ true
  quiet_before key e = go (is_write_of key stmt reply) e
    where
      go : (b : Bool) → (not b && is_quiet key past) ≡ true → is_quiet key past ≡ true
      go true e = absurd (cc (e))
      go false e = e

  pub was_quiet : (key : ℕ)
      → is_quiet_by key (actors.Session session) (events.Said stmt reply) past (is_quiet key past)
      ≡ true
      → WasQuiet past stmt reply key
  was_quiet key e = record {
    before = quiet_before key e;
    other = λ w. ap (λ (b : Bool). b && names_key key stmt) (sym w) ∙ not_written key e;
  }

module _ (past : List Entry) (st new : State) where
  -- where the locks are the same
  module _ (locks : new.locks ≡ st.locks) where
    pub told_same : LocksTold past st → LocksTold past new
    told_same told key over = told key over ∙ sym (ap (λ l. left_of (map.get l key) over) locks)

    pub free_same : QuietFree past st → QuietFree past new
    free_same free key q = ap (λ l. map.get l key) locks ∙ free key q

    -- at a start the keys without a lock become quiet
    pub free_started : LocksTold past st → (key : ℕ) → not (is_locked_in key [] past) ≡ true
        → map.get new.locks key ≡ None
    free_started told key e =
        ap (λ l. map.get l key) locks ∙ none (map.get st.locks key) (ap not (sym (told key [])) ∙ e)
      where
        none : (o : Option Lock) → not (left_of o []) ≡ true → o ≡ None
        none None e = refl
        none (Some kept) e = absurd (cc (e))

  module _ (session : Session) (stmt : Stmt) (reply : Reply) where
    -- the lock of a key, as the entry of a statement tells it
    abbrev locked_after : ℕ → List ℕ → (ended wrote : Bool) → Bool
    locked_after key over ended wrote =
        if ended then is_locked_in key (session.0 ∷ over) past else (if wrote && names_key key stmt
        then not (is_among over session.0) else is_locked_in key over past)

    -- the locks of the session are left out
    dropped : (over : List ℕ) (o : Option Lock)
        → left_of o (session.0 ∷ over) ≡ left_of (cond (is_others session o) o None) over
    dropped over None = refl
    dropped over (Some kept) = go (session.0 == kept.owner.0) refl
      where
        go : (b : Bool) → (session.0 == kept.owner.0) ≡ b
            → not (b || is_among over kept.owner.0)
            ≡ left_of (cond (not (kept.owner.0 == session.0)) (Some kept) None) over
        go true e = ap (λ (b : Bool). left_of (cond (not b) (Some kept) None) over)
            (sym (nat_turned kept.owner.0 session.0 ∙ e))
        go false e = ap (λ (b : Bool). left_of (cond (not b) (Some kept) None) over)
            (sym (nat_turned kept.owner.0 session.0 ∙ e))

    told_ended : Ended st new session stmt reply → LocksTold past st
        → ToldBy (actors.Session session) (events.Said stmt reply) past new
    told_ended ended told key over =
        ap (λ b. locked_after key over b (is_write stmt reply)) ended.end
        ∙ told key (session.0 ∷ over) ∙ dropped over (map.get st.locks key)
        ∙ sym
        (ap (λ o. left_of o over)
        (ap (λ l. map.get l key) ended.locks ∙ get-without session st.locks key))

    told_stayed : Stayed st new stmt reply → LocksTold past st
        → ToldBy (actors.Session session) (events.Said stmt reply) past new
    told_stayed stayed told key over =
        ap (λ b. locked_after key over b (is_write stmt reply)) stayed.end
        ∙ ap (λ b. locked_after key over false b) stayed.write
        ∙ told_same stayed.locks told key over

    told_wrote : Wrote st new session stmt reply → LocksTold past st
        → ToldBy (actors.Session session) (events.Said stmt reply) past new
    told_wrote wrote told key over =
        ap (λ b. locked_after key over b (is_write stmt reply)) wrote.end
        ∙ ap (λ b. locked_after key over false b) wrote.write
        ∙ ap (λ (b : Bool). if b then not (is_among over session.0) else is_locked_in key over past)
        (wrote.names key)
        ∙ ap (λ (b : Bool). if wrote.key == key then not (is_among over session.0) else b)
        (told key over)
        ∙ sym (ap (λ l. left_of (map.get l key) over) wrote.locks ∙ locked_told key over)
      where
        fresh : Lock
        fresh = record { owner = session; row = map.get st.table wrote.key }

        by_key : (b : Bool) (o : Option Lock) (over : List ℕ)
            → left_of (cond b (Some fresh) o) over
            ≡ (if b then not (is_among over session.0) else left_of o over)
        by_key true o over = refl
        by_key false o over = refl

        own_lock : (kept : Lock) → map.get st.locks wrote.key ≡ Some kept
            → (key : ℕ) (over : List ℕ) (b : Bool) → (wrote.key == key) ≡ b
            → left_of (map.get st.locks key) over
            ≡ (if b then not (is_among over session.0) else left_of (map.get st.locks key) over)
        own_lock kept found key over true e =
            ap (λ q. left_of (map.get st.locks q) over) (sym (eqb-true wrote.key key e))
            ∙ ap (λ o. left_of o over) found
            ∙ ap (λ (n : ℕ). not (is_among over n)) (wrote.own kept found)
        own_lock kept found key over false e = refl

        -- afterwards the session has the lock of its key, and no other lock has changed
        locked_told : (key : ℕ) (over : List ℕ)
            → left_of (map.get (lock_key st session wrote.key) key) over
            ≡ (if wrote.key == key then not (is_among over session.0)
            else left_of (map.get st.locks key) over)
        locked_told key over = go (map.get st.locks wrote.key) refl
          where
            go : (o : Option Lock) → map.get st.locks wrote.key ≡ o
                → left_of
                (map.get (if is_some o then st.locks else map.insert st.locks wrote.key fresh) key)
                over
                ≡ (if wrote.key == key then not (is_among over session.0)
                else left_of (map.get st.locks key) over)
            go None e =
                ap (λ o. left_of o over)
                (get-insert nat_cmp_total st.locks wrote.key fresh key
                ∙ ap (λ b. cond b (Some fresh) (map.get st.locks key)) (cmp_turned key wrote.key))
                ∙ by_key (wrote.key == key) (map.get st.locks key) over
            go (Some kept) e = own_lock kept e key over (wrote.key == key) refl

    pub told_moved : Moved st new session stmt reply → LocksTold past st
        → ToldBy (actors.Session session) (events.Said stmt reply) past new
    told_moved (inl ended) told = told_ended ended told
    told_moved (inr (inl stayed)) told = told_stayed stayed told
    told_moved (inr (inr wrote)) told = told_wrote wrote told

    -- a free key that is not written stays free
    still_free : Moved st new session stmt reply → (key : ℕ) → is_write_of key stmt reply ≡ false
        → map.get st.locks key ≡ None → map.get new.locks key ≡ None
    still_free (inl ended) key w e = ap (λ l. map.get l key) ended.locks
        ∙ get-without session st.locks key ∙ ap (λ o. cond (is_others session o) o None) e
    still_free (inr (inl stayed)) key w e = ap (λ l. map.get l key) stayed.locks ∙ e
    still_free (inr (inr wrote)) key w e =
        ap (λ l. map.get l key) wrote.locks ∙ go (is_some (map.get st.locks wrote.key))
      where
        other_key : eq_by_cmp nat_cmp key wrote.key ≡ false
        other_key = test key wrote.key
            (sym (wrote.names key) ∙ ap (λ (b : Bool). b && names_key key stmt) (sym wrote.write)
            ∙ w)
          where
            test : (q k : ℕ) → (k == q) ≡ false → eq_by_cmp nat_cmp q k ≡ false
            test q k e = grind (arith, nat_tests, e)

        fresh : Lock
        fresh = record { owner = session; row = map.get st.table wrote.key }

        go : (b : Bool)
            → map.get (if b then st.locks else map.insert st.locks wrote.key fresh) key ≡ None
        go true = e
        go false = get-insert nat_cmp_total st.locks wrote.key fresh key
            ∙ ap (λ b. cond b (Some fresh) (map.get st.locks key)) other_key ∙ e

    pub free_moved : Moved st new session stmt reply → QuietFree past st
        → FreeBy (actors.Session session) (events.Said stmt reply) past new
    free_moved m free key q = still_free m key (not_written past session stmt reply key q)
        (free key (quiet_before past session stmt reply key q))

  -- by cases of the actor and the event

  pub told_goes : (answer : Option Answer) (actor : Actor) (event : Event)
      → Allows past answer actor event st new → LocksTold past st → ToldBy actor event past new
  told_goes answer (actors.Session session) (events.Said stmt reply) allowed told =
      told_moved session stmt reply (moved st session new stmt reply allowed) told
  told_goes answer (actors.Session session) event allowed told = absurd (cc (allowed))
  told_goes answer actors.System (events.Opened copy rows pages used) allowed told =
      told_at new (ap (λ (s : State). s.locks) allowed.at_rest)
  told_goes answer actors.System event allowed told =
      told_same (system_held past st new answer event allowed).locks told
  told_goes answer actors.Utility (events.Opened copy rows pages used) allowed told =
      absurd (utility_opens_not copy rows pages used past st new answer allowed)
  told_goes answer actors.Utility event allowed told =
      told_same (utility_held past st new answer event allowed).locks told

  pub free_goes : (answer : Option Answer) (actor : Actor) (event : Event)
      → Allows past answer actor event st new → LocksTold past st → QuietFree past st
      → FreeBy actor event past new
  free_goes answer (actors.Session session) (events.Said stmt reply) allowed told free =
      free_moved session stmt reply (moved st session new stmt reply allowed) free
  free_goes answer (actors.Session session) event allowed told free = absurd (cc (allowed))
  free_goes answer actors.System (events.Opened copy rows pages used) allowed told free =
      λ key q. free_at new (ap (λ (s : State). s.locks) allowed.at_rest) key
  free_goes answer actors.System (events.Started options copy pages) allowed told free =
      absurd (cc (allowed))
  free_goes answer actors.System event allowed told free =
      free_same (system_held past st new answer event allowed).locks free
  free_goes answer actors.Utility (events.Started options copy pages) allowed told free =
      free_started
      (utility_held past st new answer (events.Started options copy pages) allowed).locks told
  free_goes answer actors.Utility event allowed told free =
      free_same (utility_held past st new answer event allowed).locks free

pub both_begin : (table : Table) (copy : ℕ)
    → LocksTold [] (at_rest table copy) × QuietFree [] (at_rest table copy)
both_begin table copy =
    (told_at (at_rest table copy) refl, λ key q. free_at (at_rest table copy) refl key)

-- the same of an entry
pub quiet_stays :
    (past : List Entry) (entry : Entry) (session : Session) (stmt : Stmt) (reply : Reply) (key : ℕ)
    → entry.actor ≡ actors.Session session → entry.event ≡ events.Said stmt reply
    → is_quiet key (entry ∷ past) ≡ true → WasQuiet past stmt reply key
quiet_stays past entry session stmt reply key by said q =
    was_quiet past session stmt reply key
    (ap (λ event. is_quiet_by key (actors.Session session) event past (is_quiet key past))
    (sym said)
    ∙ ap (λ actor. is_quiet_by key actor entry.event past (is_quiet key past)) (sym by) ∙ q)
