-- Each entry keeps that the owner of each lock holds Writer.
--
-- 1. An entry may drop a session's locks with its claim, leave locks and claims, or lock one key
-- for
--    a session and register its claims. What it leaves of the locks is known (`Moved`), and what it
--    leaves of the claims is shown beside it (`Holds`).
use Rattle.std.proofs.Common.{◌≡◌, ◌==◌, ℕ, Bool, true, false, not, cond, List, [], ◌∷◌, Option}
use Rattle.std.proofs.Common.{Some, None, refl, sym, ◌∙◌, ap, subst, if◌then◌else◌, is_some}
use Rattle.std.proofs.Common.{inl, inr}
use Rattle.std.specs.Option.{unwrap_or}
use Rattle.std.specs.Ordering.{nat_cmp, eq_by_cmp}
use Rattle.std.specs.FinMap as map
use Rattle.std.specs.FinMap.{get-empty, get-insert, nat_cmp-IsAntisymmetric, same_map}
use Rattle.std.proofs.lemmas.Bool.{eqb-true}
use Rattle.std.proofs.lemmas.Cmp.{nat_cmp_total}
use Rattle.rg_base.specs.declared.control.Answer.{Answer}
use Rattle.rg_base.specs.declared.lock.Lock.{Lock}
use Rattle.rg_base.specs.declared.session.Class.TheVariants.{Writer}
use Rattle.rg_base.specs.declared.session.Session.{Session}
use Rattle.rg_base.proofs.Small.{not_both}
use Rattle.rg_stmt.specs.declared.event.Actor.{Actor}
use Rattle.rg_stmt.specs.declared.event.Actor.TheVariants as actors
use Rattle.rg_stmt.specs.declared.event.Entry.{Entry}
use Rattle.rg_stmt.specs.declared.event.Event.{Event}
use Rattle.rg_stmt.specs.declared.event.Event.TheVariants as events
use Rattle.rg_stmt.specs.declared.stmt.Reply.{Reply}
use Rattle.rg_stmt.specs.declared.stmt.Stmt.{Stmt}
use Rattle.rg_model.specs.Changes.{is_unit_end}
use Rattle.rg_model.specs.Claims.{has_class}
use Rattle.rg_model.specs.Held.{is_others}
use Rattle.rg_model.specs.Run.{Allows, Run}
use Rattle.rg_model.specs.State.{Claims, Locks, State, Table, at_rest}
use Rattle.rg_model.proofs.Overlay.{get-without}
use Rattle.rg_laws_utility.proofs.TraceLocksLemmas.Allowed.{Ended, Moved, SameHeld, Stayed, Wrote}
use Rattle.rg_laws_utility.proofs.TraceLocksLemmas.Allowed.{moved, system_held}
use Rattle.rg_laws_utility.proofs.TraceLocksLemmas.Allowed.{utility_held, utility_opens_not}
use Rattle.rg_laws_utility.specs.LockClaims.Unlocked.{AreClaimed}
use Rattle.rg_laws_utility.proofs.LockClaimsLemmas.Writing.{Holds, IsWriter, holds}

-- ---- locks

module _ (st new : State) where
  -- no lock and no claim has changed
  claimed_same : SameHeld st new → AreClaimed st → AreClaimed new
  claimed_same same claimed key lock has =
      subst (λ (cs : Claims). IsWriter cs lock.owner.0) (sym same.claims)
      (claimed key lock (subst (λ (ls : Locks). map.get ls key ≡ Some lock) same.locks has))

  module _ (session : Session) (stmt : Stmt) (reply : Reply) (h : Holds st new session stmt reply)
      (claimed : AreClaimed st) where
    -- a lock from before, of whatever session
    old_lock : is_unit_end stmt reply ≡ false → (key : ℕ) (lock : Lock)
        → map.get st.locks key ≡ Some lock → IsWriter new.claims lock.owner.0
    old_lock goes key lock has = go (lock.owner.0 == session.0) refl
      where
        go : (b : Bool) → (lock.owner.0 == session.0) ≡ b → IsWriter new.claims lock.owner.0
        go true e = subst (IsWriter new.claims) (sym (eqb-true lock.owner.0 session.0 e))
            (h.own goes
            (subst (IsWriter st.claims) (eqb-true lock.owner.0 session.0 e) (claimed key lock has)))
        go false e = h.others lock.owner.0 e (claimed key lock has)

    claimed_ended : Ended st new session stmt reply → AreClaimed new
    claimed_ended ended key lock has =
        by_lock (map.get st.locks key) refl
        (sym (ap (λ (ls : Locks). map.get ls key) ended.locks ∙ get-without session st.locks key)
        ∙ has)
      where
        by_lock : (o : Option Lock) → map.get st.locks key ≡ o
            → cond (is_others session o) o None ≡ Some lock → IsWriter new.claims lock.owner.0
        by_lock None at is = absurd (cc (is))
        by_lock (Some kept) at is = go (kept.owner.0 == session.0) refl is
          where
            go : (b : Bool) → (kept.owner.0 == session.0) ≡ b
                → cond (not b) (Some kept) None ≡ Some lock → IsWriter new.claims lock.owner.0
            go true e is = absurd (cc (is))
            go false e is =
                let same : kept ≡ lock = ap (λ (o : Option Lock). unwrap_or o kept) is in
                subst (λ (l : Lock). IsWriter new.claims l.owner.0) same
                (h.others kept.owner.0 e (claimed key kept at))

    claimed_stayed : Stayed st new stmt reply → AreClaimed new
    claimed_stayed stayed key lock has = old_lock stayed.end key lock
        (subst (λ (ls : Locks). map.get ls key ≡ Some lock) stayed.locks has)

    claimed_wrote : Wrote st new session stmt reply → AreClaimed new
    claimed_wrote wrote key lock has = by_key (is_some (map.get st.locks wrote.key))
        (subst (λ (ls : Locks). map.get ls key ≡ Some lock) wrote.locks has)
      where
        fresh : Lock
        fresh = record { owner = session; row = map.get st.table wrote.key }

        by_key : (b : Bool)
            → map.get (if b then st.locks else map.insert st.locks wrote.key fresh) key ≡ Some lock
            → IsWriter new.claims lock.owner.0
        by_key true is = old_lock wrote.end key lock is
        by_key false is = go (eq_by_cmp nat_cmp key wrote.key)
            (sym (get-insert nat_cmp_total st.locks wrote.key fresh key) ∙ is)
          where
            go : (b : Bool) → cond b (Some fresh) (map.get st.locks key) ≡ Some lock
                → IsWriter new.claims lock.owner.0
            go true is = subst (λ (l : Lock). IsWriter new.claims l.owner.0)
                (ap (λ (o : Option Lock). unwrap_or o fresh) is) (h.writer wrote.write)
            go false is = old_lock wrote.end key lock is

    claimed_moved : Moved st new session stmt reply → AreClaimed new
    claimed_moved (inl ended) = claimed_ended ended
    claimed_moved (inr (inl stayed)) = claimed_stayed stayed
    claimed_moved (inr (inr wrote)) = claimed_wrote wrote

-- ---- traces

pub claimed_begins : (table : Table) (copy : ℕ) → AreClaimed (at_rest table copy)
claimed_begins table copy key lock has = absurd (none (sym (get-empty nat_cmp key) ∙ has))
  where
    none : None ≡ Some lock → ⊥
    none e = absurd (cc (e))

pub claimed_goes :
    (past : List Entry) (st new : State) (answer : Option Answer) (actor : Actor) (event : Event)
    → Allows past answer actor event st new → AreClaimed st → AreClaimed new
claimed_goes past st new answer (actors.Session session) (events.Said stmt reply) allowed claimed =
    claimed_moved st new session stmt reply (holds st new session stmt reply allowed) claimed
    (moved st session new stmt reply allowed)
claimed_goes past st new answer (actors.Session session) event allowed claimed =
    absurd (cc (allowed))
claimed_goes past st new answer actors.System (events.Opened copy rows pages used) allowed claimed =
    subst AreClaimed (sym allowed.at_rest) (claimed_begins allowed.table copy)
claimed_goes past st new answer actors.System event allowed claimed =
    claimed_same st new (system_held past st new answer event allowed) claimed
claimed_goes past st new answer actors.Utility (events.Opened copy rows pages used) allowed
    claimed = absurd (utility_opens_not copy rows pages used past st new answer allowed)
claimed_goes past st new answer actors.Utility event allowed claimed =
    claimed_same st new (utility_held past st new answer event allowed) claimed

pub claimed_run : (past trace : List Entry) (st new : State) → Run past st trace new → AreClaimed st
    → AreClaimed new
claimed_run past [] st new run claimed = subst AreClaimed (sym run) claimed
claimed_run past (entry ∷ trace) st new run claimed = claimed_run (entry ∷ past) trace run.0 new
    run.2 (claimed_goes past st run.0 entry.answer entry.actor entry.event run.1 claimed)

-- ---- nobody holds Writer

pub none_locked : (st : State) → AreClaimed st
    → ((session : ℕ) → has_class (map.get st.claims session) Writer ≡ false) → st.locks ≡ map.empty
none_locked st claimed free = same_map nat_cmp_total nat_cmp-IsAntisymmetric st.locks map.empty
    (λ key. by_lock key (map.get st.locks key) refl ∙ sym (get-empty nat_cmp key))
  where
    by_lock : (key : ℕ) (o : Option Lock) → map.get st.locks key ≡ o → map.get st.locks key ≡ None
    by_lock key None at = at
    by_lock key (Some lock) at = absurd
        (not_both (has_class (map.get st.claims lock.owner.0) Writer) (claimed key lock at)
        (free lock.owner.0))
