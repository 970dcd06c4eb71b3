-- Whose unit has written holds Writer.
use Rattle.std.proofs.Common.{◌≡◌, ◌==◌, ◌+◌, ◌⊎◌, inl, inr, ℕ, Bool, true, false, List, []}
use Rattle.std.proofs.Common.{◌∷◌, Option, refl, sym, ◌∙◌, subst, if◌then◌else◌}
use Rattle.std.specs.FinMap as map
use Rattle.std.proofs.lemmas.Bool.{eqb-true}
use Rattle.rg_base.specs.declared.control.Answer.{Answer}
use Rattle.rg_base.specs.declared.session.Class.TheVariants.{Writer}
use Rattle.rg_base.specs.declared.session.Session.{Session}
use Rattle.rg_base.proofs.Small.{nat_apart_turned}
use Rattle.rg_stmt.specs.declared.event.Actor.{Actor}
use Rattle.rg_stmt.specs.declared.event.Actor.TheVariants as actors
use Rattle.rg_stmt.specs.declared.event.Entry.{Entry}
use Rattle.rg_stmt.specs.declared.event.Event.{Event}
use Rattle.rg_stmt.specs.declared.event.Event.TheVariants as events
use Rattle.rg_stmt.specs.declared.stmt.Reply.{Reply}
use Rattle.rg_stmt.specs.declared.stmt.Stmt.{Stmt}
use Rattle.rg_model.specs.Changes.{is_unit_end, is_write, unit_writes, unit_writes_after}
use Rattle.rg_model.specs.Changes.{writes_after}
use Rattle.rg_model.specs.Run.{Allows}
use Rattle.rg_model.specs.State.{Claims, State, Table, at_rest}
use Rattle.rg_laws_utility.proofs.TraceLocksLemmas.Allowed.{system_held, utility_held}
use Rattle.rg_laws_utility.proofs.TraceLocksLemmas.Allowed.{utility_opens_not}
use Rattle.rg_laws_utility.proofs.LockClaimsLemmas.Writing.{Holds, IsWriter, holds}

-- ---- the writes of units

-- each session that has written in its unit holds Writer
abbrev pub AreWriters : List Entry → State → Type 0
AreWriters past st = (n : ℕ) → (unit_writes n past ≡ 0) ⊎ IsWriter st.claims n

module _ (past : List Entry) (st new : State) (answer : Option Answer)
    (writers : AreWriters past st) where
  -- the writes of a unit, and the claims, are the same
  stay : (actor : Actor) (event : Event)
      → ((n : ℕ) → unit_writes_after n actor event (unit_writes n past) ≡ unit_writes n past)
      → new.claims ≡ st.claims → (n : ℕ)
      → (unit_writes_after n actor event (unit_writes n past) ≡ 0) ⊎ IsWriter new.claims n
  stay actor event same claims n = go (writers n)
    where
      go : (unit_writes n past ≡ 0) ⊎ IsWriter st.claims n
          → (unit_writes_after n actor event (unit_writes n past) ≡ 0) ⊎ IsWriter new.claims n
      go (inl none) = inl (same n ∙ none)
      go (inr is) = inr (subst (λ (c : Claims). IsWriter c n) (sym claims) is)

  said : (session : Session) (stmt : Stmt) (reply : Reply) → Holds st new session stmt reply
      → (n : ℕ)
      → (unit_writes_after n (actors.Session session) (events.Said stmt reply) (unit_writes n past)
      ≡ 0) ⊎ IsWriter new.claims n
  said session stmt reply h n = by_session (session.0 == n) refl
    where
      before : ℕ
      before = unit_writes n past

      own : session.0 ≡ n → (e w : Bool) → is_unit_end stmt reply ≡ e → is_write stmt reply ≡ w
          → ((if e then 0 else (if w then before + 1 else before)) ≡ 0) ⊎ IsWriter new.claims n
      own at true w p q = inl refl
      own at false true p q = inr (subst (IsWriter new.claims) at (h.writer q))
      own at false false p q = by_before (writers n)
        where
          by_before : (before ≡ 0) ⊎ IsWriter st.claims n → (before ≡ 0) ⊎ IsWriter new.claims n
          by_before (inl none) = inl none
          by_before (inr is) = inr
              (subst (IsWriter new.claims) at (h.own p (subst (IsWriter st.claims) (sym at) is)))

      by_session : (b : Bool) → (session.0 == n) ≡ b
          → ((if b then writes_after stmt reply before else before) ≡ 0) ⊎ IsWriter new.claims n
      by_session true e =
          own (eqb-true session.0 n e) (is_unit_end stmt reply) (is_write stmt reply) refl refl
      by_session false e = by_before (writers n)
        where
          by_before : (before ≡ 0) ⊎ IsWriter st.claims n → (before ≡ 0) ⊎ IsWriter new.claims n
          by_before (inl none) = inl none
          by_before (inr is) = inr (h.others n (nat_apart_turned session.0 n e) is)

  after_entry : (actor : Actor) (event : Event) → Allows past answer actor event st new → (n : ℕ)
      → (unit_writes_after n actor event (unit_writes n past) ≡ 0) ⊎ IsWriter new.claims n
  after_entry (actors.Session session) (events.Said stmt reply) allowed n =
      said session stmt reply (holds st new session stmt reply allowed) n
  after_entry (actors.Session session) event allowed n = absurd (cc (allowed))
  after_entry actors.System (events.Opened copy rows pages used) allowed n = inl refl
  after_entry actors.System event allowed n =
      stay actors.System event (λ k. refl) (system_held past st new answer event allowed).claims n
  after_entry actors.Utility (events.Opened copy rows pages used) allowed n =
      absurd (utility_opens_not copy rows pages used past st new answer allowed)
  after_entry actors.Utility event allowed n =
      stay actors.Utility event (λ k. refl) (utility_held past st new answer event allowed).claims n

pub writers_after : (past : List Entry) (entry : Entry) (st new : State)
    → Allows past entry.answer entry.actor entry.event st new → AreWriters past st
    → AreWriters (entry ∷ past) new
writers_after past entry st new allowed writers =
    after_entry past st new entry.answer writers entry.actor entry.event allowed

pub writers_at_rest : (table : Table) (copy : ℕ) → AreWriters [] (at_rest table copy)
writers_at_rest table copy n = inl refl
