-- Who holds Writer, and what a statement leaves of that.
use Rattle.std.proofs.Common.{◌≡◌, ◌==◌, ℕ, Bool, true, false, cond, List, []}
use Rattle.std.proofs.Common.{◌∷◌, Option, Some, None, refl, sym, ◌∙◌, ap, subst, if◌then◌else◌}
use Rattle.std.specs.FinMap as map
use Rattle.std.specs.FinMap.{get-insert, get-remove}
use Rattle.std.proofs.lemmas.Bool.{eqb-true}
use Rattle.std.proofs.lemmas.Cmp.{nat_cmp_total}
use Rattle.std.specs.Cmp.{unsigned_tied}
use Rattle.rg_base.specs.declared.session.Class.{Class}
use Rattle.rg_base.specs.declared.session.Class.TheVariants.{Reader, Writer}
use Rattle.rg_base.specs.declared.session.Session.{Session}
use Rattle.rg_base.proofs.Small.{cmp_same, not_both}
use Rattle.rg_stmt.specs.declared.stmt.Reply.{Reply}
use Rattle.rg_stmt.specs.declared.stmt.Reply.TheVariants.{Done, Found, Listed, Keyed, Absent}
use Rattle.rg_stmt.specs.declared.stmt.Reply.TheVariants.{Duplicate, Held, Victim, Drained, Full}
use Rattle.rg_stmt.specs.declared.stmt.Reply.TheVariants.{LogFull, Device, Down, NoMemory}
use Rattle.rg_stmt.specs.declared.stmt.Stmt.{Stmt}
use Rattle.rg_stmt.specs.declared.stmt.Stmt.TheVariants.{Insert, Update, Delete, Select, Scan, Find}
use Rattle.rg_stmt.specs.declared.stmt.Stmt.TheVariants.{Commit, Rollback}
use Rattle.rg_model.specs.Changes.{is_unit_end, is_write}
use Rattle.rg_model.specs.Claims.{claim_with, claims_with, classes_needed, has_class}
use Rattle.rg_model.specs.Plain.{after, after_answer, is_done, plain_reply}
use Rattle.rg_model.specs.Run.{Says}
use Rattle.rg_model.specs.State.{Claims, State}
use Rattle.rg_laws_utility.proofs.TraceLocksLemmas.Allowed.{refused_held}
use Rattle.rg_laws_utility.proofs.TraceLocksLemmas.Allowed.{victim_ends}

-- ---- the claims of sessions

-- the session holds Writer
abbrev pub IsWriter : Claims → ℕ → Type 0
IsWriter claims n = has_class (map.get claims n) Writer ≡ true

writer_with : (claim : Option Class) (class : Class) → has_class claim Writer ≡ true
    → has_class (Some (claim_with claim class)) Writer ≡ true
writer_with claim Writer is = refl
writer_with None Reader is = absurd (cc (is))
writer_with (Some class) Reader is = is

-- who holds Writer still does once a session has a class more
kept_one : (claims : Claims) (session : Session) (class : Class) (n : ℕ) → IsWriter claims n
    → IsWriter (map.insert claims session.0 (claim_with (map.get claims session.0) class)) n
kept_one claims session class n is =
    ap (λ (o : Option Class). has_class o Writer)
    (get-insert nat_cmp_total claims session.0 (claim_with (map.get claims session.0) class) n
    ∙ ap
    (λ (b : Bool). cond b (Some (claim_with (map.get claims session.0) class)) (map.get claims n))
    (unsigned_tied n session.0))
    ∙ go (n == session.0) refl
  where
    go : (b : Bool) → (n == session.0) ≡ b
        → has_class (cond b (Some (claim_with (map.get claims session.0) class)) (map.get claims n))
        Writer ≡ true
    go true e = writer_with (map.get claims session.0) class
        (subst (IsWriter claims) (eqb-true n session.0 e) is)
    go false e = is

kept_all : (claims : Claims) (session : Session) (classes : List Class) (n : ℕ) → IsWriter claims n
    → IsWriter (claims_with claims session classes) n
kept_all claims session [] n is = is
kept_all claims session (class ∷ classes) n is =
    kept_all (map.insert claims session.0 (claim_with (map.get claims session.0) class)) session
    classes n (kept_one claims session class n is)

-- a session that registers Writer holds it
registers : (claims : Claims) (session : Session)
    → IsWriter (claims_with claims session (Reader ∷ Writer ∷ [])) session.0
registers claims session =
    let read : Claims =
    map.insert claims session.0 (claim_with (map.get claims session.0) Reader) in
    ap (λ (o : Option Class). has_class o Writer)
    (get-insert nat_cmp_total read session.0 Writer session.0
    ∙ ap (λ (b : Bool). cond b (Some Writer) (map.get read session.0)) (cmp_same session.0))

-- the claims of other sessions stay where one is dropped
others_kept : (claims : Claims) (session : Session) (n : ℕ) → (n == session.0) ≡ false
    → IsWriter claims n → IsWriter (map.remove claims session.0) n
others_kept claims session n other is =
    ap (λ (o : Option Class). has_class o Writer)
    (get-remove nat_cmp_total claims session.0 n
    ∙ ap (λ (b : Bool). cond b None (map.get claims n)) (unsigned_tied n session.0 ∙ other)) ∙ is

-- ---- what a statement leaves of the claims

-- Who holds Writer still does, but for the session at the end of its unit. A session that wrote
-- holds it.
pub record Holds (st new : State) (session : Session) (stmt : Stmt) (reply : Reply) : Type 0 where
  pub others : (n : ℕ) → (n == session.0) ≡ false → IsWriter st.claims n → IsWriter new.claims n
  pub own : is_unit_end stmt reply ≡ false → IsWriter st.claims session.0
      → IsWriter new.claims session.0
  pub writer : is_write stmt reply ≡ true → IsWriter new.claims session.0

module _ (st new : State) (session : Session) where
  -- claims that are the same
  same_held : (stmt : Stmt) (reply : Reply) → is_write stmt reply ≡ false → new.claims ≡ st.claims
      → Holds st new session stmt reply
  same_held stmt reply none same = record {
    others = λ n other is. subst (λ (claims : Claims). IsWriter claims n) (sym same) is;
    own = λ goes is. subst (λ (claims : Claims). IsWriter claims session.0) (sym same) is;
    writer = λ wrote. absurd (not_both (is_write stmt reply) wrote none);
  }

  -- the claims of classes that are registered
  more_held : (stmt : Stmt) (reply : Reply) (classes : List Class)
      → new.claims ≡ claims_with st.claims session classes
      → (is_write stmt reply ≡ true → IsWriter (claims_with st.claims session classes) session.0)
      → Holds st new session stmt reply
  more_held stmt reply classes is writes = record {
    others = λ n other was. subst (λ (claims : Claims). IsWriter claims n) (sym is)
        (kept_all st.claims session classes n was);
    own = λ goes was. subst (λ (claims : Claims). IsWriter claims session.0) (sym is)
        (kept_all st.claims session classes session.0 was);
    writer =
        λ wrote. subst (λ (claims : Claims). IsWriter claims session.0) (sym is) (writes wrote);
  }

  -- the claim of the session is dropped
  less_held : (stmt : Stmt) (reply : Reply) → is_unit_end stmt reply ≡ true
      → is_write stmt reply ≡ false → new.claims ≡ map.remove st.claims session.0
      → Holds st new session stmt reply
  less_held stmt reply ends none is = record {
    others = λ n other was. subst (λ (claims : Claims). IsWriter claims n) (sym is)
        (others_kept st.claims session n other was);
    own = λ goes was. absurd (not_both (is_unit_end stmt reply) ends goes);
    writer = λ wrote. absurd (not_both (is_write stmt reply) wrote none);
  }

  abbrev claims_are : (stmt : Stmt) (reply : Reply) → new ≡ after_answer st session stmt reply
      → new.claims ≡ (after_answer st session stmt reply).claims
  claims_are stmt reply is = ap (λ (s : State). s.claims) is

  done : (stmt : Stmt) → new ≡ after_answer st session stmt Done → Holds st new session stmt Done
  done (Insert row) is = more_held (Insert row) Done (Reader ∷ Writer ∷ [])
      (claims_are (Insert row) Done is) (λ wrote. registers st.claims session)
  done (Update row) is = more_held (Update row) Done (Reader ∷ Writer ∷ [])
      (claims_are (Update row) Done is) (λ wrote. registers st.claims session)
  done (Delete key) is = more_held (Delete key) Done (Reader ∷ Writer ∷ [])
      (claims_are (Delete key) Done is) (λ wrote. registers st.claims session)
  done (Select key) is = more_held (Select key) Done (Reader ∷ []) (claims_are (Select key) Done is)
      (λ wrote. absurd (cc (wrote)))
  done (Scan lo hi) is = more_held (Scan lo hi) Done (Reader ∷ []) (claims_are (Scan lo hi) Done is)
      (λ wrote. absurd (cc (wrote)))
  done (Find cat) is = more_held (Find cat) Done (Reader ∷ []) (claims_are (Find cat) Done is)
      (λ wrote. absurd (cc (wrote)))
  done Commit is = less_held Commit Done refl refl (claims_are Commit Done is)
  done Rollback is = less_held Rollback Done refl refl (claims_are Rollback Done is)

  -- what was looked up, so no unit ended
  looked : (stmt : Stmt) (reply : Reply) → is_done reply ≡ true → is_write stmt reply ≡ false
      → (Done ≡ reply → ⊥) → reply ≡ plain_reply st session stmt
      → new ≡ after_answer st session stmt reply → Holds st new session stmt reply
  looked stmt reply counts none other plain is = go stmt none plain
      (claims_are stmt reply is
      ∙ ap
      (λ (b : Bool). (if b then record (after st session stmt) {
        claims = claims_with (after st session stmt).claims session (classes_needed stmt);
      } else st).claims) counts)
    where
      go : (stmt : Stmt) → is_write stmt reply ≡ false → reply ≡ plain_reply st session stmt
          → new.claims ≡ claims_with (after st session stmt).claims session (classes_needed stmt)
          → Holds st new session stmt reply
      go (Insert row) none plain is = more_held (Insert row) reply (Reader ∷ Writer ∷ []) is
          (λ wrote. registers st.claims session)
      go (Update row) none plain is = more_held (Update row) reply (Reader ∷ Writer ∷ []) is
          (λ wrote. registers st.claims session)
      go (Delete key) none plain is = more_held (Delete key) reply (Reader ∷ Writer ∷ []) is
          (λ wrote. registers st.claims session)
      go (Select key) none plain is =
          more_held (Select key) reply (Reader ∷ []) is (λ wrote. absurd (cc (wrote, none)))
      go (Scan lo hi) none plain is =
          more_held (Scan lo hi) reply (Reader ∷ []) is (λ wrote. absurd (cc (wrote, none)))
      go (Find cat) none plain is =
          more_held (Find cat) reply (Reader ∷ []) is (λ wrote. absurd (cc (wrote, none)))
      go Commit none plain is = absurd (other (sym plain))
      go Rollback none plain is = absurd (other (sym plain))

  pub holds : (stmt : Stmt) (reply : Reply) → Says st session stmt reply new
      → Holds st new session stmt reply
  holds stmt Down s = same_held stmt Down refl (ap (λ (x : State). x.claims) s.1)
  holds stmt Drained s = same_held stmt Drained refl (ap (λ (x : State). x.claims) s.2)
  holds stmt NoMemory s = same_held stmt NoMemory refl (ap (λ (x : State). x.claims) s.2.1)
  holds stmt (Victim owner) s = less_held stmt (Victim owner) (victim_ends stmt owner) refl
      (ap (λ (x : State). x.claims) s.2.1)
  holds stmt (Full need) s = same_held stmt (Full need) refl (ap (λ (x : State). x.claims) s.2.2)
  holds stmt (LogFull need left) s =
      same_held stmt (LogFull need left) refl (ap (λ (x : State). x.claims) s.2.2)
  holds stmt Device s = same_held stmt Device refl
      (refused_held st new session stmt (plain_reply st session stmt) s.2).claims
  holds stmt Done s = done stmt s.2.1
  holds stmt (Found row) s = looked stmt (Found row) refl refl (λ e. cc (e)) s.2.0 s.2.1
  holds stmt (Listed rows) s = looked stmt (Listed rows) refl refl (λ e. cc (e)) s.2.0 s.2.1
  holds stmt (Keyed keys) s = looked stmt (Keyed keys) refl refl (λ e. cc (e)) s.2.0 s.2.1
  holds stmt Absent s = same_held stmt Absent refl (ap (λ (x : State). x.claims) s.2.1)
  holds stmt Duplicate s = same_held stmt Duplicate refl (ap (λ (x : State). x.claims) s.2.1)
  holds stmt (Held owner) s = same_held stmt (Held owner) refl (ap (λ (x : State). x.claims) s.2.1)
