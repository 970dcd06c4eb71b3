-- Under a drain that covers Writer nobody writes, where nobody holds Writer.
use Rattle.std.proofs.Common.{◌≡◌, ◌==◌, ◌&&◌, ◌||◌, ◌⊎◌, inl, inr, ℕ, Bool, true, false, not, cond}
use Rattle.std.proofs.Common.{List, Option, Some, None, refl, sym, ◌∙◌, ap, subst, if◌then◌else◌}
use Rattle.std.specs.FinMap as map
use Rattle.std.specs.FinMap.{get-insert, get-remove}
use Rattle.std.proofs.lemmas.Cmp.{nat_cmp_total}
use Rattle.std.specs.Cmp.{unsigned_tied}
use Rattle.rg_base.specs.declared.session.Class.{Class}
use Rattle.rg_base.specs.declared.session.Class.TheVariants.{Reader, Writer}
use Rattle.rg_base.specs.declared.session.Session.{Session}
use Rattle.rg_base.proofs.Small.{not_both}
use Rattle.rg_stmt.specs.declared.event.Actor.TheVariants as actors
use Rattle.rg_stmt.specs.declared.event.Entry.{Entry}
use Rattle.rg_stmt.specs.declared.event.Event.TheVariants as events
use Rattle.rg_stmt.specs.declared.stmt.Reply.{Reply}
use Rattle.rg_stmt.specs.declared.stmt.Reply.TheVariants.{Done, Found, Listed, Keyed, Absent}
use Rattle.rg_stmt.specs.declared.stmt.Reply.TheVariants.{Duplicate, Held, Victim, Drained, Full}
use Rattle.rg_stmt.specs.declared.stmt.Reply.TheVariants.{LogFull, Device, Down, NoMemory}
use Rattle.rg_stmt.specs.declared.stmt.Stmt.{Stmt}
use Rattle.rg_stmt.specs.declared.stmt.Stmt.TheVariants.{Insert, Update, Delete, Select, Scan, Find}
use Rattle.rg_stmt.specs.declared.stmt.Stmt.TheVariants.{Commit, Rollback}
use Rattle.rg_model.specs.Changes.{changes_of, is_rollback, is_write, unit_writes}
use Rattle.rg_model.specs.Claims.{claim_classes, claim_with, classes_needed, has_class, is_covered}
use Rattle.rg_model.specs.Claims.{is_drained}
use Rattle.rg_model.specs.Plain.{after, is_done, plain_reply}
use Rattle.rg_model.specs.Run.{MayAnswer, Says}
use Rattle.rg_model.specs.Said.{may_want_log, state_failed, state_refused}
use Rattle.rg_model.specs.State.{Claims, State}
use Rattle.rg_model.proofs.Allowed.{allowed_is, some_is}
use Rattle.rg_laws_utility.proofs.CourseLemmas.Writers.{AreWriters}
use Rattle.rg_laws_utility.proofs.LockClaimsLemmas.Writing.{IsWriter}

-- no session holds Writer
abbrev pub NoWriter : Claims → Type 0
NoWriter claims = (n : ℕ) → has_class (map.get claims n) Writer ≡ false

-- a statement leaves the utility and the drain, and nobody holds Writer
pub record Leaves (st new : State) : Type 0 where
  pub utility : new.utility ≡ st.utility
  pub drain : new.drain ≡ st.drain
  pub free : NoWriter new.claims

-- ---- the claims

read_only : (claim : Option Class) → has_class claim Writer ≡ false
    → has_class (Some (claim_with claim Reader)) Writer ≡ false
read_only None is = refl
read_only (Some class) is = is

free_read : (claims : Claims) (session : Session) → NoWriter claims
    → NoWriter (map.insert claims session.0 (claim_with (map.get claims session.0) Reader))
free_read claims session free n =
    ap (λ (o : Option Class). has_class o Writer)
    (get-insert nat_cmp_total claims session.0 (claim_with (map.get claims session.0) Reader) n
    ∙ ap
    (λ (b : Bool). cond b (Some (claim_with (map.get claims session.0) Reader)) (map.get claims n))
    (unsigned_tied n session.0))
    ∙ go (n == session.0)
  where
    go : (b : Bool)
        →
        has_class (cond b (Some (claim_with (map.get claims session.0) Reader)) (map.get claims n))
        Writer ≡ false
    go true = read_only (map.get claims session.0) (free session.0)
    go false = free n

free_without : (claims : Claims) (session : Session) → NoWriter claims
    → NoWriter (map.remove claims session.0)
free_without claims session free n =
    ap (λ (o : Option Class). has_class o Writer)
    (get-remove nat_cmp_total claims session.0 n
    ∙ ap (λ (b : Bool). cond b None (map.get claims n)) (unsigned_tied n session.0))
    ∙ go (n == session.0)
  where
    go : (b : Bool) → has_class (cond b None (map.get claims n)) Writer ≡ false
    go true = refl
    go false = free n

-- ---- a statement

module _ (st new : State) (session : Session) (free : NoWriter st.claims) where
  same : new ≡ st → Leaves st new
  same is = record {
    utility = ap (λ (s : State). s.utility) is;
    drain = ap (λ (s : State). s.drain) is;
    free = subst (λ (s : State). NoWriter s.claims) (sym is) free;
  }

  -- the new state is one that has the utility and the drain
  like : (other : State) → new ≡ other → other.utility ≡ st.utility → other.drain ≡ st.drain
      → NoWriter other.claims → Leaves st new
  like other is utility drain none = record {
    utility = ap (λ (s : State). s.utility) is ∙ utility;
    drain = ap (λ (s : State). s.drain) is ∙ drain;
    free = subst (λ (s : State). NoWriter s.claims) (sym is) none;
  }

  answered : (b : Bool) (stmt : Stmt) → may_want_log stmt ≡ false
      → new
      ≡ (if b then claim_classes (after st session stmt) session (classes_needed stmt) else st)
      → Leaves st new
  answered false stmt reads is = same is
  answered true (Select key) reads is = like _ is refl refl (free_read st.claims session free)
  answered true (Scan lo hi) reads is = like _ is refl refl (free_read st.claims session free)
  answered true (Find cat) reads is = like _ is refl refl (free_read st.claims session free)
  answered true Commit reads is = like _ is refl refl (free_without st.claims session free)
  answered true Rollback reads is = like _ is refl refl (free_without st.claims session free)
  answered true stmt reads is = absurd (cc (reads))

  failed : (stmt : Stmt) → state_failed st session stmt ≡ Some new → Leaves st new
  failed Commit e = like _ (allowed_is _ _ new e) refl refl free
  failed Rollback e = like _ (some_is _ new e) refl refl free
  failed stmt e = same (some_is st new e)

  refused : (stmt : Stmt) (plain : Reply) → state_refused st session stmt plain ≡ Some new
      → Leaves st new
  refused stmt (Held owner) e = like _ (some_is _ new e) refl refl free
  refused stmt plain e = go (is_done plain) e
    where
      go : (b : Bool) → (if b then state_failed st session stmt else None) ≡ Some new
          → Leaves st new
      go true e = failed stmt e
      go false e = absurd (cc e)

  may_answer : (stmt : Stmt) (reply : Reply) → may_want_log stmt ≡ false
      → MayAnswer st session stmt reply new → Leaves st new
  may_answer stmt NoMemory reads m = same m.1
  may_answer stmt (Victim owner) reads m =
      like _ m.1 refl refl (free_without st.claims session free)
  may_answer stmt (Full need) reads m = same m.2
  may_answer stmt (LogFull need left) reads m = same m.2
  may_answer stmt Device reads m = refused stmt (plain_reply st session stmt) m
  may_answer stmt Drained reads m = absurd m
  may_answer stmt Down reads m = absurd m
  may_answer stmt Done reads m = answered true stmt reads m.1
  may_answer stmt (Found row) reads m = answered true stmt reads m.1
  may_answer stmt (Listed rows) reads m = answered true stmt reads m.1
  may_answer stmt (Keyed keys) reads m = answered true stmt reads m.1
  may_answer stmt Absent reads m = same m.1
  may_answer stmt Duplicate reads m = same m.1
  may_answer stmt (Held owner) reads m = same m.1

  module _ (covers : is_covered st.drain Writer ≡ true) where
    kept_out : (a c h : Bool) → c ≡ true → h ≡ false → (a || ((c && not h) || false)) ≡ true
    kept_out true c h p q = refl
    kept_out false true false p q = refl
    kept_out false c true p q = absurd (cc q)
    kept_out false false h p q = absurd (cc p)

    writes_drained : (stmt : Stmt) → may_want_log stmt ≡ true → is_drained st session stmt ≡ true
    writes_drained (Insert row) w = kept_out
        (is_covered st.drain Reader && not (has_class (map.get st.claims session.0) Reader))
        (is_covered st.drain Writer) (has_class (map.get st.claims session.0) Writer) covers
        (free session.0)
    writes_drained (Update row) w = kept_out
        (is_covered st.drain Reader && not (has_class (map.get st.claims session.0) Reader))
        (is_covered st.drain Writer) (has_class (map.get st.claims session.0) Writer) covers
        (free session.0)
    writes_drained (Delete key) w = kept_out
        (is_covered st.drain Reader && not (has_class (map.get st.claims session.0) Reader))
        (is_covered st.drain Writer) (has_class (map.get st.claims session.0) Writer) covers
        (free session.0)
    writes_drained stmt w = absurd (cc w)

    abbrev pub Quiet : Stmt → Reply → Type 0
    Quiet stmt reply = (is_write stmt reply ≡ false) × Leaves st new

    -- an answer that is neither DOWN nor DRAINED
    let_in : (stmt : Stmt) (reply : Reply) → is_drained st session stmt ≡ false
        → MayAnswer st session stmt reply new → Quiet stmt reply
    let_in stmt reply admitted m = go (may_want_log stmt) refl
      where
        no_write : (reply : Reply) → may_want_log stmt ≡ false → is_write stmt reply ≡ false
        no_write Done reads = reads
        no_write reply reads = refl

        go : (b : Bool) → may_want_log stmt ≡ b → Quiet stmt reply
        go true e = absurd (not_both (is_drained st session stmt) (writes_drained stmt e) admitted)
        go false e = (no_write reply e, may_answer stmt reply e m)

    pub says_quiet : (stmt : Stmt) (reply : Reply) → Says st session stmt reply new
        → Quiet stmt reply
    says_quiet stmt Down s = (refl, same s.1)
    says_quiet stmt Drained s = (refl, same s.2)
    says_quiet stmt NoMemory s = let_in stmt NoMemory s.1 s.2
    says_quiet stmt (Victim owner) s = let_in stmt (Victim owner) s.1 s.2
    says_quiet stmt (Full need) s = let_in stmt (Full need) s.1 s.2
    says_quiet stmt (LogFull need left) s = let_in stmt (LogFull need left) s.1 s.2
    says_quiet stmt Device s = let_in stmt Device s.1 s.2
    says_quiet stmt Done s = let_in stmt Done s.1 s.2
    says_quiet stmt (Found row) s = let_in stmt (Found row) s.1 s.2
    says_quiet stmt (Listed rows) s = let_in stmt (Listed rows) s.1 s.2
    says_quiet stmt (Keyed keys) s = let_in stmt (Keyed keys) s.1 s.2
    says_quiet stmt Absent s = let_in stmt Absent s.1 s.2
    says_quiet stmt Duplicate s = let_in stmt Duplicate s.1 s.2
    says_quiet stmt (Held owner) s = let_in stmt (Held owner) s.1 s.2

    -- it counts no change
    pub said_quiet : (past : List Entry) (stmt : Stmt) (reply : Reply) → AreWriters past st
        → Says st session stmt reply new
        → (changes_of (actors.Session session) (events.Said stmt reply) past ≡ 0) × Leaves st new
    said_quiet past stmt reply writers s =
        (go (is_write stmt reply) (is_rollback stmt reply) quiet.0, quiet.1)
      where
        quiet : Quiet stmt reply
        quiet = says_quiet stmt reply s

        none : (unit_writes session.0 past ≡ 0) ⊎ IsWriter st.claims session.0
            → unit_writes session.0 past ≡ 0
        none (inl is) = is
        none (inr is) =
            absurd (not_both (has_class (map.get st.claims session.0) Writer) is (free session.0))

        go : (w r : Bool) → w ≡ false
            → (if w then 1 else (if r then unit_writes session.0 past else 0)) ≡ 0
        go true r e = absurd (cc e)
        go false true e = none (writers session.0)
        go false false e = refl
