-- The keys with rows, and the locked ones, are among some that are no more than the entries.
use Rattle.std.proofs.Common.{◌≡◌, ◌≤◌, ◌+◌, ◌-◌, ◌⊎◌, inl, inr, ℕ, Bool, true, false, not, cond}
use Rattle.std.proofs.Common.{List, [], ◌∷◌, length, Option, Some, None, refl, sym, ◌∙◌, ap, arith}
use Rattle.std.specs.Option.{is_some}
use Rattle.std.specs.Ordering.{nat_cmp, eq_by_cmp}
use Rattle.std.specs.FinMap as fin
use Rattle.std.specs.FinMap.{find, get-entries, get-remove, get-insert, get-retain_keys}
use Rattle.std.specs.FinMap.{len-entries, len-remove, nat_cmp-IsAntisymmetric}
use Rattle.std.proofs.lemmas.Cmp.{nat_cmp_total}
use Rattle.rg_base.specs.declared.lock.Lock.{Lock}
use Rattle.rg_base.specs.declared.row.Row.{Row}
use Rattle.rg_base.specs.declared.session.Session.{Session}
use Rattle.rg_base.proofs.Small.{cmp_same, cmp_one}
use Rattle.rg_model.specs.Committed.{committed_table, locks_without, own_locks, put_back}
use Rattle.rg_model.specs.Claims.{claim_classes, classes_needed}
use Rattle.rg_model.specs.Held.{is_others}
use Rattle.rg_model.specs.Plain.{after, after_answer, is_done, write_key}
use Rattle.rg_model.specs.State.{State, Table, is_present, row_count}
use Rattle.rg_model.proofs.Overlay.{get-committed, get-put_back, get-set_to, kept_or}
use Rattle.rg_stmt.specs.declared.stmt.Reply.{Reply}
use Rattle.rg_stmt.specs.declared.stmt.Reply.TheVariants.{Device}
use Rattle.rg_stmt.specs.declared.stmt.Stmt.{Stmt}
use Rattle.rg_stmt.specs.declared.stmt.Stmt.TheVariants.{Insert, Update, Delete, Select, Scan, Find}
use Rattle.rg_stmt.specs.declared.stmt.Stmt.TheVariants.{Commit, Rollback}
use Rattle.rg_engine.specs.Answers.{state_left}
use Rattle.rg_desk.specs.Desk.{AreKeys, IsAmong}

-- ---- a table has no more rows than its keys are among

first_there : (table : Table) (es : List (ℕ × Row)) → fin.entries table ≡ es
    → ((k : ℕ) → is_present table k ≡ true → ⊥) → length es ≡ 0
first_there table [] is none = refl
first_there table (e ∷ es) is none =
    absurd
    (none e.0
    (ap (λ (o : Option Row). is_some o)
    (get-entries table e.0 ∙ ap (find nat_cmp e.0) is
    ∙ ap (λ (b : Bool). cond b (Some e.1) (find nat_cmp e.0 es)) (cmp_same e.0))))

gone : (table : Table) (k q : ℕ) → is_present (fin.remove table k) q ≡ true
    → (is_present table q ≡ true) × (q ≡ k → ⊥)
gone table k q there = go (eq_by_cmp nat_cmp q k) refl
  where
    at : is_some (cond (eq_by_cmp nat_cmp q k) None (fin.get table q)) ≡ true
    at = ap (λ (o : Option Row). is_some o) (sym (get-remove nat_cmp_total table k q)) ∙ there

    go : (b : Bool) → eq_by_cmp nat_cmp q k ≡ b → (is_present table q ≡ true) × (q ≡ k → ⊥)
    go true e = absurd (cc (sym at ∙ ap (λ (b : Bool). is_some (cond b None (fin.get table q))) e))
    go false e = (
      ap (λ (b : Bool). is_some (cond b None (fin.get table q))) (sym e) ∙ at,
      λ same. absurd (cc (sym e ∙ ap (λ (x : ℕ). eq_by_cmp nat_cmp x k) same ∙ cmp_same k)),
    )

behind_head : (k q : ℕ) (ks : List ℕ) → IsAmong (k ∷ ks) q → (q ≡ k → ⊥) → IsAmong ks q
behind_head k q ks (inl same) other = absurd (other same)
behind_head k q ks (inr rest) other = rest

pub few_rows : (keys : List ℕ) (table : Table)
    → ((k : ℕ) → is_present table k ≡ true → IsAmong keys k) → row_count table ≤ length keys
few_rows [] table among =
    let none = first_there table (fin.entries table) refl (λ k there. among k there) in
    let len = len-entries table in
    omega (arith, none, len)
few_rows (k ∷ keys) table among =
    let rest = few_rows keys (fin.remove table k)
    (λ q there. behind_head k q keys (among q (gone table k q there).0) (gone table k q there).1) in
    by_test (fin.contains_key table k) (len-remove nat_cmp_total table k) rest
  where
    by_test : (b : Bool) → fin.len (fin.remove table k) ≡ cond b (fin.len table - 1) (fin.len table)
        → fin.len (fin.remove table k) ≤ length keys → fin.len table ≤ length (k ∷ keys)
    by_test true len le = omega (arith, len, le)
    by_test false len le = omega (arith, len, le)

-- ---- the committed rows

either : (lock : Option Lock) (row : Option Row) → is_some (kept_or lock row) ≡ true
    → (is_some lock ≡ true) ⊎ (is_some row ≡ true)
either None row e = inr e
either (Some lock) row e = inl refl

pub few_committed : (keys : List ℕ) (st : State) → AreKeys keys st
    → row_count (committed_table st) ≤ length keys
few_committed keys st are = few_rows keys (committed_table st)
    (λ k there. go k
    (either (fin.get st.locks k) (fin.get st.table k)
    (ap (λ (o : Option Row). is_some o) (sym (get-committed st k)) ∙ there)))
  where
    go : (k : ℕ) → (is_some (fin.get st.locks k) ≡ true) ⊎ (is_some (fin.get st.table k) ≡ true)
        → IsAmong keys k
    go k (inl locked) = are.locked k locked
    go k (inr present) = are.present k present

-- ---- a statement

-- the key that a statement writes comes to them
abbrev pub keys_with : Stmt → List ℕ → List ℕ
keys_with (Insert row) keys = row.key ∷ keys
keys_with (Update row) keys = row.key ∷ keys
keys_with (Delete key) keys = key ∷ keys
keys_with stmt keys = keys

pub few_with : (stmt : Stmt) (keys : List ℕ) → length (keys_with stmt keys) ≤ length keys + 1
few_with (Insert row) keys = omega arith
few_with (Update row) keys = omega arith
few_with (Delete key) keys = omega arith
few_with (Select key) keys = omega arith
few_with (Scan lo hi) keys = omega arith
few_with (Find cat) keys = omega arith
few_with Commit keys = omega arith
few_with Rollback keys = omega arith

at_or_else : {X : Type 0} (q key : ℕ) (x y : Option X) (b : Bool) → eq_by_cmp nat_cmp q key ≡ b
    → is_some (cond b x y) ≡ true → (q ≡ key) ⊎ (is_some y ≡ true)
at_or_else q key x y true e there = inl (cmp_one q key e)
at_or_else q key x y false e there = inr there

or_rest : (key q : ℕ) (keys : List ℕ) (P : Type 0) → (P → IsAmong keys q) → (q ≡ key) ⊎ P
    → IsAmong (key ∷ keys) q
or_rest key q keys P f (inl same) = inl same
or_rest key q keys P f (inr p) = inr (f p)

module _ (keys : List ℕ) (st : State) (are : AreKeys keys st) (session : Session) where
  wider : (key : ℕ) → AreKeys (key ∷ keys) st
  wider key = record {
    present = λ k there. inr (are.present k there);
    locked = λ k there. inr (are.locked k there);
  }

  write_keys : (key : ℕ) (row : Option Row) → AreKeys (key ∷ keys) (write_key st session key row)
  write_keys key row = record {
    present = λ q there.
        or_rest key q keys _ (are.present q)
        (at_or_else q key row (fin.get st.table q) (eq_by_cmp nat_cmp q key) refl
        (ap (λ (o : Option Row). is_some o) (sym (get-set_to st.table key row q)) ∙ there));
    locked = λ q there. locked_at q (fin.contains_key st.locks key) there;
  }
    where
      fresh : Lock
      fresh = record { owner = session; row = fin.get st.table key }

      locked_at : (q : ℕ) (b : Bool)
          → fin.contains_key (cond b st.locks (fin.insert st.locks key fresh)) q ≡ true
          → IsAmong (key ∷ keys) q
      locked_at q true there = inr (are.locked q there)
      locked_at q false there =
          or_rest key q keys _ (are.locked q)
          (at_or_else q key (Some fresh) (fin.get st.locks q) (eq_by_cmp nat_cmp q key) refl
          (ap (λ (o : Option Lock). is_some o) (sym (get-insert nat_cmp_total st.locks key fresh q))
          ∙ there))

  -- the end of a unit

  retained : (p : Option Lock → Bool) (q : ℕ)
      → is_some (fin.get (fin.retain_keys st.locks (λ key. p (fin.get st.locks key))) q) ≡ true
      → is_some (fin.get st.locks q) ≡ true
  retained p q there =
      by_test (p (fin.get st.locks q))
      (ap (λ (o : Option Lock). is_some o)
      (sym
      (get-retain_keys st.locks (λ key. p (fin.get st.locks key)) q
      (λ x e. ap (λ k. p (fin.get st.locks k)) (sym (nat_cmp-IsAntisymmetric q x e))))) ∙ there)
    where
      by_test : (b : Bool) → is_some (cond b (fin.get st.locks q) None) ≡ true
          → is_some (fin.get st.locks q) ≡ true
      by_test true e = e
      by_test false e = absurd (cc (e))

  without_keys : (q : ℕ) → fin.contains_key (locks_without session st.locks) q ≡ true
      → IsAmong keys q
  without_keys q there = are.locked q (retained (is_others session) q there)

  put_keys : (q : ℕ)
      → is_present (put_back (fin.entries (own_locks session st.locks)) st.table) q ≡ true
      → IsAmong keys q
  put_keys q there =
      go (either (fin.get (own_locks session st.locks) q) (fin.get st.table q)
      (ap (λ (o : Option Row). is_some o)
      (sym
      (get-put_back (fin.entries (own_locks session st.locks)) st.table q
      ∙ ap (λ (l : Option Lock). kept_or l (fin.get st.table q))
      (sym (get-entries (own_locks session st.locks) q)))) ∙ there))
    where
      go : (is_some (fin.get (own_locks session st.locks) q) ≡ true)
          ⊎ (is_some (fin.get st.table q) ≡ true) → IsAmong keys q
      go (inl own) = are.locked q (retained (λ l. not (is_others session l)) q own)
      go (inr present) = are.present q present

  keys_done : (stmt : Stmt) → AreKeys (keys_with stmt keys) (after st session stmt)
  keys_done (Insert row) = write_keys row.key (Some row)
  keys_done (Update row) = write_keys row.key (Some row)
  keys_done (Delete key) = write_keys key None
  keys_done (Select key) = are
  keys_done (Scan lo hi) = are
  keys_done (Find cat) = are
  keys_done Commit = record { present = are.present; locked = without_keys }
  keys_done Rollback = record { present = put_keys; locked = without_keys }

  keys_stay : (stmt : Stmt) → AreKeys (keys_with stmt keys) st
  keys_stay (Insert row) = wider row.key
  keys_stay (Update row) = wider row.key
  keys_stay (Delete key) = wider key
  keys_stay (Select key) = are
  keys_stay (Scan lo hi) = are
  keys_stay (Find cat) = are
  keys_stay Commit = are
  keys_stay Rollback = are

  pub keys_after : (stmt : Stmt) (reply : Reply)
      → AreKeys (keys_with stmt keys) (after_answer st session stmt reply)
  keys_after stmt reply = by_done (is_done reply)
    where
      by_done : (b : Bool)
          → AreKeys (keys_with stmt keys)
          (cond b (claim_classes (after st session stmt) session (classes_needed stmt)) st)
      by_done true = let done = keys_done stmt in
          record { present = done.present; locked = done.locked }
      by_done false = keys_stay stmt

  pub keys_left : (stmt : Stmt) (reply : Reply)
      → AreKeys (keys_with stmt keys) (state_left st session stmt reply)
  keys_left stmt Device = let stay = keys_stay stmt in
      record { present = stay.present; locked = stay.locked }
  keys_left stmt reply = keys_after stmt reply
