-- The end of a unit, lock by lock.
use Rattle.std.proofs.Common.{◌≡◌, ℕ, Bool, true, false, cond, not, Option, Some, None, refl}
use Rattle.std.proofs.Common.{sym, ◌∙◌, ap}
use Rattle.std.specs.Ordering.{nat_cmp, eq_by_cmp}
use Rattle.std.specs.FinMap as map
use Rattle.std.specs.FinMap.{same_map, nat_cmp-IsAntisymmetric, get-remove, get-entries}
use Rattle.std.specs.FinMap.{get-retain_keys}
use Rattle.std.proofs.lemmas.Cmp.{nat_cmp_total}
use Rattle.rg_base.specs.declared.lock.Lock.{Lock}
use Rattle.rg_base.specs.declared.row.Row.{Row}
use Rattle.rg_base.specs.declared.session.Session.{Session}
use Rattle.rg_base.proofs.Small.{nat_itself, cmp_one}
use Rattle.rg_model.specs.Committed.{set_to, put_back, committed_table, locks_without, own_locks}
use Rattle.rg_model.specs.Held.{is_others}
use Rattle.rg_model.specs.Plain.{after_rollback}
use Rattle.rg_model.specs.State.{State, Table, Locks}
use Rattle.rg_model.proofs.Overlay.{kept_or, get-set_to, get-put_back, get-committed, get-without}

pub get-own : (session : Session) (locks : Locks) (q : ℕ)
    → map.get (own_locks session locks) q
    ≡ cond (not (is_others session (map.get locks q))) (map.get locks q) None
get-own session locks q =
    get-retain_keys locks (λ key. not (is_others session (map.get locks key))) q
    (λ x e. ap (λ k. not (is_others session (map.get locks k)))
    (sym (nat_cmp-IsAntisymmetric q x e)))

pub get-put_own : (session : Session) (locks : Locks) (table : Table) (q : ℕ)
    → map.get (put_back (map.entries (own_locks session locks)) table) q
    ≡ kept_or (cond (not (is_others session (map.get locks q))) (map.get locks q) None)
    (map.get table q)
get-put_own session locks table q =
    get-put_back (map.entries (own_locks session locks)) table q
    ∙ ap (λ found. kept_or found (map.get table q))
    (sym (get-entries (own_locks session locks) q) ∙ get-own session locks q)

pub own_key : (session : Session) (row : Option Row)
    → is_others session (Some (record { owner = session; row = row })) ≡ false
own_key session row = rw (nat_itself session.0) refl

-- without a lock of the session, at the lock's key and at any other
without_at : (session : Session) (lock : Option Lock) (b : Bool) (found : Option Lock)
    → (b ≡ true → found ≡ lock) → is_others session lock ≡ false
    → cond (is_others session (cond b None found)) (cond b None found) None
    ≡ cond (is_others session found) found None
without_at session lock true found same is = rw (same refl, is) refl
without_at session lock false found same is = refl

put_at :
    (session : Session) (lock : Option Lock) (row old : Option Row) (b : Bool) (found : Option Lock)
    → (b ≡ true → found ≡ lock) → is_others session lock ≡ false → kept_or lock old ≡ row
    → kept_or (cond (not (is_others session (cond b None found))) (cond b None found) None)
    (cond b row old) ≡ kept_or (cond (not (is_others session found)) found None) old
put_at session lock row old true found same is keeps = rw (same refl, is) (sym keeps)
put_at session lock row old false found same is keeps = refl

module _ (session : Session) (locks : Locks) (key : ℕ) (row : Option Row)
    (is : map.get locks key ≡ Some (record { owner = session; row = row })) where
  at_key : (q : ℕ) → eq_by_cmp nat_cmp q key ≡ true
      → map.get locks q ≡ Some (record { owner = session; row = row })
  at_key q e = ap (map.get locks) (cmp_one q key e) ∙ is

  -- a lock of the session less, and the others are the same
  pub without-remove : locks_without session (map.remove locks key) ≡ locks_without session locks
  without-remove = same_map nat_cmp_total nat_cmp-IsAntisymmetric _ _
      (λ q. get-without session (map.remove locks key) q
      ∙ ap (λ found. cond (is_others session found) found None)
      (get-remove nat_cmp_total locks key q)
      ∙ without_at session (Some (record { owner = session; row = row })) (eq_by_cmp nat_cmp q key)
      (map.get locks q) (at_key q) (own_key session row)
      ∙ sym (get-without session locks q))

  -- the row of one key put back, and what is left to put back comes to the same
  pub put_own-remove : (table : Table)
      → put_back (map.entries (own_locks session (map.remove locks key))) (set_to table key row)
      ≡ put_back (map.entries (own_locks session locks)) table
  put_own-remove table = same_map nat_cmp_total nat_cmp-IsAntisymmetric _ _
      (λ q. get-put_own session (map.remove locks key) (set_to table key row) q
      ∙ ap
      (λ found. kept_or (cond (not (is_others session found)) found None)
      (map.get (set_to table key row) q)) (get-remove nat_cmp_total locks key q)
      ∙ ap
      (kept_or
      (cond (not (is_others session (cond (eq_by_cmp nat_cmp q key) None (map.get locks q))))
      (cond (eq_by_cmp nat_cmp q key) None (map.get locks q)) None)) (get-set_to table key row q)
      ∙ put_at session (Some (record { owner = session; row = row })) row (map.get table q)
      (eq_by_cmp nat_cmp q key) (map.get locks q) (at_key q) (own_key session row) refl
      ∙ sym (get-put_own session locks table q))

module _ (session : Session) (locks : Locks)
    (none : (key : ℕ) → is_others session (map.get locks key) ≡ true) where
  kept_all : (found : Option Lock) → is_others session found ≡ true
      → cond (is_others session found) found None ≡ found
  kept_all found e = rw e refl

  -- nothing is dropped of one that has nothing
  pub without-none : locks_without session locks ≡ locks
  without-none = same_map nat_cmp_total nat_cmp-IsAntisymmetric _ _
      (λ q. get-without session locks q ∙ kept_all (map.get locks q) (none q))

  put_none : (found : Option Lock) (row : Option Row) → is_others session found ≡ true
      → kept_or (cond (not (is_others session found)) found None) row ≡ row
  put_none found row e = rw e refl

  -- and nothing is put back
  pub put_own-none : (table : Table)
      → put_back (map.entries (own_locks session locks)) table ≡ table
  put_own-none table = same_map nat_cmp_total nat_cmp-IsAntisymmetric _ _
      (λ q. get-put_own session locks table q
      ∙ put_none (map.get locks q) (map.get table q) (none q))

back_at : (session : Session) (found : Option Lock) (row : Option Row) (b : Bool)
    → is_others session found ≡ b
    → kept_or (cond b found None) (kept_or (cond (not b) found None) row) ≡ kept_or found row
back_at session None row true e = refl
back_at session None row false e = refl
back_at session (Some kept) row true e = refl
back_at session (Some kept) row false e = refl

-- a rollback changes nothing that is committed
pub committed-rollback : (st : State) (session : Session)
    → committed_table (after_rollback st session) ≡ committed_table st
committed-rollback st session = same_map nat_cmp_total nat_cmp-IsAntisymmetric _ _
    (λ q. get-committed (after_rollback st session) q
    ∙ ap (λ found. kept_or found (map.get (after_rollback st session).table q))
    (get-without session st.locks q)
    ∙ ap (kept_or (cond (is_others session (map.get st.locks q)) (map.get st.locks q) None))
    (get-put_own session st.locks st.table q)
    ∙ back_at session (map.get st.locks q) (map.get st.table q)
    (is_others session (map.get st.locks q)) refl
    ∙ sym (get-committed st q))

module _ (session : Session) (locks : Locks) (table : Table) (key : ℕ) where
  -- a key that the session hasn't locked keeps its row
  pub put_own-others : is_others session (map.get locks key) ≡ true
      → map.get (put_back (map.entries (own_locks session locks)) table) key ≡ map.get table key
  put_own-others others =
      get-put_own session locks table key
      ∙ ap (λ (b : Bool). kept_or (cond (not b) (map.get locks key) None) (map.get table key))
      others

  -- and one that it has locked gets the kept one
  pub put_own-own : (kept : Lock) → map.get locks key ≡ Some kept
      → is_others session (Some kept) ≡ false
      → map.get (put_back (map.entries (own_locks session locks)) table) key ≡ kept.row
  put_own-own kept is own_lock =
      get-put_own session locks table key
      ∙ ap (λ found. kept_or (cond (not (is_others session found)) found None) (map.get table key))
      is
      ∙ ap (λ (b : Bool). kept_or (cond (not b) (Some kept) None) (map.get table key)) own_lock
