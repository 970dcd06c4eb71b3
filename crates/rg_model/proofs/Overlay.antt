-- What the committed table has at each key.
use Rattle.std.proofs.Common.{◌≡◌, ℕ, Bool, true, false, cond, List, [], ◌∷◌, Option, Some, None}
use Rattle.std.proofs.Common.{refl, sym, ◌∙◌, ap}
use Rattle.std.specs.Ordering.{nat_cmp, eq_by_cmp}
use Rattle.std.specs.Option.{is_some}
use Rattle.std.specs.FinMap as map
use Rattle.std.specs.FinMap.{find, same_map, nat_cmp-IsAntisymmetric, get-empty, get-insert}
use Rattle.std.specs.FinMap.{get-remove, get-entries, get-retain_keys}
use Rattle.std.proofs.lemmas.Cmp.{nat_cmp_total}
use Rattle.rg_base.specs.declared.lock.Lock.{Lock}
use Rattle.rg_base.specs.declared.row.Row.{Row}
use Rattle.rg_base.specs.declared.session.Session.{Session}
use Rattle.rg_base.proofs.Small.{cmp_one}
use Rattle.rg_model.specs.Committed.{set_to, put_back, committed_table, locks_without}
use Rattle.rg_model.specs.Held.{is_others}
use Rattle.rg_model.specs.Plain.{lock_key, write_key}
use Rattle.rg_model.specs.State.{State, Table, Locks, at_rest}

-- the kept row, where the key is locked, and else the present one
abbrev pub kept_or : Option Lock → Option Row → Option Row
kept_or None row = row
kept_or (Some kept) row = kept.row

pub get-set_to : (table : Table) (key : ℕ) (row : Option Row) (q : ℕ)
    → map.get (set_to table key row) q ≡ cond (eq_by_cmp nat_cmp q key) row (map.get table q)
get-set_to table key None q = get-remove nat_cmp_total table key q
get-set_to table key (Some row) q = get-insert nat_cmp_total table key row q

by_test : (b : Bool) (kept : Lock) (found : Option Lock) (row : Option Row)
    → cond b kept.row (kept_or found row) ≡ kept_or (cond b (Some kept) found) row
by_test true kept found row = refl
by_test false kept found row = refl

pub get-put_back : (locks : List (ℕ × Lock)) (table : Table) (q : ℕ)
    → map.get (put_back locks table) q ≡ kept_or (find nat_cmp q locks) (map.get table q)
get-put_back [] table q = refl
get-put_back (lock ∷ locks) table q =
    get-set_to (put_back locks table) lock.0 lock.1.row q
    ∙ ap (cond (eq_by_cmp nat_cmp q lock.0) lock.1.row) (get-put_back locks table q)
    ∙ by_test (eq_by_cmp nat_cmp q lock.0) lock.1 (find nat_cmp q locks) (map.get table q)

pub get-committed : (st : State) (q : ℕ)
    → map.get (committed_table st) q ≡ kept_or (map.get st.locks q) (map.get st.table q)
get-committed st q = get-put_back (map.entries st.locks) st.table q
    ∙ ap (λ found. kept_or found (map.get st.table q)) (sym (get-entries st.locks q))

-- the lock of a key at each key
get-locked : (st : State) (session : Session) (key q : ℕ)
    → map.get (lock_key st session key) q
    ≡ cond (map.contains_key st.locks key) (map.get st.locks q)
    (cond (eq_by_cmp nat_cmp q key) (Some (record { owner = session; row = map.get st.table key }))
    (map.get st.locks q))
get-locked st session key q =
    let fresh : Lock = record { owner = session; row = map.get st.table key } in
    elim (map.contains_key st.locks key)
    as (λ b. map.get (cond b st.locks (map.insert st.locks key fresh)) q
    ≡ cond b (map.get st.locks q)
    (cond (eq_by_cmp nat_cmp q key) (Some fresh) (map.get st.locks q))) [
      | true ↦ refl
      | false ↦ get-insert nat_cmp_total st.locks key fresh q
    ]

-- at a key that is locked now, and at one that is not
same_kept : (lock_key lock_q : Option Lock) (row_key row_q new_row : Option Row) (fresh : Lock)
    (same : Bool)
    → (same ≡ true → lock_q ≡ lock_key) → (same ≡ true → row_q ≡ row_key) → fresh.row ≡ row_key
    → kept_or (cond (is_some lock_key) lock_q (cond same (Some fresh) lock_q))
    (cond same new_row row_q) ≡ kept_or lock_q row_q
same_kept None lock_q row_key row_q new_row fresh true same_lock same_row keeps =
    rw (same_lock refl, same_row refl) keeps
same_kept None lock_q row_key row_q new_row fresh false same_lock same_row keeps = refl
same_kept (Some kept) lock_q row_key row_q new_row fresh true same_lock same_row keeps =
    rw (same_lock refl) refl
same_kept (Some kept) lock_q row_key row_q new_row fresh false same_lock same_row keeps = refl

-- a write keeps what is committed
pub committed-written : (st : State) (session : Session) (key : ℕ) (row : Option Row)
    → committed_table (write_key st session key row) ≡ committed_table st
committed-written st session key row = same_map nat_cmp_total nat_cmp-IsAntisymmetric
    (committed_table (write_key st session key row)) (committed_table st)
    (λ q.
    get-committed (write_key st session key row) q
    ∙ ap (λ lock. kept_or lock (map.get (set_to st.table key row) q)) (get-locked st session key q)
    ∙ ap
    (kept_or
    (cond (map.contains_key st.locks key) (map.get st.locks q)
    (cond (eq_by_cmp nat_cmp q key) (Some (record { owner = session; row = map.get st.table key }))
    (map.get st.locks q)))) (get-set_to st.table key row q)
    ∙ same_kept (map.get st.locks key) (map.get st.locks q) (map.get st.table key)
    (map.get st.table q) row (record { owner = session; row = map.get st.table key })
    (eq_by_cmp nat_cmp q key) (λ e. ap (map.get st.locks) (cmp_one q key e))
    (λ e. ap (map.get st.table) (cmp_one q key e)) refl
    ∙ sym (get-committed st q))

pub get-without : (session : Session) (locks : Locks) (q : ℕ)
    → map.get (locks_without session locks) q
    ≡ cond (is_others session (map.get locks q)) (map.get locks q) None
get-without session locks q = get-retain_keys locks (λ key. is_others session (map.get locks key)) q
    (λ x e. ap (λ k. is_others session (map.get locks k)) (sym (nat_cmp-IsAntisymmetric q x e)))

-- where no key is locked, all is committed
pub committed_unlocked : (st : State) → ((q : ℕ) → map.get st.locks q ≡ None)
    → committed_table st ≡ st.table
committed_unlocked st unlocked = same_map nat_cmp_total nat_cmp-IsAntisymmetric (committed_table st)
    st.table (λ q. get-committed st q ∙ ap (λ lock. kept_or lock (map.get st.table q)) (unlocked q))

-- a table at rest is committed
pub committed-at_rest : (table : Table) (copy : ℕ) → committed_table (at_rest table copy) ≡ table
committed-at_rest table copy = committed_unlocked (at_rest table copy) (λ q. get-empty nat_cmp q)
