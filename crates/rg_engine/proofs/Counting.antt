-- The number of committed rows, counted from lock to lock.
use Rattle.std.proofs.Common.{◌≡◌, ◌≤◌, ◌+◌, ◌-◌, ◌&&◌, ℕ, zero, suc, Bool, true, false, cond}
use Rattle.std.proofs.Common.{List, [], ◌∷◌, ◌++◌, filter, length, Option, Some, None, refl, sym}
use Rattle.std.proofs.Common.{◌∙◌, ap, arith}
use Rattle.std.specs.Option.{is_some}
use Rattle.std.specs.Ordering.{nat_cmp, eq_by_cmp, is_lt}
use Rattle.std.specs.FinMap as fin
use Rattle.std.specs.FinMap.{find, is_sorted, entries_sorted, empty_of_len, len-insert, len-remove}
use Rattle.std.specs.FinMap.{get-empty}
use Rattle.std.specs.FinMap.Entries.{below_all}
use Rattle.std.proofs.lemmas.Bool.{and_parts}
use Rattle.std.proofs.lemmas.Bool.Decides.{nat_tests}
use Rattle.std.proofs.lemmas.Cmp.{nat_cmp_total}
use Rattle.rg_base.specs.First.{IsFirstFrom}
use Rattle.rg_base.specs.declared.lock.Lock.{Lock}
use Rattle.rg_base.specs.declared.row.Row.{Row}
use Rattle.rg_base.proofs.Walk.{passing_from, walk_begins, walk_ends, walk_goes}
use Rattle.rg_base.proofs.Small.{true_of}
use Rattle.rg_model.specs.Committed.{committed_table, put_back, set_to}
use Rattle.rg_model.specs.State.{Locks, State, Table, is_present, row_count}
use Rattle.rg_model.proofs.Overlay.{get-put_back, kept_or}
use Rattle.rg_engine.specs.Count.{kept_in, locked_present, one_of, present_in}

-- ---- what putting rows back does to their number

-- a key with a row is one of some
some_there : (n : ℕ) (table : Table) (k : ℕ) → fin.len table ≡ n → is_present table k ≡ true → 1 ≤ n
some_there zero table k len there =
    absurd
    (cc (
      there,
      ap (λ (t : Table). is_present t k) (empty_of_len table len),
      ap (λ (o : Option Row). is_some o) (get-empty {X = Row} nat_cmp k),
    ))
some_there (suc n) table k len there = omega arith

set_more : (table : Table) (k : ℕ) (row : Option Row) (b : Bool) → is_present table k ≡ b
    → fin.len (set_to table k row) + one_of b ≡ fin.len table + one_of (is_some row)
set_more table k None true e =
    let less = len-remove nat_cmp_total table k
    ∙ ap (λ (b : Bool). cond b (fin.len table - 1) (fin.len table)) e in
    let some = some_there (fin.len table) table k refl e in
    omega (arith, less, some)
set_more table k None false e =
    let same = len-remove nat_cmp_total table k
    ∙ ap (λ (b : Bool). cond b (fin.len table - 1) (fin.len table)) e in
    omega (arith, same)
set_more table k (Some row) true e =
    let same = len-insert nat_cmp_total table k row
    ∙ ap (λ (b : Bool). cond b (fin.len table) (fin.len table + 1)) e in
    omega (arith, same)
set_more table k (Some row) false e =
    let more = len-insert nat_cmp_total table k row
    ∙ ap (λ (b : Bool). cond b (fin.len table) (fin.len table + 1)) e in
    omega (arith, more)

differs : (q k : ℕ) → is_lt (nat_cmp q k) ≡ true → eq_by_cmp nat_cmp q k ≡ false
differs q k lt = grind (arith, nat_tests)

-- a key below all others is not among them
not_behind : (k : ℕ) (es : List (ℕ × Lock)) → below_all nat_cmp k es ≡ true
    → find nat_cmp k es ≡ None
not_behind k [] below = refl
not_behind k (e ∷ es) below =
    let parts = and_parts (is_lt (nat_cmp k e.0)) (below_all nat_cmp k es) below in
    ap (λ (b : Bool). cond b (Some e.1) (find nat_cmp k es)) (differs k e.0 parts.0)
    ∙ not_behind k es parts.1

one_more : (b : Bool) (e : ℕ × Lock) (es : List (ℕ × Lock))
    → length (cond b (e ∷ es) es) ≡ one_of b + length es
one_more true e es = omega arith
one_more false e es = omega arith

module _ (table : Table) where
  pub put_count : (es : List (ℕ × Lock)) → is_sorted nat_cmp es ≡ true
      → fin.len (put_back es table) + present_in table es ≡ fin.len table + kept_in es
  put_count [] sorted = refl
  put_count (e ∷ es) sorted =
      let parts = and_parts (below_all nat_cmp e.0 es) (is_sorted nat_cmp es) sorted in
      let rest = put_count es parts.1 in
      let at : is_present (put_back es table) e.0 ≡ is_present table e.0 =
      ap (λ (o : Option Row). is_some o)
      (get-put_back es table e.0
      ∙ ap (λ (l : Option Lock). kept_or l (fin.get table e.0)) (not_behind e.0 es parts.0)) in
      let set = set_more (put_back es table) e.0 e.1.row (is_present table e.0) at in
      let present =
      one_more (is_present table e.0) e (filter (λ lock. is_present table lock.0) es) in
      let kept = one_more (is_some e.1.row) e (filter (λ lock. is_some lock.1.row) es) in
      omega (arith, rest, set, present, kept)

  -- the same keys without rows
  abbrev emptied : List (ℕ × Lock) → List (ℕ × Lock)
  emptied [] = []
  emptied (e ∷ es) = (e.0, record { owner = e.1.owner; row = None }) ∷ emptied es

  emptied-below : (k : ℕ) (es : List (ℕ × Lock))
      → below_all nat_cmp k (emptied es) ≡ below_all nat_cmp k es
  emptied-below k [] = refl
  emptied-below k (e ∷ es) = ap (λ (b : Bool). is_lt (nat_cmp k e.0) && b) (emptied-below k es)

  emptied-sorted : (es : List (ℕ × Lock)) → is_sorted nat_cmp (emptied es) ≡ is_sorted nat_cmp es
  emptied-sorted [] = refl
  emptied-sorted (e ∷ es) = λ i. emptied-below e.0 es i && emptied-sorted es i

  emptied-present : (es : List (ℕ × Lock)) → present_in table (emptied es) ≡ present_in table es
  emptied-present [] = refl
  emptied-present (e ∷ es) =
      one_more (is_present table e.0) (e.0, record { owner = e.1.owner; row = None })
      (filter (λ lock. is_present table lock.0) (emptied es))
      ∙ ap (λ (n : ℕ). one_of (is_present table e.0) + n) (emptied-present es)
      ∙ sym (one_more (is_present table e.0) e (filter (λ lock. is_present table lock.0) es))

  emptied-kept : (es : List (ℕ × Lock)) → kept_in (emptied es) ≡ 0
  emptied-kept [] = refl
  emptied-kept (e ∷ es) = emptied-kept es

  pub few_present : (es : List (ℕ × Lock)) → is_sorted nat_cmp es ≡ true
      → present_in table es ≤ fin.len table
  few_present es sorted =
      let all = put_count (emptied es) (emptied-sorted es ∙ sorted) in
      let present = emptied-present es in
      let kept = emptied-kept es in
      omega (arith, all, present, kept)

sorted_in : (locks : Locks) → is_sorted nat_cmp (fin.entries locks) ≡ true
sorted_in locks = true_of (is_sorted nat_cmp (fin.entries locks)) (entries_sorted locks)

pub committed_count : (st : State)
    → row_count (committed_table st) + locked_present st
    ≡ row_count st.table + kept_in (fin.entries st.locks)
committed_count st = put_count st.table (fin.entries st.locks) (sorted_in st.locks)

pub few_locked : (st : State) → locked_present st ≤ row_count st.table
few_locked st = few_present st.table (fin.entries st.locks) (sorted_in st.locks)

-- ---- the walk

module _ (p : ℕ × Lock → Bool) (locks : Locks) where
  -- how many of the locks from a key on pass
  abbrev pub left_from : ℕ → ℕ
  left_from from = length (passing_from p from (fin.entries locks))

  pub left_begins : left_from 0 ≡ length (filter p (fin.entries locks))
  left_begins = ap length (walk_begins p locks (fin.entries locks))

  pub left_goes : (from key : ℕ) (lock : Lock) → IsFirstFrom locks from (Some (key, lock))
      → left_from from ≡ one_of (p (key, lock)) + left_from (key + 1)
  left_goes from key lock first =
      ap length (walk_goes p locks from (key, lock) first) ∙ by_test (p (key, lock)) where
        by_test : (b : Bool)
            → length (cond b ((key, lock) ∷ []) [] ++ passing_from p (key + 1) (fin.entries locks))
            ≡ one_of b + left_from (key + 1)
        by_test true = omega arith
        by_test false = omega arith

  pub left_ends : (from : ℕ) → IsFirstFrom locks from None → left_from from ≡ 0
  left_ends from empty = ap length (walk_ends p locks from empty)
