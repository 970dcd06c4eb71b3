-- The entries of a map, walked from key to key.
use Rattle.std.proofs.Common.{◌≡◌, ◌≤◌, ◌<◌, ◌+◌, ◌&&◌, ◌⊎◌, inl, inr, nat_le, ℕ, zero, suc, Bool}
use Rattle.std.proofs.Common.{true, false, cond, List, [], ◌∷◌, ◌++◌, filter, Option, Some, None}
use Rattle.std.proofs.Common.{refl, sym, ◌∙◌, ap, subst, arith}
use Rattle.std.proofs.Math.Dec.{T}
use Rattle.std.specs.Ordering.{nat_cmp, is_lt}
use Rattle.std.specs.FinMap as map
use Rattle.std.specs.FinMap.{find, is_sorted, get-entries}
use Rattle.std.specs.FinMap.Entries.{below_all}
use Rattle.std.proofs.lemmas.Bool.Decides.{nat_tests}
use Rattle.std.proofs.lemmas.Bool.{le-leb, lt-leb}
use Rattle.rg_base.specs.First.{IsEmptyFrom, IsFirstFrom}
use Rattle.rg_base.proofs.Small.{cmp_same, cmp_apart}

first_of : (a b : Bool) → T (a && b) → T a
first_of true b p = tt
first_of false b p = p

second_of : (a b : Bool) → T (a && b) → T b
second_of true b p = p
second_of false b p = absurd p

is_behind : (a b : ℕ) → T (is_lt (nat_cmp a b)) → a < b
is_behind a b p = grind (arith, nat_tests)

-- which of two numbers is below the other
pub place : (a b : ℕ) → (a < b) ⊎ ((b ≡ a) ⊎ (b < a))
place zero zero = inr (inl refl)
place zero (suc b) = inl (omega arith)
place (suc a) zero = inr (inr (omega arith))
place (suc a) (suc b) = one_more (place a b) where
  one_more : (a < b) ⊎ ((b ≡ a) ⊎ (b < a)) → (suc a < suc b) ⊎ ((suc b ≡ suc a) ⊎ (suc b < suc a))
  one_more (inl lt) = inl (omega (arith, lt))
  one_more (inr (inl e)) = inr (inl (ap suc e))
  one_more (inr (inr lt)) = inr (inr (omega (arith, lt)))

some_not_none : {V : Type 0} (v : V) (o : Option V) → o ≡ Some v → o ≡ None → ⊥
some_not_none v o e n = absurd (cc (sym e ∙ n))

module _ {V : Type 0} where
  -- keys above another are not that one, nor below it
  not_found : (q k : ℕ) (es : List (ℕ × V)) → q ≤ k → T (below_all nat_cmp k es)
      → find nat_cmp q es ≡ None
  not_found q k [] le below = refl
  not_found q k (e ∷ es) le below =
      let lt = is_behind k e.0 (first_of _ (below_all nat_cmp k es) below) in
      ap (λ b. cond b (Some e.1) (find nat_cmp q es)) (cmp_apart q e.0 (λ s. omega arith))
      ∙ not_found q k es le (second_of _ (below_all nat_cmp k es) below)

  at_head : (e : ℕ × V) (es : List (ℕ × V)) → find nat_cmp e.0 (e ∷ es) ≡ Some e.1
  at_head e es = ap (λ b. cond b (Some e.1) (find nat_cmp e.0 es)) (cmp_same e.0)

  past_head : (q : ℕ) (e : ℕ × V) (es : List (ℕ × V)) → (q ≡ e.0 → ⊥)
      → find nat_cmp q (e ∷ es) ≡ find nat_cmp q es
  past_head q e es apart = ap (λ b. cond b (Some e.1) (find nat_cmp q es)) (cmp_apart q e.0 apart)

  module _ (p : ℕ × V → Bool) where
    -- the entries that pass, from a key on
    abbrev pub passing_from : ℕ → List (ℕ × V) → List (ℕ × V)
    passing_from from es = filter (λ e. nat_le from e.0 && p e) es

    none_pass : (from : ℕ) (es : List (ℕ × V)) → ((q : ℕ) → from ≤ q → find nat_cmp q es ≡ None)
        → passing_from from es ≡ []
    none_pass from [] none = refl
    none_pass from (e ∷ es) none =
        let low : e.0 < from =
        by_contradiction (λ high. some_not_none e.1 _ (at_head e es) (none e.0 high)) in
        ap (λ b. cond (b && p e) (e ∷ passing_from from es) (passing_from from es))
        (lt-leb from e.0 low)
        ∙ none_pass from es (λ q le. sym (past_head q e es (λ s. omega arith)) ∙ none q le) where
          by_contradiction : (from ≤ e.0 → ⊥) → e.0 < from
          by_contradiction h = grind (arith, h)

    -- from a key below all of them, and from the next, the same entries pass
    all_pass : (from to : ℕ) (es : List (ℕ × V)) → from ≤ to → T (below_all nat_cmp to es)
        → passing_from from es ≡ passing_from (to + 1) es
    all_pass from to [] le below = refl
    all_pass from to (e ∷ es) le below =
        let lt = is_behind to e.0 (first_of _ (below_all nat_cmp to es) below) in
        ap (λ b. cond (b && p e) (e ∷ passing_from from es) (passing_from from es))
        (le-leb from e.0 (omega (arith, lt, le)))
        ∙ ap (λ rest. cond (p e) (e ∷ rest) rest)
        (all_pass from to es le (second_of _ (below_all nat_cmp to es) below))
        ∙ sym
        (ap (λ b. cond (b && p e) (e ∷ passing_from (to + 1) es) (passing_from (to + 1) es))
        (le-leb (to + 1) e.0 (omega (arith, lt))))

    -- an entry, where it passes
    abbrev pub passing : ℕ × V → List (ℕ × V)
    passing e = cond (p e) (e ∷ []) []

    one_passes : (b : Bool) (e : ℕ × V) (es : List (ℕ × V))
        → cond b (e ∷ es) es ≡ cond b (e ∷ []) [] ++ es
    one_passes true e es = refl
    one_passes false e es = refl

    pair_of : (e : ℕ × V) (k : ℕ) (v : V) → k ≡ e.0 → Some e.1 ≡ Some v → e ≡ (k, v)
    pair_of e k v at is = let value : e.1 ≡ v = cc is in λ i. (sym at i, value i)

    first_passes : (from k : ℕ) (v : V) (es : List (ℕ × V)) → T (is_sorted nat_cmp es) → from ≤ k
        → find nat_cmp k es ≡ Some v → ((q : ℕ) → from ≤ q → q < k → find nat_cmp q es ≡ None)
        → passing_from from es ≡ passing (k, v) ++ passing_from (k + 1) es
    first_passes from k v [] sorted le there none = absurd (cc there)
    first_passes from k v (e ∷ es) sorted le there none =
        by_place (first_passes from k v es (second_of _ (is_sorted nat_cmp es) sorted) le)
        (place e.0 k)
      where
        high : (e.0 < from → ⊥) → from ≤ e.0
        high h = grind (arith, h)

        absent : from ≤ e.0 → e.0 < k → ⊥
        absent low below = some_not_none e.1 _ (at_head e es) (none e.0 low below)

        low_of : e.0 < k → e.0 < from
        low_of below = grind (arith, λ (low : from ≤ e.0). absent low below)

        by_place :
            (find nat_cmp k es ≡ Some v → ((q : ℕ) → from ≤ q → q < k → find nat_cmp q es ≡ None)
            → passing_from from es ≡ passing (k, v) ++ passing_from (k + 1) es)
            → (e.0 < k) ⊎ ((k ≡ e.0) ⊎ (k < e.0))
            → passing_from from (e ∷ es) ≡ passing (k, v) ++ passing_from (k + 1) (e ∷ es)
        by_place rest (inl below) =
            ap (λ b. cond (b && p e) (e ∷ passing_from from es) (passing_from from es))
            (lt-leb from e.0 (low_of below))
            ∙ rest (sym (past_head k e es (λ s. omega (arith, below))) ∙ there)
            (λ q l b. sym (past_head q e es (λ s. omega (arith, low_of below))) ∙ none q l b)
            ∙ ap (λ es. passing (k, v) ++ es)
            (sym
            (ap (λ b. cond (b && p e) (e ∷ passing_from (k + 1) es) (passing_from (k + 1) es))
            (lt-leb (k + 1) e.0 (omega (arith, below)))))
        by_place rest (inr (inl at)) =
            let is : e ≡ (k, v) = pair_of e k v at
            (sym (at_head e es) ∙ ap (λ q. find nat_cmp q (e ∷ es)) (sym at) ∙ there) in
            ap (λ b. cond (b && p e) (e ∷ passing_from from es) (passing_from from es))
            (le-leb from e.0 (omega (arith, at, le)))
            ∙ one_passes (p e) e (passing_from from es)
            ∙ ap (λ x. passing x ++ passing_from from es) is
            ∙ ap (λ es. passing (k, v) ++ es) (all_pass from k es le
            (subst (λ x. T (below_all nat_cmp x es)) (sym at)
            (first_of (below_all nat_cmp e.0 es) _ sorted))
            ∙ sym
            (ap (λ b. cond (b && p e) (e ∷ passing_from (k + 1) es) (passing_from (k + 1) es))
            (lt-leb (k + 1) e.0 (omega (arith, at)))))
        by_place rest (inr (inr above)) =
            absurd
            (some_not_none v _ there
            (past_head k e es (λ s. omega (arith, above))
            ∙ not_found k e.0 es (omega (arith, above))
            (first_of (below_all nat_cmp e.0 es) _ sorted)))

    not_passing : (b : Bool) (e : ℕ × V) (es : List (ℕ × V)) → (b ≡ true → p e ≡ false)
        → cond (b && p e) (e ∷ es) es ≡ es
    not_passing true e es fails = ap (λ c. cond c (e ∷ es) es) (fails refl)
    not_passing false e es fails = refl

    -- entries of a sorted list are found by their keys
    found_behind : (e : ℕ × V) (es : List (ℕ × V)) → T (below_all nat_cmp e.0 es) → (q : ℕ) (v : V)
        → find nat_cmp q es ≡ Some v → find nat_cmp q (e ∷ es) ≡ Some v
    found_behind e es below q v there =
        past_head q e es
        (λ s. some_not_none v _ there (not_found q e.0 es (omega (arith, s)) below)) ∙ there

    -- entries from one key up to another, none of which passes, are passed over
    skipped : (from to : ℕ) (es : List (ℕ × V)) → T (is_sorted nat_cmp es) → from ≤ to
        → ((q : ℕ) (v : V) → from ≤ q → q < to → find nat_cmp q es ≡ Some v → p (q, v) ≡ false)
        → passing_from from es ≡ passing_from to es
    skipped from to [] sorted le fail = refl
    skipped from to (e ∷ es) sorted le fail =
        by_place
        (skipped from to es (second_of _ (is_sorted nat_cmp es) sorted) le
        (λ q v low lt there. fail q v low lt
        (found_behind e es (first_of (below_all nat_cmp e.0 es) _ sorted) q v there)))
        (place e.0 from) (place e.0 to) where
          by_place : passing_from from es ≡ passing_from to es
              → (e.0 < from) ⊎ ((from ≡ e.0) ⊎ (from < e.0))
              → (e.0 < to) ⊎ ((to ≡ e.0) ⊎ (to < e.0))
              → passing_from from (e ∷ es) ≡ passing_from to (e ∷ es)
          by_place rest (inl low) where_to =
              ap (λ b. cond (b && p e) (e ∷ passing_from from es) (passing_from from es))
              (lt-leb from e.0 low)
              ∙ rest
              ∙ sym
              (ap (λ b. cond (b && p e) (e ∷ passing_from to es) (passing_from to es))
              (lt-leb to e.0 (omega (arith, low, le))))
          by_place rest (inr high) (inl lt) =
              not_passing (nat_le from e.0) e (passing_from from es)
              (λ t. fail e.0 e.1 (at_least high) lt (at_head e es))
              ∙ rest
              ∙ sym
              (ap (λ b. cond (b && p e) (e ∷ passing_from to es) (passing_from to es))
              (lt-leb to e.0 lt))
            where
              at_least : (from ≡ e.0) ⊎ (from < e.0) → from ≤ e.0
              at_least (inl at) = omega (arith, at)
              at_least (inr lt) = omega (arith, lt)
          by_place rest (inr high) (inr ge) =
              ap (λ b. cond (b && p e) (e ∷ passing_from from es) (passing_from from es))
              (le-leb from e.0 (at_least high))
              ∙ ap (λ es. cond (p e) (e ∷ es) es) rest
              ∙ sym
              (ap (λ b. cond (b && p e) (e ∷ passing_from to es) (passing_from to es))
              (le-leb to e.0 (to_least ge)))
            where
              at_least : (from ≡ e.0) ⊎ (from < e.0) → from ≤ e.0
              at_least (inl at) = omega (arith, at)
              at_least (inr lt) = omega (arith, lt)

              to_least : (to ≡ e.0) ⊎ (to < e.0) → to ≤ e.0
              to_least (inl at) = omega (arith, at)
              to_least (inr lt) = omega (arith, lt)

    -- where none passes from a key on
    none_behind : (from : ℕ) (es : List (ℕ × V)) → T (is_sorted nat_cmp es)
        → ((q : ℕ) (v : V) → from ≤ q → find nat_cmp q es ≡ Some v → p (q, v) ≡ false)
        → passing_from from es ≡ []
    none_behind from [] sorted fail = refl
    none_behind from (e ∷ es) sorted fail =
        not_passing (nat_le from e.0) e (passing_from from es)
        (λ t. fail e.0 e.1 (is_least t) (at_head e es))
        ∙ none_behind from es (second_of _ (is_sorted nat_cmp es) sorted)
        (λ q v low there. fail q v low
        (found_behind e es (first_of (below_all nat_cmp e.0 es) _ sorted) q v there))
      where
        is_least : nat_le from e.0 ≡ true → from ≤ e.0
        is_least t = grind (arith, nat_tests, t)

module _ {V : Type 0} (p : ℕ × V → Bool) (m : map.FinMap nat_cmp V) where
  -- nothing passes from a key on where no key has a value from there on
  pub walk_ends : (from : ℕ) → IsEmptyFrom m from → passing_from p from (map.entries m) ≡ []
  walk_ends from empty =
      none_pass p from (map.entries m) (λ q le. sym (get-entries m q) ∙ empty q le)

  -- the first entry from a key on, where it passes, and those behind it
  pub walk_goes : (from : ℕ) (e : ℕ × V) → IsFirstFrom m from (Some e)
      → passing_from p from (map.entries m)
      ≡ passing p e ++ passing_from p (e.0 + 1) (map.entries m)
  walk_goes from e is =
      first_passes p from e.0 e.1 (map.entries m) (map.entries_sorted m) is.0
      (sym (get-entries m e.0) ∙ is.1) (λ q le lt. sym (get-entries m q) ∙ is.2 q le lt)

  -- all entries that pass, from the beginning
  pub walk_begins : (es : List (ℕ × V)) → passing_from p 0 es ≡ filter p es
  walk_begins [] = refl
  walk_begins (e ∷ es) = ap (λ b. cond (b && p e) (e ∷ passing_from p 0 es) (passing_from p 0 es))
      (le-leb 0 e.0 (omega arith)) ∙ ap (λ rest. cond (p e) (e ∷ rest) rest) (walk_begins es)

  -- keys from one to another of which none passes are passed over
  pub walk_skips : (from to : ℕ) → from ≤ to
      → ((q : ℕ) (v : V) → from ≤ q → q < to → map.get m q ≡ Some v → p (q, v) ≡ false)
      → passing_from p from (map.entries m) ≡ passing_from p to (map.entries m)
  walk_skips from to le fail = skipped p from to (map.entries m) (map.entries_sorted m) le
      (λ q v low lt there. fail q v low lt (get-entries m q ∙ there))

  -- nothing passes from a key on where no value from there on does
  pub walk_fails : (from : ℕ)
      → ((q : ℕ) (v : V) → from ≤ q → map.get m q ≡ Some v → p (q, v) ≡ false)
      → passing_from p from (map.entries m) ≡ []
  walk_fails from fail = none_behind p from (map.entries m) (map.entries_sorted m)
      (λ q v low there. fail q v low (get-entries m q ∙ there))

  -- a key that has a value is the first from itself on
  pub first_at : (key : ℕ) (v : V) → map.get m key ≡ Some v → IsFirstFrom m key (Some (key, v))
  first_at key v there = (omega arith, there, λ q le lt. absurd (omega arith))
