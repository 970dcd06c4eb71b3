-- The keys with a `cat` are the keys of the rows that the index by `cat` lists, sorted.
use Rattle.std.proofs.Common.{◌≡◌, ◌==◌, ◌&&◌, ◌||◌, ◌<◌, ◌≤◌, ◌⊎◌, ℕ, suc, Bool, true, false}
use Rattle.std.proofs.Common.{cond, List, [], ◌∷◌, map, filter, IsPermutation, IsSorted, Option}
use Rattle.std.proofs.Common.{Some, None, refl, sym, ◌∙◌, ap, subst, inl, inr, arith}
use Rattle.std.specs.Prelude.{nat_le}
use Rattle.std.specs.FinMap.{find, is_sorted, get-entries, entries_sorted}
use Rattle.std.specs.FinMap.Entries.{below_all}
use Rattle.std.specs.List.{cons_option, AllByRecursion}
use Rattle.std.specs.Ordering.{nat_cmp, is_lt}
use Rattle.std.proofs.lemmas.Bool.{and_parts, eqb-true, eqb-false, cases_Bool}
use Rattle.std.proofs.lemmas.Bool.Decides.{nat_tests}
use Rattle.std.proofs.lemmas.List.Sorted.{sum_by-IsPermutation}
use Rattle.std.specs.Cmp.{unsigned_tied}
use Rattle.rg_base.specs.declared.place.Place.{Place}
use Rattle.rg_base.specs.declared.row.Row.{Row}
use Rattle.rg_base.specs.declared.which.Which.TheVariants.{Cat}
use Rattle.rg_base.proofs.Small.{nat_turned, true_of}
use Rattle.rg_index.specs.Entries.{IsRising, has_entry, is_within, entries_within}
use Rattle.rg_index.specs.Listed.{IsListingOf, has_value}
use Rattle.rg_index.specs.RisingPart.{IsRising-filter, Each-filter, Each-passes}
use Rattle.rg_index.proofs.Lists.{none_behind}
use Rattle.rg_index.proofs.Order.{same_is, same_itself}
use Rattle.rg_btree.proofs.IndexesLemmas.Counts.{count, count-same, count-other, count-above}
use Rattle.rg_btree.proofs.IndexesLemmas.Counts.{Ascend, same_counts, sorted_ascend}
use Rattle.rg_btree.proofs.IndexesLemmas.Members.{IsRowOf, each_row}
use Rattle.rg_btree.specs.Indexes.Listed.{listed_rows, listed_keys}
use Rattle.rg_home.specs.Table.{IsTable}
use Rattle.rg_base.specs.Place.{same_place}
use Rattle.rg_base.proofs.Each.{Each-map}
use Rattle.rg_model.specs.Layout.{same_entry}
use Rattle.rg_model.specs.Plain.{keys_with_cat}
use Rattle.rg_model.specs.State.{Table, row_of, entries_of}

-- 1 for a row with this `cat`
abbrev target : ℕ → Option Row → ℕ
target cat None = 0
target cat (Some row) = cond (row.cat == cat) 1 0

-- ---- the keys of the table's entries

less : (a b : ℕ) → is_lt (nat_cmp a b) ≡ true → a < b
less a b e = grind (arith, nat_tests)

module _ (cat : ℕ) where
  abbrev keys_in : List (ℕ × Row) → List ℕ
  keys_in es = map (λ entry. entry.0) (filter (λ entry. entry.1.cat == cat) es)

  above-keys : (k : ℕ) (es : List (ℕ × Row)) → below_all nat_cmp k es ≡ true
      → AllByRecursion (λ x. k < x) (keys_in es)
  above-keys k [] below = tt
  above-keys k (e ∷ es) below =
      let parts = and_parts (is_lt (nat_cmp k e.0)) (below_all nat_cmp k es) below in
      let rest = above-keys k es parts.1 in
      elim (e.1.cat == cat) as (λ b. AllByRecursion (λ x. k < x)
      (map (λ (entry : ℕ × Row). entry.0)
      (cond b (e ∷ filter (λ (entry : ℕ × Row). entry.1.cat == cat) es)
      (filter (λ (entry : ℕ × Row). entry.1.cat == cat) es)))) [
        | true ↦ (less k e.0 parts.0, rest)
        | false ↦ rest
      ]

  ascend-keys : (es : List (ℕ × Row)) → is_sorted nat_cmp es ≡ true → Ascend (keys_in es)
  ascend-keys [] sorted = tt
  ascend-keys (e ∷ es) sorted =
      let parts = and_parts (below_all nat_cmp e.0 es) (is_sorted nat_cmp es) sorted in
      let rest = ascend-keys es parts.1 in
      elim (e.1.cat == cat) as (λ b. Ascend
      (map (λ (entry : ℕ × Row). entry.0)
      (cond b (e ∷ filter (λ (entry : ℕ × Row). entry.1.cat == cat) es)
      (filter (λ (entry : ℕ × Row). entry.1.cat == cat) es)))) [
        | true ↦ (
          Each-map (λ x. e.0 < x) (λ x. e.0 ≤ x) (λ x lt. omega arith) (keys_in es)
              (above-keys e.0 es parts.0),
          rest,
        )
        | false ↦ rest
      ]

  count-keys : (k : ℕ) (es : List (ℕ × Row)) → is_sorted nat_cmp es ≡ true
      → count k (keys_in es) ≡ target cat (find nat_cmp k es)
  count-keys k [] sorted = refl
  count-keys k (e ∷ es) sorted = go (cases_Bool (k == e.0))
      (count-keys k es (and_parts (below_all nat_cmp e.0 es) (is_sorted nat_cmp es) sorted).1)
    where
      kept : List (ℕ × Row)
      kept = filter (λ (entry : ℕ × Row). entry.1.cat == cat) es

      keys : Bool → List ℕ
      keys b = map (λ (entry : ℕ × Row). entry.0) (cond b (e ∷ kept) kept)

      step : find nat_cmp k (e ∷ es) ≡ cond (k == e.0) (Some e.1) (find nat_cmp k es)
      step = ap (λ (b : Bool). cond b (Some e.1) (find nat_cmp k es)) (unsigned_tied k e.0)

      with_key : (b : Bool) → k ≡ e.0 → count k (map (λ (entry : ℕ × Row). entry.0) kept) ≡ 0
          → count k (map (λ (entry : ℕ × Row). entry.0) (cond b (e ∷ kept) kept)) ≡ cond b 1 0
      with_key true same none =
          count-same k e.0 (map (λ (entry : ℕ × Row). entry.0) kept) (sym same) ∙ ap suc none
      with_key false same none = none

      without_key : (b : Bool) → (k ≡ e.0 → ⊥)
          → count k (map (λ (entry : ℕ × Row). entry.0) (cond b (e ∷ kept) kept))
          ≡ count k (map (λ (entry : ℕ × Row). entry.0) kept)
      without_key true other =
          count-other k e.0 (map (λ (entry : ℕ × Row). entry.0) kept) (λ same. other (sym same))
      without_key false other = refl

      go : ((k == e.0) ≡ true) ⊎ ((k == e.0) ≡ false)
          → count k (keys_in es) ≡ target cat (find nat_cmp k es)
          → count k (keys_in (e ∷ es)) ≡ target cat (find nat_cmp k (e ∷ es))
      go (inl same) rest =
          let here = eqb-true k e.0 same in
          let none = count-above k (keys_in es)
          (subst (λ n. AllByRecursion (λ x. n < x) (keys_in es)) (sym here)
          (above-keys e.0 es
          (and_parts (below_all nat_cmp e.0 es) (is_sorted nat_cmp es) sorted).0)) in
          with_key (e.1.cat == cat) here none
          ∙ sym (ap (target cat) (step ∙ (λ i. cond (same i) (Some e.1) (find nat_cmp k es))))
      go (inr other) rest =
          without_key (e.1.cat == cat) (eqb-false k e.0 other) ∙ rest
          ∙ sym (ap (target cat) (step ∙ (λ i. cond (other i) (Some e.1) (find nat_cmp k es))))

  -- ---- the keys of the rows at the places of entries

  module _ (rows : Place → Option Row) (keys : ℕ → Option Row) (is : IsTable rows keys) where
    listed-row : (e : ℕ × Place) (es : List (ℕ × Place)) (row : Row) → rows e.1 ≡ Some row
        → listed_keys rows (e ∷ es) ≡ row.key ∷ listed_keys rows es
    listed-row e es row at =
        ap (λ (r : Option Row). map (λ (row : Row). row.key) (cons_option r (listed_rows rows es)))
        at

    count-none : (k : ℕ) → keys k ≡ None → (es : List (ℕ × Place))
        → AllByRecursion (IsRowOf Cat rows) es
        → count k (listed_keys rows es) ≡ 0
    count-none k none [] each = refl
    count-none k none (e ∷ es) each =
        let row = each.0.row in
        ap (count k) (listed-row e es row each.0.is)
        ∙ count-other k row.key (listed_keys rows es)
        (λ same. absurd (some_none row (sym (is.there e.1 row each.0.is) ∙ ap keys same ∙ none)))
        ∙ count-none k none es each.1
      where
        some_none : (row : Row) → Some row ≡ None → ⊥
        some_none row e = absurd (cc (e))

    count-some : (k : ℕ) (p : Place) (row : Row) → rows p ≡ Some row → row.key ≡ k
        → (es : List (ℕ × Place)) → AllByRecursion (IsRowOf Cat rows) es
        → AllByRecursion (λ e. e.0 ≡ cat) es
        → IsRising es
        → count k (listed_keys rows es) ≡ cond (has_entry es (cat, p)) 1 0
    count-some k p row there key [] each value rising = refl
    count-some k p row there key (e ∷ es) each value rising = go (cases_Bool (each.0.row.key == k))
        (count-some k p row there key es each.1 value.1 rising.1)
      where
        r : Row
        r = each.0.row

        first : ℕ
        first = count k (listed_keys rows (e ∷ es))

        step : first ≡ count k (r.key ∷ listed_keys rows es)
        step = ap (count k) (listed-row e es r each.0.is)

        -- its own place: then none of those behind has it
        here : e.1 ≡ p → count k (listed_keys rows es) ≡ cond (has_entry es (cat, p)) 1 0
            → suc (count k (listed_keys rows es))
            ≡ cond (same_entry (cat, p) e || has_entry es (cat, p)) 1 0
        here at rest =
            let e_is : e ≡ (cat, p) = λ i. (value.0 i, at i) in
            let gone : has_entry es (cat, p) ≡ false =
            ap (has_entry es) (sym e_is) ∙ none_behind e es rising.0 in
            let same : same_entry (cat, p) e ≡ true =
            ap (same_entry (cat, p)) e_is ∙ same_itself (cat, p) in
            ap suc (rest ∙ zero_if (has_entry es (cat, p)) gone)
            ∙ sym (one_if (same_entry (cat, p) e) (has_entry es (cat, p)) same)
          where
            zero_if : (b : Bool) → b ≡ false → ◌≡◌ {A = ℕ} (cond b 1 0) 0
            zero_if b e = λ i. cond (e i) 1 0

            one_if : (a b : Bool) → a ≡ true → ◌≡◌ {A = ℕ} (cond (a || b) 1 0) 1
            one_if a b e = λ i. cond (e i || b) 1 0

        -- another place
        elsewhere : (r.key ≡ k → ⊥) → same_entry (cat, p) e ≡ false
        elsewhere ne = go (cases_Bool (same_entry (cat, p) e))
          where
            keyed : (a b : Row) → Some a ≡ Some b → a.key ≡ b.key
            keyed a b e = let same : a ≡ b = cc (e) in ap (λ (y : Row). y.key) same

            go : (same_entry (cat, p) e ≡ true) ⊎ (same_entry (cat, p) e ≡ false)
                → same_entry (cat, p) e ≡ false
            go (inr other) = other
            go (inl yes') =
                let at : p ≡ e.1 = ap (λ (x : ℕ × Place). x.1) (same_is (cat, p) e yes') in
                absurd (ne (keyed r row (sym each.0.is ∙ ap rows (sym at) ∙ there) ∙ key))

        go : ((r.key == k) ≡ true) ⊎ ((r.key == k) ≡ false)
            → count k (listed_keys rows es) ≡ cond (has_entry es (cat, p)) 1 0
            → first ≡ cond (same_entry (cat, p) e || has_entry es (cat, p)) 1 0
        go (inl same) rest =
            let at_key = eqb-true r.key k same in
            step ∙ count-same k r.key (listed_keys rows es) at_key
            ∙ here (is.once e.1 p r row each.0.is there (at_key ∙ sym key)) rest
        go (inr other) rest =
            let ne = eqb-false r.key k other in
            step ∙ count-other k r.key (listed_keys rows es) ne ∙ rest
            ∙ sym (λ i. cond (elsewhere ne i || has_entry es (cat, p)) 1 0)

    -- the entries with the value are the ones with the value
    has-within : (es : List (ℕ × Place)) (p : Place)
        → has_entry (entries_within cat cat es) (cat, p) ≡ has_entry es (cat, p)
    has-within [] p = refl
    has-within (e ∷ es) p =
        let rest = has-within es p in
        elim (is_within cat cat e) as (λ b. is_within cat cat e ≡ b
        → has_entry (cond b (e ∷ entries_within cat cat es) (entries_within cat cat es)) (cat, p)
        ≡ (same_entry (cat, p) e || has_entry es (cat, p))) [
          | true ↦ λ w. ap (λ (b : Bool). same_entry (cat, p) e || b) rest
          | false ↦
              λ w. rest ∙ sym (λ i. (other e.0 w i && same_place p e.1) || has_entry es (cat, p))
        ] refl
      where
        other : (v : ℕ) → (nat_le cat v && nat_le v cat) ≡ false → (cat == v) ≡ false
        other v w = grind (arith, nat_tests)

    count-listed : (k : ℕ) (es : List (ℕ × Place)) → IsRising es → IsListingOf Cat rows es
        → count k (listed_keys rows (entries_within cat cat es)) ≡ target cat (keys k)
    count-listed k es rising lists = go (keys k) refl
      where
        some : List (ℕ × Place)
        some = entries_within cat cat es

        each : AllByRecursion (IsRowOf Cat rows) some
        each = Each-filter (IsRowOf Cat rows) (is_within cat cat) es (each_row Cat rows es lists)

        value : AllByRecursion (λ e. e.0 ≡ cat) some
        value = Each-map (λ e. is_within cat cat e ≡ true) (λ e. e.0 ≡ cat) (λ e w. at_value e.0 w)
            some (Each-passes (is_within cat cat) es)
          where
            at_value : (v : ℕ) → (nat_le cat v && nat_le v cat) ≡ true → v ≡ cat
            at_value v w = grind (arith, nat_tests)

        go : (o : Option Row) → keys k ≡ o → count k (listed_keys rows some) ≡ target cat o
        go None e = count-none k e some each
        go (Some row) e =
            let placed = is.placed k row e in
            let p = placed.1 in
            count-some k p row placed.2 placed.0 some each value
            (IsRising-filter (is_within cat cat) es rising)
            ∙ ap (λ (b : Bool). cond b 1 0)
            (has-within es p ∙ lists cat p ∙ ap (has_value Cat cat) placed.2
            ∙ nat_turned cat row.cat)

-- the keys of those rows, sorted
pub keys-found : (cat : ℕ) (rows : Place → Option Row) (table : Table) (es : List (ℕ × Place))
    → IsTable rows (λ key. row_of table key) → IsRising es → IsListingOf Cat rows es
    → (keys : List ℕ) → IsPermutation (listed_keys rows (entries_within cat cat es)) keys
    → IsSorted nat_cmp keys → keys ≡ keys_with_cat cat table
keys-found cat rows table es is rising lists keys same sorted =
    same_counts keys (keys_with_cat cat table) (sorted_ascend keys sorted)
    (ascend-keys cat (entries_of table) in_order)
    (λ k. sum_by-IsPermutation (λ x. cond (x == k) 1 0)
    (listed_keys rows (entries_within cat cat es)) keys same
    ∙ count-listed cat rows (λ key. row_of table key) is k es rising lists
    ∙ ap (target cat) (get-entries table k)
    ∙ sym (count-keys cat k (entries_of table) in_order))
  where
    in_order : is_sorted nat_cmp (entries_of table) ≡ true
    in_order = true_of (is_sorted nat_cmp (entries_of table)) (entries_sorted table)
