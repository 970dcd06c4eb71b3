-- The entries of a table are the rows that its index by key lists.
use Rattle.std.proofs.Common.{◌≡◌, ◌==◌, ◌&&◌, ◌||◌, ◌<◌, ◌≤◌, ◌⊎◌, T, ℕ, Bool, true, false, cond}
use Rattle.std.proofs.Common.{List, [], ◌∷◌, length, map, filter, Option, Some, None, refl, sym}
use Rattle.std.proofs.Common.{◌∙◌, ap, subst, inl, inr, arith}
use Rattle.std.specs.Prelude.{nat_le}
use Rattle.std.specs.FinMap as fin
use Rattle.std.specs.FinMap.{find, is_sorted, same_map, nat_cmp-IsAntisymmetric, get-from_sorted}
use Rattle.std.specs.FinMap.{entries-from_sorted, len-entries}
use Rattle.std.specs.FinMap.Entries.{below_all}
use Rattle.std.specs.List.{cons_option, AllByRecursion}
use Rattle.std.specs.Ordering.{nat_cmp, is_lt}
use Rattle.std.proofs.lemmas.Bool.{and_from, eqb-true, eq-eqb, cases_lt, true≢false}
use Rattle.std.proofs.lemmas.Cmp.{nat_cmp_total}
use Rattle.std.specs.Cmp.{unsigned_tied}
use Rattle.rg_base.specs.declared.place.Place.{Place}
use Rattle.rg_base.specs.declared.row.Row.{Row}
use Rattle.rg_base.specs.declared.which.Which.TheVariants.{Key}
use Rattle.rg_index.specs.Entries.{IsRising, has_entry, is_within, entries_within}
use Rattle.rg_index.specs.Listed.{IsListingOf, has_value}
use Rattle.rg_btree.proofs.IndexesLemmas.Members.{IsRowOf, each_row, row_there, same_value}
use Rattle.rg_btree.specs.Indexes.Listed.{with_value, keyed_rows, listed_rows}
use Rattle.rg_home.specs.Table.{IsTable}
use Rattle.rg_base.specs.Place.{same_place}
use Rattle.rg_base.proofs.Small.{cmp_below}
use Rattle.rg_model.specs.Layout.{is_entry_before}
use Rattle.rg_model.specs.Plain.{rows_between}
use Rattle.rg_model.specs.State.{Table, row_of, entries_of, row_count}
use Rattle.rg_model.proofs.Before.{not_itself}

module _ (rows : Place → Option Row) where
  keyed-row : (e : ℕ × Place) (es : List (ℕ × Place)) (row : Row) → rows e.1 ≡ Some row
      → keyed_rows rows (e ∷ es) ≡ (e.0, row) ∷ keyed_rows rows es
  keyed-row e es row is =
      ap (λ (r : Option Row). cons_option (with_value e.0 r) (keyed_rows rows es)) is

  listed-row : (e : ℕ × Place) (es : List (ℕ × Place)) (row : Row) → rows e.1 ≡ Some row
      → listed_rows rows (e ∷ es) ≡ row ∷ listed_rows rows es
  listed-row e es row is = ap (λ (r : Option Row). cons_option r (listed_rows rows es)) is

  length-keyed : (es : List (ℕ × Place)) → AllByRecursion (IsRowOf Key rows) es
      → length (keyed_rows rows es) ≡ length es
  length-keyed [] each = refl
  length-keyed (e ∷ es) each = ap length (keyed-row e es each.0.row each.0.is)
      ∙ (let rest = length-keyed es each.1 in omega (arith, rest))

  -- ---- the keys rise

  abbrev AreKeys : (ℕ → Option Row) → Type 0
  AreKeys keys = IsTable rows keys

  below-keyed : (k : ℕ) (es : List (ℕ × Place)) → AllByRecursion (IsRowOf Key rows) es
      → AllByRecursion (λ e. k < e.0) es → below_all nat_cmp k (keyed_rows rows es) ≡ true
  below-keyed k [] each above = refl
  below-keyed k (e ∷ es) each above =
      ap (below_all nat_cmp k) (keyed-row e es each.0.row each.0.is)
      ∙ and_from (is_lt (nat_cmp k e.0)) (below_all nat_cmp k (keyed_rows rows es))
      (cmp_below k e.0 above.0) (below-keyed k es each.1 above.1)

  sorted-keyed : (keys : ℕ → Option Row) → AreKeys keys → (es : List (ℕ × Place))
      → AllByRecursion (IsRowOf Key rows) es → IsRising es
      → is_sorted nat_cmp (keyed_rows rows es) ≡ true
  sorted-keyed keys is [] each rising = refl
  sorted-keyed keys is (e ∷ es) each rising =
      ap (is_sorted nat_cmp) (keyed-row e es each.0.row each.0.is)
      ∙ and_from (below_all nat_cmp e.0 (keyed_rows rows es))
      (is_sorted nat_cmp (keyed_rows rows es))
      (below-keyed e.0 es each.1 (above es each.1 rising.0))
      (sorted-keyed keys is es each.1 rising.1)
    where
      -- two entries with one value would be two homes of one key
      above : (later : List (ℕ × Place)) → AllByRecursion (IsRowOf Key rows) later
          → AllByRecursion (λ l. is_entry_before e l ≡ true) later
          → AllByRecursion (λ l. e.0 < l.0) later
      above [] each before = tt
      above (l ∷ later) rest before = (one (cases_lt e.0 l.0), above later rest.1 before.1)
        where
          one : (e.0 < l.0) ⊎ (l.0 ≤ e.0) → e.0 < l.0
          one (inl lt) = lt
          one (inr le) =
              let same = same_value e l before.0 le in
              absurd
              (not_itself e.1 l.1 same.1
              (is.once e.1 l.1 each.0.row rest.0.row each.0.is rest.0.is
              (each.0.value ∙ same.0 ∙ sym rest.0.value)))

  -- ---- what is found by a key

  abbrev Absent : ℕ → List (ℕ × Place) → Type 0
  Absent q es =
      (find nat_cmp q (keyed_rows rows es) ≡ None) × ((p : Place) → has_entry es (q, p) ≡ false)

  record IsFound (q : ℕ) (es : List (ℕ × Place)) : Type 0 where
    row : Row
    place : Place
    found : find nat_cmp q (keyed_rows rows es) ≡ Some row
    there : rows place ≡ Some row
    key : row.key ≡ q

  find-keyed : (q : ℕ) (es : List (ℕ × Place)) → AllByRecursion (IsRowOf Key rows) es
      → Absent q es ⊎ IsFound q es
  find-keyed q [] each = inl (refl, λ p. refl)
  find-keyed q (e ∷ es) each = go (q == e.0) refl (find-keyed q es each.1)
    where
      step : find nat_cmp q (keyed_rows rows (e ∷ es))
          ≡ cond (q == e.0) (Some each.0.row) (find nat_cmp q (keyed_rows rows es))
      step = ap (find nat_cmp q) (keyed-row e es each.0.row each.0.is)
          ∙ ap (λ (b : Bool). cond b (Some each.0.row) (find nat_cmp q (keyed_rows rows es)))
          (unsigned_tied q e.0)

      go : (b : Bool) → (q == e.0) ≡ b → Absent q es ⊎ IsFound q es
          → Absent q (e ∷ es) ⊎ IsFound q (e ∷ es)
      go true same rest = inr (record {
        row = each.0.row;
        place = e.1;
        found = step ∙ (λ i. cond (same i) (Some each.0.row) (find nat_cmp q (keyed_rows rows es)));
        there = each.0.is;
        key = each.0.value ∙ sym (eqb-true q e.0 same);
      })
      go false other (inl absent) = inl (
        step ∙ (λ i. cond (other i) (Some each.0.row) (find nat_cmp q (keyed_rows rows es)))
            ∙ absent.0,
        λ p. (λ i. (other i && same_place p e.1) || has_entry es (q, p)) ∙ absent.1 p,
      )
      go false other (inr is) = inr (record {
        row = is.row;
        place = is.place;
        found = step ∙ (λ i. cond (other i) (Some each.0.row) (find nat_cmp q (keyed_rows rows es)))
            ∙ is.found;
        there = is.there;
        key = is.key;
      })

  found_is : (keys : ℕ → Option Row) → AreKeys keys → (es : List (ℕ × Place))
      → IsListingOf Key rows es → (q : ℕ) → keys q ≡ find nat_cmp q (keyed_rows rows es)
  found_is keys is es lists q = go (find-keyed q es (each_row Key rows es lists))
    where
      go : Absent q es ⊎ IsFound q es → keys q ≡ find nat_cmp q (keyed_rows rows es)
      go (inr f) = ap keys (sym f.key) ∙ is.there f.place f.row f.there ∙ sym f.found
      go (inl absent) = none (keys q) refl ∙ sym absent.0
        where
          none : (r : Option Row) → keys q ≡ r → keys q ≡ None
          none None e = e
          none (Some row) e =
              let placed = is.placed q row e in
              absurd
              (true≢false
              (sym
              (lists q placed.1 ∙ ap (has_value Key q) placed.2 ∙ eq-eqb q row.key (sym placed.0))
              ∙ absent.1 placed.1))

-- the entries of the table
pub entries-keyed : (rows : Place → Option Row) (table : Table) (es : List (ℕ × Place))
    → IsTable rows (λ key. row_of table key) → IsRising es → IsListingOf Key rows es
    → entries_of table ≡ keyed_rows rows es
entries-keyed rows table es is rising lists =
    let sorted : T (is_sorted nat_cmp (keyed_rows rows es)) = subst T
    (sym (sorted-keyed rows (λ key. row_of table key) is es (each_row Key rows es lists) rising))
    tt in
    ap fin.entries
    (same_map nat_cmp_total nat_cmp-IsAntisymmetric table (fin.from_sorted (keyed_rows rows es))
    (λ q. found_is rows (λ key. row_of table key) is es lists q
    ∙ sym (get-from_sorted nat_cmp (keyed_rows rows es) q sorted)))
    ∙ entries-from_sorted nat_cmp (keyed_rows rows es) sorted

pub count-keyed : (rows : Place → Option Row) (table : Table) (es : List (ℕ × Place))
    → IsTable rows (λ key. row_of table key) → IsRising es → IsListingOf Key rows es
    → row_count table ≡ length es
count-keyed rows table es is rising lists =
    len-entries table ∙ ap length (entries-keyed rows table es is rising lists)
    ∙ length-keyed rows es (each_row Key rows es lists)

between-keyed : (rows : Place → Option Row) (lo hi : ℕ) (es : List (ℕ × Place))
    → AllByRecursion (IsRowOf Key rows) es
    → map (λ entry. entry.1)
    (filter (λ entry. nat_le lo entry.0 && nat_le entry.0 hi) (keyed_rows rows es))
    ≡ listed_rows rows (entries_within lo hi es)
between-keyed rows lo hi [] each = refl
between-keyed rows lo hi (e ∷ es) each =
    ap
    (λ (xs : List (ℕ × Row)). map (λ entry. entry.1)
    (filter (λ entry. nat_le lo entry.0 && nat_le entry.0 hi) xs))
    (keyed-row rows e es each.0.row each.0.is)
    ∙ go (is_within lo hi e) (between-keyed rows lo hi es each.1)
  where
    kept : List (ℕ × Row)
    kept = filter (λ (entry : ℕ × Row). nat_le lo entry.0 && nat_le entry.0 hi) (keyed_rows rows es)

    go : (b : Bool)
        → map (λ (entry : ℕ × Row). entry.1) kept ≡ listed_rows rows (entries_within lo hi es)
        → map (λ (entry : ℕ × Row). entry.1) (cond b ((e.0, each.0.row) ∷ kept) kept)
        ≡ listed_rows rows (cond b (e ∷ entries_within lo hi es) (entries_within lo hi es))
    go true rest = ap (λ (rs : List Row). each.0.row ∷ rs) rest
        ∙ sym (listed-row rows e (entries_within lo hi es) each.0.row each.0.is)
    go false rest = rest

pub rows-between : (rows : Place → Option Row) (table : Table) (es : List (ℕ × Place))
    → IsTable rows (λ key. row_of table key) → IsRising es → IsListingOf Key rows es → (lo hi : ℕ)
    → rows_between lo hi table ≡ listed_rows rows (entries_within lo hi es)
rows-between rows table es is rising lists lo hi =
    ap
    (λ (xs : List (ℕ × Row)). map (λ (entry : ℕ × Row). entry.1)
    (filter (λ (entry : ℕ × Row). nat_le lo entry.0 && nat_le entry.0 hi) xs))
    (entries-keyed rows table es is rising lists)
    ∙ between-keyed rows lo hi es (each_row Key rows es lists)

-- ---- the row of one key

pub row-there : (rows : Place → Option Row) (table : Table) (es : List (ℕ × Place))
    → IsTable rows (λ key. row_of table key) → IsListingOf Key rows es → (key : ℕ) (home : Place)
    → has_entry es (key, home) ≡ true → rows home ≡ row_of table key
row-there rows table es is lists key home there =
    let at = row_there Key rows (key, home) (sym (lists key home) ∙ there) in
    at.is ∙ sym (is.there home at.row at.is) ∙ ap (row_of table) at.value

pub row-none : (rows : Place → Option Row) (table : Table) (es : List (ℕ × Place))
    → IsTable rows (λ key. row_of table key) → IsListingOf Key rows es → (key : ℕ)
    → ((home : Place) → has_entry es (key, home) ≡ false) → row_of table key ≡ None
row-none rows table es is lists key none = go (row_of table key) refl
  where
    go : (r : Option Row) → row_of table key ≡ r → row_of table key ≡ None
    go None e = e
    go (Some row) e =
        let placed = is.placed key row e in
        absurd
        (true≢false
        (sym
        (lists key placed.1 ∙ ap (has_value Key key) placed.2 ∙ eq-eqb key row.key (sym placed.0))
        ∙ none placed.1))
