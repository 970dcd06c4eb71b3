-- What the walks of a table list.
use Rattle.std.proofs.Common.{◌≡◌, ◌==◌, ◌&&◌, ◌≤◌, ◌<◌, ◌+◌, nat_le, ℕ, Bool, true, false, List}
use Rattle.std.proofs.Common.{[], ◌∷◌, ◌++◌, map, Option, Some, None, refl, sym, ◌∙◌, ap}
use Rattle.std.proofs.Common.{append-nil, arith}
use Rattle.std.specs.FinMap as fin
use Rattle.std.proofs.Math.Bool.{and-false}
use Rattle.std.proofs.lemmas.Bool.{le-leb, lt-leb}
use Rattle.rg_base.specs.First.{IsEmptyFrom, IsFirstFrom}
use Rattle.rg_base.specs.declared.row.Row.{Row}
use Rattle.rg_base.proofs.Walk.{walk_begins, walk_skips, walk_fails, first_at}
use Rattle.rg_model.specs.Held.{has_cat}
use Rattle.rg_model.specs.Plain.{keys_with_cat, rows_between}
use Rattle.rg_model.specs.State.{Table}
use Rattle.rg_model.proofs.Walked.{gathered-passes, gathered-ends, keys_from, rows_from}
use Rattle.rg_judge.specs.Table.Sets.{Sets, is_key_in, IsFirstIn}
use Rattle.rg_judge.specs.Table.Cats.{AreCats}

-- a row with this `cat`
record Found (cat : ℕ) (o : Option Row) : Type 0 where
  row : Row
  there : o ≡ Some row
  has : (row.cat == cat) ≡ true

found : (cat : ℕ) (o : Option Row) → has_cat cat o ≡ true → Found cat o
found cat None e = absurd (cc (e))
found cat (Some row) e = record { row = row; there = refl; has = e }

module _ (cat : ℕ) (rows : Table) (sets : Sets) (are : AreCats rows sets) where
  test : ℕ × Row → Bool
  test entry = entry.1.cat == cat

  -- a row at a key that is not in the set has another `cat`
  fails : (q : ℕ) (v : Row) → is_key_in sets cat q ≡ false → fin.get rows q ≡ Some v
      → test (q, v) ≡ false
  unfolding test
  fails q v out there = sym (ap (has_cat cat) there) ∙ sym (are cat q) ∙ out

  module _ (done : List ℕ) (from : ℕ)
      (so_far : done ++ keys_from cat rows from ≡ keys_with_cat cat rows) where
    pub keys-go : (key : ℕ) → IsFirstIn sets cat from (Some key)
        → (done ++ key ∷ []) ++ keys_from cat rows (key + 1) ≡ keys_with_cat cat rows
    unfolding test
    keys-go key is =
        let at = found cat (fin.get rows key) (sym (are cat key) ∙ is.1) in
        gathered-passes (λ (entry : ℕ × Row). entry.0) (λ (entry : ℕ × Row). entry.1.cat == cat)
        rows (keys_with_cat cat rows) done key (key, at.row)
        (first_at (λ (entry : ℕ × Row). entry.1.cat == cat) rows key at.row at.there) at.has
        (ap (λ es. done ++ map (λ (entry : ℕ × Row). entry.0) es)
        (sym
        (walk_skips (λ (entry : ℕ × Row). entry.1.cat == cat) rows from key is.0
        (λ q v low lt there. fails q v (is.2 q low lt) there)))
        ∙ so_far)

    pub keys-end : IsFirstIn sets cat from None → done ≡ keys_with_cat cat rows
    unfolding test
    keys-end none =
        sym (append-nil done)
        ∙ ap (λ es. done ++ map (λ (entry : ℕ × Row). entry.0) es)
        (sym
        (walk_fails (λ (entry : ℕ × Row). entry.1.cat == cat) rows from
        (λ q v low there. fails q v (none q low) there)))
        ∙ so_far

module _ (lo hi : ℕ) (rows : Table) where
  between : ℕ × Row → Bool
  between entry = nat_le lo entry.0 && nat_le entry.0 hi

  low_fails : (q : ℕ) (v : Row) → q < lo → between (q, v) ≡ false
  unfolding between
  low_fails q v lt = ap (λ b. b && nat_le q hi) (lt-leb lo q lt)

  high_fails : (q : ℕ) (v : Row) → hi < q → between (q, v) ≡ false
  unfolding between
  high_fails q v gt = ap (λ b. nat_le lo q && b) (lt-leb q hi gt) ∙ and-false (nat_le lo q)

  pub rows-begin : rows_from lo hi rows lo ≡ rows_between lo hi rows
  unfolding between
  rows-begin =
      ap (map (λ (entry : ℕ × Row). entry.1)) (sym
      (walk_skips (λ (entry : ℕ × Row). nat_le lo entry.0 && nat_le entry.0 hi) rows 0 lo
      (omega arith) (λ q v low lt there. low_fails q v lt))
      ∙ walk_begins (λ (entry : ℕ × Row). nat_le lo entry.0 && nat_le entry.0 hi) rows
      (fin.entries rows))

  module _ (done : List Row) (from : ℕ) (low : lo ≤ from)
      (so_far : done ++ rows_from lo hi rows from ≡ rows_between lo hi rows) (key : ℕ) (row : Row)
      (is : IsFirstFrom rows from (Some (key, row))) where
    pub rows-go : key ≤ hi
        → (done ++ row ∷ []) ++ rows_from lo hi rows (key + 1) ≡ rows_between lo hi rows
    rows-go le =
        gathered-passes (λ (entry : ℕ × Row). entry.1)
        (λ (entry : ℕ × Row). nat_le lo entry.0 && nat_le entry.0 hi) rows (rows_between lo hi rows)
        done from (key, row) is
        (rw (le-leb lo key (omega (arith, low, is.0)), le-leb key hi le) refl) so_far

    pub rows-stop : hi < key → done ≡ rows_between lo hi rows
    unfolding between
    rows-stop gt =
        sym (append-nil done)
        ∙ ap (λ es. done ++ map (λ (entry : ℕ × Row). entry.1) es)
        (sym (walk_skips (λ (entry : ℕ × Row). nat_le lo entry.0 && nat_le entry.0 hi) rows from key
        is.0 (λ q v at_least lt there. absurd (cc (sym there ∙ is.2 q at_least lt)))
        ∙ walk_fails (λ (entry : ℕ × Row). nat_le lo entry.0 && nat_le entry.0 hi) rows key
        (λ q v at_least there. high_fails q v (omega (arith, gt, at_least)))))
        ∙ so_far

  pub rows-done : (done : List Row) (from : ℕ)
      → done ++ rows_from lo hi rows from ≡ rows_between lo hi rows → IsEmptyFrom rows from
      → done ≡ rows_between lo hi rows
  rows-done done from so_far empty =
      gathered-ends (λ (entry : ℕ × Row). entry.1)
      (λ (entry : ℕ × Row). nat_le lo entry.0 && nat_le entry.0 hi) rows (rows_between lo hi rows)
      done from empty so_far
