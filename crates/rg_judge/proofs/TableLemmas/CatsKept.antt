-- The sets follow the rows.
use Rattle.std.proofs.Common.{◌≡◌, ◌==◌, ◌&&◌, ◌||◌, ◌≤◌, ◌<◌, ◌+◌, ◌⊎◌, inl, inr, nat_lt, ℕ, Bool}
use Rattle.std.proofs.Common.{true, false, not, cond, Option, Some, None, refl, sym, ◌∙◌, ap, arith}
use Rattle.std.specs.FinMap as map
use Rattle.std.proofs.Math.Bool.{or-false, and-false}
use Rattle.std.proofs.lemmas.Bool.{eq-eqb, eqb-true, ne_eqb, lt-ltb}
use Rattle.rg_base.specs.First.{IsEmptyFrom, IsFirstFrom}
use Rattle.rg_base.specs.declared.row.Row.{Row}
use Rattle.rg_base.proofs.Walk.{place}
use Rattle.rg_base.proofs.Small.{cmp_turned}
use Rattle.rg_model.specs.Committed.{set_to}
use Rattle.rg_model.specs.Held.{has_cat}
use Rattle.rg_model.specs.State.{Table}
use Rattle.rg_model.proofs.Overlay.{get-set_to}
use Rattle.rg_judge.specs.Table.Sets.{Sets, is_key_in, IsPutIn, IsTakenOut}
use Rattle.rg_judge.specs.Table.Cats.{AreCats, IsListed, IsStruck}
use Rattle.rg_judge.proofs.TableLemmas.ByTest.{not_below}
use Rattle.rg_judge.proofs.TableLemmas.ByTest.{and_comm, not_and}

module _ (old : Sets) (key : ℕ) where
  pub struck : (new : Sets) (row : Row) → IsTakenOut old new row.cat key
      → IsStruck old new key (Some row)
  struck new row taken cat q =
      taken cat q ∙ ap (λ b. not b && is_key_in old cat q) (and_comm (row.cat == cat) (key == q))

  pub struck_none : IsStruck old old key None
  struck_none cat q = sym (ap (λ b. not b && is_key_in old cat q) (and-false (key == q)))

  pub listed : (new : Sets) (row : Row) → IsPutIn old new row.cat key
      → IsListed old new key (Some row)
  listed new row put cat q =
      put cat q ∙ ap (λ b. b || is_key_in old cat q) (and_comm (row.cat == cat) (key == q))

  pub listed_none : IsListed old old key None
  listed_none cat q = sym (ap (λ b. b || is_key_in old cat q) (and-false (key == q)))

-- the sets are those of the rows, once a row is set
pub cats-set : (rows : Table) (old one two : Sets) (key : ℕ) (row : Option Row) → AreCats rows old
    → IsStruck old one key (map.get rows key) → IsListed one two key row
    → AreCats (set_to rows key row) two
cats-set rows old one two key row are struck put cat q =
    put cat q
    ∙ ap (λ h. ((key == q) && has_cat cat row) || h)
    (struck cat q ∙ ap (λ h. not ((key == q) && has_cat cat (map.get rows key)) && h) (are cat q))
    ∙ by_key (key == q) refl
    ∙ sym
    (ap (has_cat cat)
    (get-set_to rows key row q ∙ ap (λ b. cond b row (map.get rows q)) (cmp_turned q key)))
  where
    by_key : (b : Bool) → (key == q) ≡ b
        → ((b && has_cat cat row)
        || (not (b && has_cat cat (map.get rows key)) && has_cat cat (map.get rows q)))
        ≡ has_cat cat (cond b row (map.get rows q))
    by_key true e =
        ap (λ o. has_cat cat row || (not (has_cat cat (map.get rows key)) && has_cat cat o))
        (sym (ap (map.get rows) (eqb-true key q e)))
        ∙ ap (λ b. has_cat cat row || b) (not_and (has_cat cat (map.get rows key)))
        ∙ or-false (has_cat cat row)
    by_key false e = refl

-- the sets have the keys of the rows below a key, and no others
abbrev pub AreCatsBelow : Table → ℕ → Sets → Type 0
AreCatsBelow rows from sets =
    (cat q : ℕ) → is_key_in sets cat q ≡ (nat_lt q from && has_cat cat (map.get rows q))

pub cats-begin : (rows : Table) (sets : Sets) → ((n q : ℕ) → is_key_in sets n q ≡ false)
    → AreCatsBelow rows 0 sets
cats-begin rows sets none cat q = none cat q
    ∙ sym (ap (λ b. b && has_cat cat (map.get rows q)) (not_below q 0 (λ lt. omega (arith, lt))))

module _ (rows : Table) (from : ℕ) (old : Sets) (are : AreCatsBelow rows from old) where
  pub cats-end : IsEmptyFrom rows from → AreCats rows old
  cats-end empty cat q = are cat q ∙ by_place (place q from) where
    past : from ≤ q → (nat_lt q from && has_cat cat (map.get rows q)) ≡ has_cat cat (map.get rows q)
    past le =
        ap (λ b. b && has_cat cat (map.get rows q)) (not_below q from (λ lt. omega (arith, lt, le)))
        ∙ sym (ap (has_cat cat) (empty q le))

    by_place : (q < from) ⊎ ((from ≡ q) ⊎ (from < q))
        → (nat_lt q from && has_cat cat (map.get rows q)) ≡ has_cat cat (map.get rows q)
    by_place (inl lt) = ap (λ b. b && has_cat cat (map.get rows q)) (lt-ltb q from lt)
    by_place (inr (inl e)) = past (omega (arith, e))
    by_place (inr (inr gt)) = past (omega (arith, gt))

  pub cats-go : (key : ℕ) (row : Row) (new : Sets) → IsFirstFrom rows from (Some (key, row))
      → IsPutIn old new row.cat key → AreCatsBelow rows (key + 1) new
  cats-go key row new first put cat q =
      put cat q
      ∙ ap (λ h. ((row.cat == cat) && (key == q)) || h) (are cat q)
      ∙ by_place (place q key) (place q from) where
        by_place : (q < key) ⊎ ((key ≡ q) ⊎ (key < q)) → (q < from) ⊎ ((from ≡ q) ⊎ (from < q))
            → (((row.cat == cat) && (key == q)) || (nat_lt q from && has_cat cat (map.get rows q)))
            ≡ (nat_lt q (key + 1) && has_cat cat (map.get rows q))
        by_place (inl low) (inl lt) =
            ap (λ b. ((row.cat == cat) && b) || (nat_lt q from && has_cat cat (map.get rows q)))
            (ne_eqb key q (λ e. omega (arith, e, low)))
            ∙ ap (λ b. b || (nat_lt q from && has_cat cat (map.get rows q)))
            (and-false (row.cat == cat))
            ∙ ap (λ b. b && has_cat cat (map.get rows q))
            (lt-ltb q from lt ∙ sym (lt-ltb q (key + 1) (omega (arith, low))))
        by_place (inl low) (inr ge) =
            let none : map.get rows q ≡ None = first.2 q (at_least ge) low in
            ap (λ b. ((row.cat == cat) && b) || (nat_lt q from && has_cat cat (map.get rows q)))
            (ne_eqb key q (λ e. omega (arith, e, low)))
            ∙ ap (λ b. b || (nat_lt q from && has_cat cat (map.get rows q)))
            (and-false (row.cat == cat))
            ∙ ap (λ o. nat_lt q from && has_cat cat o) none ∙ and-false (nat_lt q from)
            ∙ sym
            (ap (λ o. nat_lt q (key + 1) && has_cat cat o) none ∙ and-false (nat_lt q (key + 1)))
          where
            at_least : (from ≡ q) ⊎ (from < q) → from ≤ q
            at_least (inl e) = omega (arith, e)
            at_least (inr gt) = omega (arith, gt)
        by_place (inr (inl e)) where_from =
            let low : from ≤ key = first.0 in
            ap (λ b. ((row.cat == cat) && b) || (nat_lt q from && has_cat cat (map.get rows q)))
            (eq-eqb key q e)
            ∙ ap (λ b. ((row.cat == cat) && true) || (b && has_cat cat (map.get rows q)))
            (not_below q from (λ lt. omega (arith, lt, e, low)))
            ∙ or-false ((row.cat == cat) && true)
            ∙ and_comm (row.cat == cat) true
            ∙ sym
            (ap (λ o. nat_lt q (key + 1) && has_cat cat o) (ap (map.get rows) (sym e) ∙ first.1)
            ∙ ap (λ b. b && (row.cat == cat)) (lt-ltb q (key + 1) (omega (arith, e))))
        by_place (inr (inr high)) where_from =
            let low : from ≤ key = first.0 in
            ap (λ b. ((row.cat == cat) && b) || (nat_lt q from && has_cat cat (map.get rows q)))
            (ne_eqb key q (λ e. omega (arith, e, high)))
            ∙ ap (λ b. b || (nat_lt q from && has_cat cat (map.get rows q)))
            (and-false (row.cat == cat))
            ∙ ap (λ b. b && has_cat cat (map.get rows q))
            (not_below q from (λ lt. omega (arith, lt, high, low))
            ∙ sym (not_below q (key + 1) (λ lt. omega (arith, lt, high))))
