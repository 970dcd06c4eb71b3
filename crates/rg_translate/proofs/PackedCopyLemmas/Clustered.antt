-- The rows of a table in order are its rows in clustering order.
use Rattle.std.proofs.Common.{◌≡◌, ◌==◌, ◌⊎◌, inl, inr, ℕ, Bool, true, false, cond, List, []}
use Rattle.std.proofs.Common.{◌∷◌, ◌++◌, Option, Some, if◌then◌else◌, map, refl, sym, ◌∙◌, ap}
use Rattle.std.proofs.Common.{subst, arith}
use Rattle.std.specs.FinMap.{find, is_sorted, entries_sorted, get-entries}
use Rattle.std.specs.FinMap.Entries.{below_all}
use Rattle.std.specs.List.{AllByRecursion}
use Rattle.std.specs.List.Sorted.{IsPermutation}
use Rattle.std.specs.Ordering.{nat_cmp, eq_by_cmp, is_lt}
use Rattle.std.proofs.lemmas.Bool.{and_parts, eqb-true}
use Rattle.std.proofs.lemmas.Bool.Decides.{nat_tests}
use Rattle.std.proofs.lemmas.List.Sorted.{IsPermutation-cons, IsPermutation-middle}
use Rattle.std.proofs.lemmas.List.Sorted.{IsPermutation-refl, IsPermutation-sym}
use Rattle.std.proofs.lemmas.List.Sorted.{IsPermutation-trans}
use Rattle.std.proofs.lemmas.Option.{same_Some}
use Rattle.rg_base.specs.declared.place.Place.{Place}
use Rattle.rg_base.specs.declared.row.Row.{Row}
use Rattle.rg_base.proofs.Small.{cmp_same, nat_itself, true_of}
use Rattle.rg_feed.specs.Fold.Fold.{row_in}
use Rattle.rg_feed.specs.Fold.Lawful.{AreApart}
use Rattle.rg_home.specs.Table.{IsTable}
use Rattle.rg_base.specs.Place.{same_place}
use Rattle.rg_base.proofs.SamePlace.{same_place-true, same_place-refl}
use Rattle.rg_model.specs.Packed.{clustered_rows}
use Rattle.rg_model.specs.State.{Table, entries_of, row_of}
use Rattle.rg_reload.specs.Moved.{rows_in}
use Rattle.rg_reload.specs.Order.{HaveOtherKeys, IsInOrder}
use Rattle.rg_reload.proofs.Clustered.{Has, clustered_is, all_has}

-- ---- lists with different keys and the same rows

abbrev IsOther : Row → Row → Type 0
IsOther row later = (later.key == row.key) ≡ false

never_other : (row other : Row) → other ≡ row → IsOther row other → ⊥
never_other row other e is =
    absurd (cc (sym is ∙ ap (λ (r : Row). r.key == row.key) e, nat_itself row.key))

record Split (x : Row) (ys : List Row) : Type 0 where
  pub before : List Row
  pub after : List Row
  pub is : ys ≡ before ++ x ∷ after

split : (x : Row) (ys : List Row) → Has x ys → Split x ys
split x [] has = absurd has
split x (y ∷ ys) (inl e) = record { before = []; after = ys; is = ap (λ (r : Row). r ∷ ys) (sym e) }
split x (y ∷ ys) (inr has) = let rest = split x ys has in record {
  before = y ∷ rest.before;
  after = rest.after;
  is = ap (λ (rs : List Row). y ∷ rs) rest.is;
}

has_more : (z x : Row) (fs bs : List Row) → Has z (fs ++ bs) → Has z (fs ++ x ∷ bs)
has_more z x [] bs has = inr has
has_more z x (a ∷ fs) bs (inl e) = inl e
has_more z x (a ∷ fs) bs (inr has) = inr (has_more z x fs bs has)

has_one : (x : Row) (fs bs : List Row) → Has x (fs ++ x ∷ bs)
has_one x [] bs = inl refl
has_one x (a ∷ fs) bs = inr (has_one x fs bs)

has_less : (z x : Row) (fs bs : List Row) → Has z (fs ++ x ∷ bs) → (z ≡ x) ⊎ Has z (fs ++ bs)
has_less z x [] bs has = has
has_less z x (a ∷ fs) bs (inl e) = inr (inl e)
has_less z x (a ∷ fs) bs (inr has) = go (has_less z x fs bs has)
  where
    go : (z ≡ x) ⊎ Has z (fs ++ bs) → (z ≡ x) ⊎ ((z ≡ a) ⊎ Has z (fs ++ bs))
    go (inl e) = inl e
    go (inr rest) = inr (inr rest)

all_less : (P : Row → Type 0) (x : Row) (fs bs : List Row) → AllByRecursion P (fs ++ x ∷ bs)
    → AllByRecursion P (fs ++ bs)
all_less P x [] bs all = all.1
all_less P x (a ∷ fs) bs all = (all.0, all_less P x fs bs all.1)

others_less : (x : Row) (fs bs : List Row) → HaveOtherKeys (fs ++ x ∷ bs) → HaveOtherKeys (fs ++ bs)
others_less x [] bs others = others.1
others_less x (a ∷ fs) bs others =
    (all_less (IsOther a) x fs bs others.0, others_less x fs bs others.1)

not_twice : (x : Row) (fs bs : List Row) → HaveOtherKeys (fs ++ x ∷ bs) → Has x (fs ++ bs) → ⊥
not_twice x [] bs others has = never_other x x refl (all_has (IsOther x) x bs others.0 has)
not_twice x (a ∷ fs) bs others (inl e) =
    never_other a x e (all_has (IsOther a) x (fs ++ x ∷ bs) others.0 (has_one x fs bs))
not_twice x (a ∷ fs) bs others (inr has) = not_twice x fs bs others.1 has

permuted : (xs ys : List Row) → HaveOtherKeys xs → HaveOtherKeys ys
    → ((x : Row) → Has x xs → Has x ys) → ((x : Row) → Has x ys → Has x xs) → IsPermutation xs ys
permuted [] [] h k to from = IsPermutation-refl []
permuted [] (y ∷ ys) h k to from = absurd (from y (inl refl))
permuted (x ∷ xs) ys h k to from =
    let at = split x ys (to x (inl refl)) in
    let others : HaveOtherKeys (at.before ++ x ∷ at.after) = subst HaveOtherKeys at.is k in
    let rest : IsPermutation xs (at.before ++ at.after) =
    permuted xs (at.before ++ at.after) h.1 (others_less x at.before at.after others)
    (λ z has. by_less (at.before ++ at.after) z has
    (has_less z x at.before at.after (subst (Has z) at.is (to z (inr has)))))
    (λ z has. by_first at.before at.after others z has
    (from z (subst (Has z) (sym at.is) (has_more z x at.before at.after has)))) in
    subst (IsPermutation (x ∷ xs)) (sym at.is)
    (IsPermutation-trans (x ∷ xs) (x ∷ (at.before ++ at.after)) (at.before ++ x ∷ at.after)
    (IsPermutation-cons x xs (at.before ++ at.after) rest)
    (IsPermutation-sym (at.before ++ x ∷ at.after) (x ∷ (at.before ++ at.after))
    (IsPermutation-middle at.before x at.after)))
  where
    by_less : (fs : List Row) (z : Row) → Has z xs → (z ≡ x) ⊎ Has z fs → Has z fs
    by_less fs z has (inl e) = absurd (never_other x z e (all_has (IsOther x) z xs h.0 has))
    by_less fs z has (inr is) = is

    by_first : (fs bs : List Row) → HaveOtherKeys (fs ++ x ∷ bs) → (z : Row) → Has z (fs ++ bs)
        → (z ≡ x) ⊎ Has z xs → Has z xs
    by_first fs bs others z has (inl e) =
        absurd (not_twice x fs bs others (subst (λ (r : Row). Has r (fs ++ bs)) e has))
    by_first fs bs others z has (inr is) = is

-- ---- rows at different places

each_row : (rows : List (Place × Row)) → AreApart rows
    → AllByRecursion (λ y. row_in rows y.0 ≡ Some y.1) rows
each_row [] apart = tt
each_row (x ∷ rows) apart = (
  ap (λ (b : Bool). if b then Some x.1 else row_in rows x.0) (same_place-refl x.0),
  later rows (each_row rows apart.1),
)
  where
    one : (y : Place × Row) → row_in rows y.0 ≡ Some y.1 → (c : Bool) → same_place x.0 y.0 ≡ c
        → (if c then Some x.1 else row_in rows y.0) ≡ Some y.1
    one y e true same = absurd (cc (apart.0, ap (row_in rows) (same_place-true x.0 y.0 same), e))
    one y e false other = e

    later : (ys : List (Place × Row)) → AllByRecursion (λ y. row_in rows y.0 ≡ Some y.1) ys
        → AllByRecursion (λ y. row_in (x ∷ rows) y.0 ≡ Some y.1) ys
    later [] all = tt
    later (y ∷ ys) all = (one y all.0 (same_place x.0 y.0) refl, later ys all.1)

-- no two of these rows have one key
abbrev IsOnce : (Place → Option Row) → Type 0
IsOnce rows = (p q : Place) (row other : Row) → rows p ≡ Some row → rows q ≡ Some other
    → row.key ≡ other.key → p ≡ q

others_are : (rows : List (Place × Row)) → AreApart rows → IsOnce (row_in rows)
    → HaveOtherKeys (rows_in rows)
others_are [] apart once = tt
others_are (x ∷ rows) apart once = (all rows (each_row rows apart.1), others_are rows apart.1 less)
  where
    more : (p : Place) (row : Row) → row_in rows p ≡ Some row → (c : Bool) → same_place x.0 p ≡ c
        → (if c then Some x.1 else row_in rows p) ≡ Some row
    more p row e true same = absurd (cc (apart.0, ap (row_in rows) (same_place-true x.0 p same), e))
    more p row e false other = e

    less : IsOnce (row_in rows)
    less p q row other e f same = once p q row other (more p row e (same_place x.0 p) refl)
        (more q other f (same_place x.0 q) refl) same

    here : row_in (x ∷ rows) x.0 ≡ Some x.1
    here = ap (λ (b : Bool). if b then Some x.1 else row_in rows x.0) (same_place-refl x.0)

    one : (y : Place × Row) → row_in rows y.0 ≡ Some y.1 → (c : Bool) → (y.1.key == x.1.key) ≡ c
        → (y.1.key == x.1.key) ≡ false
    one y e true same = absurd
        (cc (
          apart.0,
          ap (row_in rows)
              (sym
              (once y.0 x.0 y.1 x.1 (more y.0 y.1 e (same_place x.0 y.0) refl) here
              (eqb-true y.1.key x.1.key same))),
          e,
        ))
    one y e false other = other

    all : (ys : List (Place × Row)) → AllByRecursion (λ y. row_in rows y.0 ≡ Some y.1) ys
        → AllByRecursion (IsOther x.1) (rows_in ys)
    all [] each = tt
    all (y ∷ ys) each = (one y each.0 (y.1.key == x.1.key) refl, all ys each.1)

record IsPlaced (rows : List (Place × Row)) (r : Row) : Type 0 where
  pub place : Place
  pub row_is : row_in rows place ≡ Some r

has_place : (rows ys : List (Place × Row)) (r : Row)
    → AllByRecursion (λ y. row_in rows y.0 ≡ Some y.1) ys → Has r (rows_in ys) → IsPlaced rows r
has_place rows [] r each has = absurd has
has_place rows (y ∷ ys) r each (inl e) =
    record { place = y.0; row_is = each.0 ∙ ap (λ (x : Row). Some x) (sym e) }
has_place rows (y ∷ ys) r each (inr has) = has_place rows ys r each.1 has

place_has : (rows : List (Place × Row)) (p : Place) (r : Row) → row_in rows p ≡ Some r
    → Has r (rows_in rows)
place_has [] p r e = absurd (cc (e))
place_has (x ∷ rows) p r e = go (place_has rows p r) (same_place x.0 p) e
  where
    go : (row_in rows p ≡ Some r → Has r (rows_in rows)) → (c : Bool)
        → (if c then Some x.1 else row_in rows p) ≡ Some r → Has r (rows_in (x ∷ rows))
    go rest true f = inl (sym (same_Some x.1 r f))
    go rest false f = inr (rest f)

-- ---- the entries of a table

abbrev values : List (ℕ × Row) → List Row
values es = map (λ e. e.1) es

key_apart : (a b : ℕ) → is_lt (nat_cmp a b) ≡ true → eq_by_cmp nat_cmp b a ≡ false
key_apart a b lt = grind (arith, nat_tests)

key_less : (a b : ℕ) → is_lt (nat_cmp a b) ≡ true → (b == a) ≡ false
key_less a b lt = grind (arith, nat_tests)

each_found : (es : List (ℕ × Row)) → is_sorted nat_cmp es ≡ true
    → AllByRecursion (λ e. find nat_cmp e.0 es ≡ Some e.1) es
each_found [] sorted = tt
each_found (e ∷ es) sorted =
    let parts = and_parts (below_all nat_cmp e.0 es) (is_sorted nat_cmp es) sorted in (
      ap (λ (b : Bool). cond b (Some e.1) (find nat_cmp e.0 es)) (cmp_same e.0),
      later es parts.0 (each_found es parts.1),
    )
  where
    later : (zs : List (ℕ × Row)) → below_all nat_cmp e.0 zs ≡ true
        → AllByRecursion (λ z. find nat_cmp z.0 es ≡ Some z.1) zs
        → AllByRecursion (λ z. find nat_cmp z.0 (e ∷ es) ≡ Some z.1) zs
    later [] below all = tt
    later (z ∷ zs) below all =
        let parts = and_parts (is_lt (nat_cmp e.0 z.0)) (below_all nat_cmp e.0 zs) below in (
          ap (λ (b : Bool). cond b (Some e.1) (find nat_cmp z.0 es)) (key_apart e.0 z.0 parts.0)
              ∙ all.0,
          later zs parts.1 all.1,
        )

others_in : (es : List (ℕ × Row)) → is_sorted nat_cmp es ≡ true
    → AllByRecursion (λ e. e.1.key ≡ e.0) es → HaveOtherKeys (values es)
others_in [] sorted keys = tt
others_in (e ∷ es) sorted keys =
    let parts = and_parts (below_all nat_cmp e.0 es) (is_sorted nat_cmp es) sorted in
    (later es parts.0 keys.1, others_in es parts.1 keys.1)
  where
    later : (zs : List (ℕ × Row)) → below_all nat_cmp e.0 zs ≡ true
        → AllByRecursion (λ z. z.1.key ≡ z.0) zs → AllByRecursion (IsOther e.1) (values zs)
    later [] below all = tt
    later (z ∷ zs) below all =
        let parts = and_parts (is_lt (nat_cmp e.0 z.0)) (below_all nat_cmp e.0 zs) below in (
          ap (λ (n : ℕ). n == e.1.key) all.0 ∙ ap (λ (n : ℕ). z.0 == n) keys.0
              ∙ key_less e.0 z.0 parts.0,
          later zs parts.1 all.1,
        )

find_has : (es : List (ℕ × Row)) (k : ℕ) (r : Row) → find nat_cmp k es ≡ Some r → Has r (values es)
find_has [] k r e = absurd (cc (e))
find_has (x ∷ es) k r e = go (find_has es k r) (eq_by_cmp nat_cmp k x.0) e
  where
    go : (find nat_cmp k es ≡ Some r → Has r (values es)) → (b : Bool)
        → cond b (Some x.1) (find nat_cmp k es) ≡ Some r → Has r (values (x ∷ es))
    go rest true f = inl (sym (same_Some x.1 r f))
    go rest false f = inr (rest f)

record IsKeyed (all : List (ℕ × Row)) (r : Row) : Type 0 where
  pub key : ℕ
  pub is : find nat_cmp key all ≡ Some r

has_key : (all es : List (ℕ × Row)) (r : Row)
    → AllByRecursion (λ e. find nat_cmp e.0 all ≡ Some e.1) es → Has r (values es) → IsKeyed all r
has_key all [] r each has = absurd has
has_key all (e ∷ es) r each (inl same) =
    record { key = e.0; is = each.0 ∙ ap (λ (x : Row). Some x) (sym same) }
has_key all (e ∷ es) r each (inr has) = has_key all es r each.1 has

module _ (rows : List (Place × Row)) (t : Table) (apart : AreApart rows)
    (is : IsTable (row_in rows) (row_of t)) where
  abbrev es : List (ℕ × Row)
  es = entries_of t

  sorted : is_sorted nat_cmp (entries_of t) ≡ true
  sorted = true_of (is_sorted nat_cmp (entries_of t)) (entries_sorted t)

  keys_are : (zs : List (ℕ × Row))
      → AllByRecursion (λ e. find nat_cmp e.0 (entries_of t) ≡ Some e.1) zs
      → AllByRecursion (λ e. e.1.key ≡ e.0) zs
  keys_are [] each = tt
  keys_are (z ∷ zs) each = ((is.placed z.0 z.1 (get-entries t z.0 ∙ each.0)).0, keys_are zs each.1)

  pub other_keys : HaveOtherKeys (rows_in rows)
  other_keys = others_are rows apart is.once

  to_values : (r : Row) → Has r (rows_in rows) → Has r (values (entries_of t))
  to_values r has =
      let at = has_place rows rows r (each_row rows apart) has in
      find_has (entries_of t) r.key r (sym (get-entries t r.key) ∙ is.there at.place r at.row_is)

  from_values : (r : Row) → Has r (values (entries_of t)) → Has r (rows_in rows)
  from_values r has =
      let at = has_key (entries_of t) (entries_of t) r (each_found (entries_of t) sorted) has in
      let placed = is.placed at.key r (get-entries t at.key ∙ at.is) in
      place_has rows placed.1 r placed.2

  pub rows_are_clustered : IsInOrder rows → rows_in rows ≡ clustered_rows (values (entries_of t))
  rows_are_clustered order =
      let others = others_in (entries_of t) sorted
      (keys_are (entries_of t) (each_found (entries_of t) sorted)) in
      clustered_is rows (values (entries_of t)) order
      (permuted (rows_in rows) (values (entries_of t)) other_keys others to_values from_values)
      other_keys others
