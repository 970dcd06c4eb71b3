-- Rows at different places, in another order.
use Rattle.std.proofs.Common.{◌≡◌, ℕ, zero, suc, ◌+◌, ◌≤◌, Bool, true, false, List, [], ◌∷◌, Option}
use Rattle.std.proofs.Common.{Some, None, refl, sym, ◌∙◌, ap, subst, if◌then◌else◌, arith}
use Rattle.std.specs.List.{Contains, sum_by}
use Rattle.std.specs.List.Sorted.{IsPermutation}
use Rattle.std.proofs.lemmas.List.Sorted.{Contains-permutation, IsPermutation-sym}
use Rattle.std.proofs.lemmas.List.Sorted.{sum_by-IsPermutation}
use Rattle.std.proofs.lemmas.List.Sums.{sum_by-cons}
use Rattle.rg_base.specs.declared.place.Place.{Place}
use Rattle.rg_base.specs.declared.row.Row.{Row}
use Rattle.rg_base.specs.Place.{same_place}
use Rattle.rg_base.proofs.SamePlace.{same_place-true, same_place-refl}
use Rattle.rg_feed.specs.Fold.Fold.{row_in}
use Rattle.rg_feed.specs.Fold.Lawful.{AreApart}
use Rattle.rg_feed.proofs.FoldLemmas.Loaded.{in_more}

-- how often a place stands among rows

abbrev once : Place → Place × Row → ℕ
once place x = if same_place x.0 place then 1 else 0

abbrev times : Place → List (Place × Row) → ℕ
times place [] = 0
times place (x ∷ xs) = once place x + times place xs

times_sum : (place : Place) (xs : List (Place × Row)) → sum_by (once place) xs ≡ times place xs
times_sum place [] = refl
times_sum place (x ∷ xs) =
    sum_by-cons (once place) x xs ∙ ap (λ n. once place x + n) (times_sum place xs)

none_counted : (place : Place) (xs : List (Place × Row)) → row_in xs place ≡ None
    → times place xs ≡ 0
none_counted place [] e = refl
none_counted place (x ∷ xs) e = go (same_place x.0 place) (none_counted place xs) e
  where
    go : (b : Bool) → (row_in xs place ≡ None → times place xs ≡ 0)
        → (if b then Some x.1 else row_in xs place) ≡ None
        → (if b then 1 else 0) + times place xs ≡ 0
    go true rest f = absurd (cc (f))
    go false rest f = omega (arith, rest f)

counted_none : (place : Place) (xs : List (Place × Row)) → times place xs ≡ 0
    → row_in xs place ≡ None
counted_none place [] e = refl
counted_none place (x ∷ xs) e = go (same_place x.0 place) (counted_none place xs) e
  where
    go : (b : Bool) → (times place xs ≡ 0 → row_in xs place ≡ None)
        → (if b then 1 else 0) + times place xs ≡ 0
        → (if b then Some x.1 else row_in xs place) ≡ None
    go true rest f = absurd (omega (arith, f))
    go false rest f = rest (omega (arith, f))

apart_once : (xs : List (Place × Row)) → AreApart xs → (place : Place) → times place xs ≤ 1
apart_once [] apart place = omega arith
apart_once (x ∷ xs) apart place = go (same_place x.0 place) refl (apart_once xs apart.1 place)
  where
    go : (b : Bool) → same_place x.0 place ≡ b → times place xs ≤ 1
        → (if b then 1 else 0) + times place xs ≤ 1
    go true e rest = omega (
      arith,
      none_counted place xs (ap (row_in xs) (sym (same_place-true x.0 place e)) ∙ apart.0),
    )
    go false e rest = omega (arith, rest)

once_apart : (xs : List (Place × Row)) → ((place : Place) → times place xs ≤ 1) → AreApart xs
once_apart [] most = tt
once_apart (x ∷ xs) most = (
  counted_none x.0 xs
      (here (ap (λ (b : Bool). (if b then 1 else 0) + times x.0 xs) (same_place-refl x.0))),
  once_apart xs (λ place. fewer place (same_place x.0 place) (most place)),
)
  where
    here : times x.0 (x ∷ xs) ≡ 1 + times x.0 xs → times x.0 xs ≡ 0
    here e = omega (arith, e, most x.0)

    fewer : (place : Place) (b : Bool) → (if b then 1 else 0) + times place xs ≤ 1
        → times place xs ≤ 1
    fewer place true h = omega (arith, h)
    fewer place false h = omega (arith, h)

permuted_apart : (xs ys : List (Place × Row)) → IsPermutation xs ys → AreApart xs → AreApart ys
permuted_apart xs ys permuted apart =
    once_apart ys
    (λ place. omega (
      arith,
      sum_by-IsPermutation (once place) xs ys permuted,
      times_sum place xs,
      times_sum place ys,
      apart_once xs apart place,
    ))

-- what is found is an element, and an element is found

Found : Place → Row → List (Place × Row) → Type 0
Found place row xs = (x : Place × Row) × Contains xs x × (x.0 ≡ place) × (x.1 ≡ row)

find : (place : Place) (row : Row) (xs : List (Place × Row)) → row_in xs place ≡ Some row
    → Found place row xs
unfolding Found
find place row [] e = absurd (cc (e))
find place row (x ∷ xs) e = go (same_place x.0 place) refl (find place row xs) e
  where
    go : (b : Bool) → same_place x.0 place ≡ b
        → (row_in xs place ≡ Some row
        → (y : Place × Row) × Contains xs y × (y.0 ≡ place) × (y.1 ≡ row))
        → (if b then Some x.1 else row_in xs place) ≡ Some row
        → (y : Place × Row) × Contains (x ∷ xs) y × (y.0 ≡ place) × (y.1 ≡ row)
    go true f rest g = (x, (0, omega arith, refl), same_place-true x.0 place f, cc (g))
    go false f rest g = let found = rest g in
        (found.0, in_more found.0 x xs found.1, found.2, found.3)

is_found : (x : Place × Row) (xs : List (Place × Row)) → AreApart xs → Contains xs x
    → row_in xs x.0 ≡ Some x.1
is_found x [] apart (k, within, is) = absurd (omega (arith, within))
is_found x (y ∷ ys) apart (zero, within, is) =
    subst (λ (z : Place × Row). (if same_place z.0 x.0 then Some z.1 else row_in ys x.0) ≡ Some x.1)
    (sym is) (ap (λ (b : Bool). if b then Some x.1 else row_in ys x.0) (same_place-refl x.0))
is_found x (y ∷ ys) apart (suc k, within, is) =
    go (same_place y.0 x.0) refl (is_found x ys apart.1 (k, omega (arith, within), is))
  where
    go : (b : Bool) → same_place y.0 x.0 ≡ b → row_in ys x.0 ≡ Some x.1
        → (if b then Some y.1 else row_in ys x.0) ≡ Some x.1
    go true f g = absurd (cc (g, apart.0, ap (row_in ys) (same_place-true y.0 x.0 f)))
    go false f g = g

row_kept : (xs ys : List (Place × Row)) (place : Place) (row : Row) → IsPermutation xs ys
    → AreApart ys → row_in xs place ≡ Some row → row_in ys place ≡ Some row
unfolding Found
row_kept xs ys place row permuted apart e =
    let found = find place row xs e in
    ap (row_in ys) (sym found.2)
    ∙ is_found found.0 ys apart (Contains-permutation xs ys found.0 permuted found.1)
    ∙ ap (λ (r : Row). Some r) found.3

pub same_rows : (xs ys : List (Place × Row)) → IsPermutation xs ys → AreApart xs
    → AreApart ys × ((place : Place) → row_in ys place ≡ row_in xs place)
same_rows xs ys permuted apart = (
  permuted_apart xs ys permuted apart,
  λ place. go place (row_in xs place) refl (row_in ys place) refl,
)
  where
    go : (place : Place) (a : Option Row) → row_in xs place ≡ a → (b : Option Row)
        → row_in ys place ≡ b → row_in ys place ≡ row_in xs place
    go place (Some row) e b f =
        row_kept xs ys place row permuted (permuted_apart xs ys permuted apart) e ∙ sym e
    go place None e None f = f ∙ sym e
    go place None e (Some row) f =
        f ∙ sym (row_kept ys xs place row (IsPermutation-sym xs ys permuted) apart f)
