-- Rows in order, with different keys, are the rows in clustering order.
use Rattle.std.proofs.Common.{◌≡◌, ℕ, zero, suc, ◌+◌, ◌==◌, ◌&&◌, ◌||◌, ◌<◌, ◌⊎◌, inl, inr}
use Rattle.std.proofs.Common.{nat_lt, nat_cmp, is_lt, cond, Less, Equal, Greater, Bool, true, false}
use Rattle.std.proofs.Common.{List, [], ◌∷◌, if◌then◌else◌, get_or, refl, sym, ap, subst, ◌∙◌}
use Rattle.std.proofs.Common.{arith}
use Rattle.std.proofs.lemmas.Bool.{eqb-true, eqb-false, ltb-false, ltb-true, lt-ltb}
use Rattle.std.proofs.lemmas.List.Sorted.{Contains-permutation, IsPermutation-sym}
use Rattle.std.specs.List.{AllByRecursion, Contains}
use Rattle.std.specs.List.Sorted.{IsPermutation}
use Rattle.std.specs.Ordering.{ordering_then}
use Rattle.rg_base.specs.declared.place.Place.{Place}
use Rattle.rg_base.specs.declared.row.Row.{Row}
use Rattle.rg_base.proofs.Small.{nat_itself}
use Rattle.rg_model.specs.Packed.{clustered_rows, is_row_before, put_row}
use Rattle.rg_reload.specs.Moved.{rows_in}
use Rattle.rg_reload.specs.Order.{HaveOtherKeys, IsInOrder, order_cmp, order_key}

-- the test of two rows

abbrev pub Before : Row → Row → Type 0
Before a b = (a.clus < b.clus) ⊎ ((a.clus ≡ b.clus) × (a.key < b.key))

told : (a b : Row) → is_row_before a b ≡ true → Before a b
told a b e = go (nat_lt a.clus b.clus) refl (a.clus == b.clus) refl (nat_lt a.key b.key) refl e
  where
    go : (x : Bool) → nat_lt a.clus b.clus ≡ x → (y : Bool) → (a.clus == b.clus) ≡ y → (z : Bool)
        → nat_lt a.key b.key ≡ z
        → (x || (y && z)) ≡ true → (a.clus < b.clus) ⊎ ((a.clus ≡ b.clus) × (a.key < b.key))
    go true p y q z r f = inl (ltb-true a.clus b.clus p)
    go false p true q true r f = inr (eqb-true a.clus b.clus q, ltb-true a.key b.key r)
    go false p true q false r f = absurd (cc (f))
    go false p false q z r f = absurd (cc (f))

from_told : (a b : Row) → Before a b → is_row_before a b ≡ true
from_told a b (inl h) =
    ap (λ (x : Bool). x || (a.clus == b.clus && nat_lt a.key b.key)) (lt-ltb a.clus b.clus h)
from_told a b (inr h) = go (nat_lt a.clus b.clus) (a.clus == b.clus) (nat_lt a.key b.key)
    (ap (λ (n : ℕ). a.clus == n) (sym h.0) ∙ nat_itself a.clus) (lt-ltb a.key b.key h.1)
  where
    go : (x y z : Bool) → y ≡ true → z ≡ true → (x || (y && z)) ≡ true
    go true y z p q = refl
    go false true true p q = refl
    go false true false p q = q
    go false false z p q = absurd (cc (p))

later : (a b c : Row) → is_row_before a b ≡ true → is_row_before b c ≡ true
    → is_row_before a c ≡ true
later a b c p q = from_told a c (go (told a b p) (told b c q))
  where
    go : Before a b → Before b c → Before a c
    go (inl x) (inl y) = inl (omega (arith, x, y))
    go (inl x) (inr y) = inl (omega (arith, x, y.0))
    go (inr x) (inl y) = inl (omega (arith, x.0, y))
    go (inr x) (inr y) = inr (x.0 ∙ y.0, omega (arith, x.1, y.1))

never_both : (a b : Row) → is_row_before a b ≡ true → is_row_before b a ≡ true → ⊥
never_both a b p q = go (told a b p) (told b a q)
  where
    go : Before a b → Before b a → ⊥
    go (inl x) (inl y) = omega (arith, x, y)
    go (inl x) (inr y) = omega (arith, x, y.0)
    go (inr x) (inl y) = omega (arith, x.0, y)
    go (inr x) (inr y) = omega (arith, x.1, y.1)

-- of two rows with different keys one is before the other
other_way : (a b : Row) → is_row_before a b ≡ false → (b.key == a.key) ≡ false
    → is_row_before b a ≡ true
other_way a b e f = from_told b a
    (go (nat_lt a.clus b.clus) refl (a.clus == b.clus) refl (nat_lt a.key b.key) refl e)
  where
    go : (x : Bool) → nat_lt a.clus b.clus ≡ x → (y : Bool) → (a.clus == b.clus) ≡ y → (z : Bool)
        → nat_lt a.key b.key ≡ z
        → (x || (y && z)) ≡ false → Before b a
    go true p y q z r g = absurd (cc (g))
    go false p true q true r g = absurd (cc (g))
    go false p true q false r g = inr (
      sym (eqb-true a.clus b.clus q),
      omega (arith, ltb-false a.key b.key r, eqb-false b.key a.key f),
    )
    go false p false q z r g =
        inl (omega (arith, ltb-false a.clus b.clus p, eqb-false a.clus b.clus q))

-- lists in which each row is before all later ones

abbrev pub Rising : List Row → Type 0
Rising [] = Unit {0}
Rising (x ∷ xs) = AllByRecursion (λ (y : Row). is_row_before x y ≡ true) xs × Rising xs

all_later : (a b : Row) (rows : List Row) → is_row_before a b ≡ true
    → AllByRecursion (λ (y : Row). is_row_before b y ≡ true) rows
    → AllByRecursion (λ (y : Row). is_row_before a y ≡ true) rows
all_later a b [] e h = tt
all_later a b (x ∷ rows) e h = (later a b x e h.0, all_later a b rows e h.1)

-- rows in order rise

neighbours : (x y : Place × Row) → is_lt (order_cmp (order_key y) (order_key x)) ≡ false
    → (y.1.key == x.1.key) ≡ false
    → is_row_before x.1 y.1 ≡ true
neighbours x y e f =
    from_told x.1 y.1
    (go (nat_lt y.1.clus x.1.clus) refl (y.1.clus == x.1.clus) refl (nat_lt y.1.key x.1.key) refl
    (y.1.key == x.1.key) refl e)
  where
    go : (p : Bool) → nat_lt y.1.clus x.1.clus ≡ p → (q : Bool) → (y.1.clus == x.1.clus) ≡ q
        → (r : Bool) → nat_lt y.1.key x.1.key ≡ r → (s : Bool) → (y.1.key == x.1.key) ≡ s
        → is_lt (ordering_then (ordering_then
        (ordering_then (cond p Less (cond q Equal Greater)) (cond r Less (cond s Equal Greater)))
        (nat_cmp y.0.page x.0.page)) (nat_cmp y.0.slot x.0.slot)) ≡ false
        → Before x.1 y.1
    go true a q b r c s d g = absurd (cc (g))
    go false a true b true c s d g = absurd (cc (g))
    go false a true b false c s d g = inr (
      sym (eqb-true y.1.clus x.1.clus b),
      omega (arith, ltb-false y.1.key x.1.key c, eqb-false y.1.key x.1.key f),
    )
    go false a false b r c s d g =
        inl (omega (arith, ltb-false y.1.clus x.1.clus a, eqb-false y.1.clus x.1.clus b))

pub rest_in_order : (x : Place × Row) (rows : List (Place × Row)) → IsInOrder (x ∷ rows)
    → IsInOrder rows
rest_in_order x rows w = λ k d l h.
    let e : suc k + 1 ≡ suc (k + 1) = omega arith in
    subst
    (λ (n : ℕ). is_lt (order_cmp (order_key (get_or (x ∷ rows) n d)) (order_key (get_or rows k d)))
    ≡ false) e
    (w (suc k) d (omega arith) (omega (arith, h)))

rises : (rows : List (Place × Row)) → IsInOrder rows → HaveOtherKeys (rows_in rows)
    → Rising (rows_in rows)
rises [] w h = tt
rises (x ∷ []) w h = (tt, tt)
rises (x ∷ y ∷ rows) w h =
    let first : is_row_before x.1 y.1 ≡ true =
    neighbours x y (w 0 x (omega arith) (omega arith)) h.0.0 in
    let rest : Rising (rows_in (y ∷ rows)) = rises (y ∷ rows) (rest_in_order x (y ∷ rows) w) h.1 in
    ((first, all_later x.1 y.1 (rows_in rows) first rest.0), rest)

-- rows in clustering order rise

put_all : (P : Row → Type 0) (row : Row) (rows : List Row) → P row → AllByRecursion P rows
    → AllByRecursion P (put_row row rows)
put_all P row [] e h = (e, tt)
put_all P row (r ∷ rows) e h = go (is_row_before row r) (put_all P row rows e h.1)
  where
    go : (t : Bool) → AllByRecursion P (put_row row rows)
        → AllByRecursion P (if t then row ∷ r ∷ rows else r ∷ put_row row rows)
    go true k = (e, h)
    go false k = (h.0, k)

clustered_all : (P : Row → Type 0) (rows : List Row) → AllByRecursion P rows
    → AllByRecursion P (clustered_rows rows)
clustered_all P [] h = tt
clustered_all P (row ∷ rows) h = put_all P row (clustered_rows rows) h.0 (clustered_all P rows h.1)

put_rising : (row : Row) (rows : List Row)
    → AllByRecursion (λ (y : Row). (y.key == row.key) ≡ false) rows → Rising rows
    → Rising (put_row row rows)
put_rising row [] h w = (tt, tt)
put_rising row (r ∷ rows) h w = go (is_row_before row r) refl (put_rising row rows h.1 w.1)
  where
    go : (t : Bool) → is_row_before row r ≡ t → Rising (put_row row rows)
        → Rising (if t then row ∷ r ∷ rows else r ∷ put_row row rows)
    go true e k = ((e, all_later row r rows e w.0), w)
    go false e k =
        (put_all (λ (y : Row). is_row_before r y ≡ true) row rows (other_way row r e h.0) w.0, k)

clustered_rises : (rows : List Row) → HaveOtherKeys rows → Rising (clustered_rows rows)
clustered_rises [] h = tt
clustered_rises (row ∷ rows) h =
    put_rising row (clustered_rows rows)
    (clustered_all (λ (y : Row). (y.key == row.key) ≡ false) rows h.0) (clustered_rises rows h.1)

-- which rows a list has

abbrev pub Has : Row → List Row → Type 0
Has x [] = ⊥
Has x (y ∷ ys) = (x ≡ y) ⊎ Has x ys

pub all_has : (P : Row → Type 0) (x : Row) (xs : List Row) → AllByRecursion P xs → Has x xs → P x
all_has P x [] h k = absurd k
all_has P x (y ∷ ys) h (inl e) = subst P (sym e) h.0
all_has P x (y ∷ ys) h (inr k) = all_has P x ys h.1 k

put_has : (x row : Row) (rows : List Row) → Has x (put_row row rows) → (x ≡ row) ⊎ Has x rows
put_has x row [] k = k
put_has x row (r ∷ rows) k = go (is_row_before row r) k (put_has x row rows)
  where
    go : (t : Bool) → Has x (if t then row ∷ r ∷ rows else r ∷ put_row row rows)
        → (Has x (put_row row rows) → (x ≡ row) ⊎ Has x rows)
        → (x ≡ row) ⊎ ((x ≡ r) ⊎ Has x rows)
    go true k f = k
    go false (inl e) f = inr (inl e)
    go false (inr k) f = moved (f k)
      where
        moved : (x ≡ row) ⊎ Has x rows → (x ≡ row) ⊎ ((x ≡ r) ⊎ Has x rows)
        moved (inl e) = inl e
        moved (inr e) = inr (inr e)

has_put : (x row : Row) (rows : List Row) → (x ≡ row) ⊎ Has x rows → Has x (put_row row rows)
has_put x row [] k = k
has_put x row (r ∷ rows) k = go (is_row_before row r) k (has_put x row rows)
  where
    go : (t : Bool) → (x ≡ row) ⊎ ((x ≡ r) ⊎ Has x rows)
        → ((x ≡ row) ⊎ Has x rows → Has x (put_row row rows))
        → Has x (if t then row ∷ r ∷ rows else r ∷ put_row row rows)
    go true k f = k
    go false (inl e) f = inr (f (inl e))
    go false (inr (inl e)) f = inl e
    go false (inr (inr e)) f = inr (f (inr e))

clustered_has : (x : Row) (rows : List Row) → Has x (clustered_rows rows) → Has x rows
clustered_has x [] k = k
clustered_has x (row ∷ rows) k = go (put_has x row (clustered_rows rows) k) (clustered_has x rows)
  where
    go : (x ≡ row) ⊎ Has x (clustered_rows rows) → (Has x (clustered_rows rows) → Has x rows)
        → (x ≡ row) ⊎ Has x rows
    go (inl e) f = inl e
    go (inr e) f = inr (f e)

has_clustered : (x : Row) (rows : List Row) → Has x rows → Has x (clustered_rows rows)
has_clustered x [] k = k
has_clustered x (row ∷ rows) (inl e) = has_put x row (clustered_rows rows) (inl e)
has_clustered x (row ∷ rows) (inr e) =
    has_put x row (clustered_rows rows) (inr (has_clustered x rows e))

in_more : (x y : Row) (xs : List Row) → Contains xs x → Contains (y ∷ xs) x
in_more x y xs (k, l, e) = (suc k, omega (arith, l), e)

contained : (x : Row) (xs : List Row) → Has x xs → Contains xs x
contained x [] k = absurd k
contained x (y ∷ ys) (inl e) = (0, omega arith, sym e)
contained x (y ∷ ys) (inr k) = in_more x y ys (contained x ys k)

has : (x : Row) (xs : List Row) → Contains xs x → Has x xs
has x [] (k, l, e) = absurd (omega (arith, l))
has x (y ∷ ys) (zero, l, e) = inl (sym e)
has x (y ∷ ys) (suc k, l, e) = inr (has x ys (k, omega (arith, l), e))

-- lists that rise and have the same rows are the same

same_first : (a b : Row) (xs ys : List Row)
    → AllByRecursion (λ (y : Row). is_row_before a y ≡ true) xs
    → AllByRecursion (λ (y : Row). is_row_before b y ≡ true) ys → Has a (b ∷ ys) → Has b (a ∷ xs)
    → a ≡ b
same_first a b xs ys v w (inl e) g = e
same_first a b xs ys v w (inr f) (inl e) = sym e
same_first a b xs ys v w (inr f) (inr g) =
    absurd
    (never_both a b (all_has (λ (y : Row). is_row_before a y ≡ true) b xs v g)
    (all_has (λ (y : Row). is_row_before b y ≡ true) a ys w f))

same_rest : (a b x : Row) (xs ys : List Row)
    → AllByRecursion (λ (y : Row). is_row_before a y ≡ true) xs → a ≡ b → Has x xs → Has x (b ∷ ys)
    → Has x ys
same_rest a b x xs ys v e h (inr k) = k
same_rest a b x xs ys v e h (inl k) =
    let p : is_row_before a x ≡ true = all_has (λ (y : Row). is_row_before a y ≡ true) x xs v h in
    let q : is_row_before a a ≡ true =
    subst (λ (y : Row). is_row_before a y ≡ true) (k ∙ sym e) p in
    absurd (never_both a a q q)

pub same_rows : (xs ys : List Row) → Rising xs → Rising ys → ((x : Row) → Has x xs → Has x ys)
    → ((x : Row) → Has x ys → Has x xs) → xs ≡ ys
same_rows [] [] v w f g = refl
same_rows [] (b ∷ ys) v w f g = absurd (g b (inl refl))
same_rows (a ∷ xs) [] v w f g = absurd (f a (inl refl))
same_rows (a ∷ xs) (b ∷ ys) v w f g =
    let e : a ≡ b = same_first a b xs ys v.0 w.0 (f a (inl refl)) (g b (inl refl)) in
    let rest : xs ≡ ys = same_rows xs ys v.1 w.1
    (λ x h. same_rest a b x xs ys v.0 e h (f x (inr h)))
    (λ x h. same_rest b a x ys xs w.0 (sym e) h (g x (inr h))) in
    ap (λ (r : Row). r ∷ xs) e ∙ ap (λ (r : List Row). b ∷ r) rest

pub clustered_is : (rows : List (Place × Row)) (others : List Row) → IsInOrder rows
    → IsPermutation (rows_in rows) others
    → HaveOtherKeys (rows_in rows) → HaveOtherKeys others → rows_in rows ≡ clustered_rows others
clustered_is rows others order perm h k =
    same_rows (rows_in rows) (clustered_rows others) (rises rows order h) (clustered_rises others k)
    (λ x e. has_clustered x others
    (has x others
    (Contains-permutation (rows_in rows) others x perm (contained x (rows_in rows) e))))
    (λ x e. has x (rows_in rows)
    (Contains-permutation others (rows_in rows) x (IsPermutation-sym (rows_in rows) others perm)
    (contained x others (clustered_has x others e))))
