-- Before any change is taken the rows are those of all copies, which are at different places.
use Rattle.std.proofs.Common.{◌≡◌, ◌==◌, ◌||◌, ℕ, zero, suc, Bool, true, false, List, [], ◌∷◌, ◌++◌}
use Rattle.std.proofs.Common.{Option, Some, None, refl, sym, ◌∙◌, ap, if◌then◌else◌, arith}
use Rattle.std.specs.List.{AllByRecursion, Contains}
use Rattle.std.proofs.lemmas.Bool.{eqb-true, or_parts}
use Rattle.rg_base.specs.declared.place.Place.{Place}
use Rattle.rg_base.specs.declared.position.Position.{Position}
use Rattle.rg_base.specs.declared.row.Row.{Row}
use Rattle.rg_base.proofs.Small.{nat_apart_turned}
use Rattle.rg_base.specs.Place.{same_place}
use Rattle.rg_feed.specs.Fold.Fold.{copied_rows, fold_from, fold_to, row_in, since_begin, up_to}
use Rattle.rg_feed.specs.Fold.Lawful.{AreApart, AreRowsOf, InOrder, Lawful}
use Rattle.rg_feed.specs.declared.fold.item.Item.{Item}
use Rattle.rg_feed.specs.declared.fold.item.Item.TheVariants.{Begin, PageCopy, Booked}
use Rattle.rg_feed.specs.declared.fold.item.Item.TheVariants as items
use Rattle.rg_feed.proofs.FoldLemmas.Taken.{has_copy, untouched}

abbrev or_row : Option Row → Option Row → Option Row
or_row None other = other
or_row (Some row) other = Some row

pub row_in-append : (place : Place) (xs ys : List (Place × Row))
    → row_in (xs ++ ys) place ≡ or_row (row_in xs place) (row_in ys place)
row_in-append place [] ys = refl
row_in-append place (x ∷ xs) ys = go (same_place x.0 place) (row_in-append place xs ys)
  where
    go : (b : Bool) → row_in (xs ++ ys) place ≡ or_row (row_in xs place) (row_in ys place)
        → (if b then Some x.1 else row_in (xs ++ ys) place)
        ≡ or_row (if b then Some x.1 else row_in xs place) (row_in ys place)
    go true rest = refl
    go false rest = rest

pub or_none : (row : Option Row) → or_row row None ≡ row
or_none None = refl
or_none (Some row) = refl

-- rows of one page are not on another

elsewhere : (page : ℕ) (rows : List (Place × Row)) (place : Place) → AreRowsOf page rows
    → (page == place.page) ≡ false → row_in rows place ≡ None
elsewhere page [] place of_page e = refl
elsewhere page (x ∷ xs) place of_page e =
    let off : (x.0.page == place.page) ≡ false = ap (λ n. n == place.page) of_page.0 ∙ e in
    rw off (elsewhere page xs place of_page.2 e)

-- no copy of the page comes later

copied_once : (page : ℕ) (at : Position) (rows : List (Place × Row)) (feed : List Item)
    → Lawful feed → AllByRecursion (InOrder (PageCopy page at rows)) feed
    → has_copy feed page ≡ false
copied_once page at rows [] lawful order = refl
copied_once page at rows (Begin o n ∷ xs) lawful order = absurd lawful.0
copied_once page at rows (PageCopy n b more ∷ xs) lawful order =
    rw (nat_apart_turned page n order.0) (copied_once page at rows xs lawful.2 order.1)
copied_once page at rows (items.Change c ∷ xs) lawful order =
    copied_once page at rows xs lawful.2 order.1
copied_once page at rows (Booked s ∷ xs) lawful order = copied_once page at rows xs lawful.2 order.1

not_copied : (place : Place) (feed : List Item) → Lawful feed → has_copy feed place.page ≡ false
    → row_in (copied_rows feed) place ≡ None
not_copied place [] lawful none = refl
not_copied place (Begin o n ∷ xs) lawful none = absurd lawful.0
not_copied place (PageCopy n at rows ∷ xs) lawful none =
    let parts = or_parts (n == place.page) (has_copy xs place.page) none in
    row_in-append place rows (copied_rows xs)
    ∙ ap (λ row. or_row row (row_in (copied_rows xs) place))
    (elsewhere n rows place lawful.0 parts.0)
    ∙ first_none (not_copied place xs lawful.2 parts.1)
  where
    first_none : {row : Option Row} → row ≡ None → or_row None row ≡ None
    first_none e = e
not_copied place (items.Change c ∷ xs) lawful none = not_copied place xs lawful.2 none
not_copied place (Booked s ∷ xs) lawful none = not_copied place xs lawful.2 none

loaded : (place : Place) (row : Option Row) (feed : List Item) → Lawful feed
    → fold_from place row (up_to feed 0)
    ≡ (if has_copy feed place.page then row_in (copied_rows feed) place else row)
loaded place row [] lawful = refl
loaded place row (Begin o n ∷ xs) lawful = absurd lawful.0
loaded place row (PageCopy n at rows ∷ xs) lawful =
    go (n == place.page) refl (loaded place row xs lawful.2)
  where
    go : (b : Bool) → (n == place.page) ≡ b
        → fold_from place row (up_to xs 0)
        ≡ (if has_copy xs place.page then row_in (copied_rows xs) place else row)
        → fold_from place (if b then row_in rows place else row) (up_to xs 0)
        ≡ (if b || has_copy xs place.page then row_in (rows ++ copied_rows xs) place else row)
    go true e rest =
        let none : has_copy xs place.page ≡ false = ap (has_copy xs) (sym (eqb-true n place.page e))
        ∙ copied_once n at rows xs lawful.2 lawful.1 in
        untouched place (row_in rows place) xs lawful.2 none ∙ sym (or_none (row_in rows place))
        ∙ ap (or_row (row_in rows place)) (sym (not_copied place xs lawful.2 none))
        ∙ sym (row_in-append place rows (copied_rows xs))
    go false e rest =
        let same : row_in (copied_rows xs) place ≡ row_in (rows ++ copied_rows xs) place = sym
        (row_in-append place rows (copied_rows xs)
        ∙ ap (λ r. or_row r (row_in (copied_rows xs) place)) (elsewhere n rows place lawful.0 e)) in
        rest ∙ ap (λ r. if has_copy xs place.page then r else row) same
loaded place row (items.Change c ∷ xs) lawful = loaded place row xs lawful.2
loaded place row (Booked s ∷ xs) lawful = loaded place row xs lawful.2

pub load : (feed : List Item) → Lawful (since_begin feed) → (place : Place)
    → fold_to feed 0 place ≡ row_in (copied_rows (since_begin feed)) place
load feed lawful place =
    loaded place None (since_begin feed) lawful ∙ go (has_copy (since_begin feed) place.page) refl
  where
    go : (b : Bool) → has_copy (since_begin feed) place.page ≡ b
        → (if b then row_in (copied_rows (since_begin feed)) place else None)
        ≡ row_in (copied_rows (since_begin feed)) place
    go true e = refl
    go false e = sym (not_copied place (since_begin feed) lawful e)

-- the rows of all copies are at different places

pub in_more : (x y : Place × Row) (xs : List (Place × Row)) → Contains xs x → Contains (y ∷ xs) x
in_more x y xs (k, within, is) = (suc k, omega (arith, within), is)

join_apart : (xs ys : List (Place × Row)) → AreApart xs → AreApart ys
    → ((x : Place × Row) → Contains xs x → row_in ys x.0 ≡ None) → AreApart (xs ++ ys)
join_apart [] ys a b off = b
join_apart (x ∷ xs) ys a b off = (
  row_in-append x.0 xs ys ∙ ap (λ row. or_row row (row_in ys x.0)) a.0
      ∙ off x (0, omega arith, refl),
  join_apart xs ys a.1 b (λ y in_xs. off y (in_more y x xs in_xs)),
)

pub page_apart : (page : ℕ) (rows : List (Place × Row)) → AreRowsOf page rows → AreApart rows
page_apart page [] of_page = tt
page_apart page (x ∷ xs) of_page = (of_page.1, page_apart page xs of_page.2)

on_page : (page : ℕ) (rows : List (Place × Row)) → AreRowsOf page rows → (x : Place × Row)
    → Contains rows x → x.0.page ≡ page
on_page page [] of_page x (k, within, is) = absurd (omega (arith, within))
on_page page (y ∷ ys) of_page x (zero, within, is) =
    ap (λ (z : Place × Row). z.0.page) (sym is) ∙ of_page.0
on_page page (y ∷ ys) of_page x (suc k, within, is) =
    on_page page ys of_page.2 x (k, omega (arith, within), is)

pub copies_apart : (feed : List Item) → Lawful feed → AreApart (copied_rows feed)
copies_apart [] lawful = tt
copies_apart (Begin o n ∷ xs) lawful = absurd lawful.0
copies_apart (PageCopy n at rows ∷ xs) lawful =
    join_apart rows (copied_rows xs) (page_apart n rows lawful.0) (copies_apart xs lawful.2)
    (λ x in_rows. not_copied x.0 xs lawful.2
    (ap (has_copy xs) (on_page n rows lawful.0 x in_rows)
    ∙ copied_once n at rows xs lawful.2 lawful.1))
copies_apart (items.Change c ∷ xs) lawful = copies_apart xs lawful.2
copies_apart (Booked s ∷ xs) lawful = copies_apart xs lawful.2
