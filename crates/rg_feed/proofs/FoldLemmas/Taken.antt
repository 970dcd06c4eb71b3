-- One change more does what it says, unless it is passed over.
use Rattle.std.proofs.Common.{◌≡◌, ◌==◌, ◌&&◌, ◌||◌, ℕ, ◌<◌, ◌≤◌, zero, suc, Bool, true, false}
use Rattle.std.proofs.Common.{List, [], ◌∷◌, Option, None, refl, sym, ◌∙◌, ap, subst, if◌then◌else◌}
use Rattle.std.proofs.Common.{arith, drop, length, nat_le}
use Rattle.std.specs.List.{AllByRecursion}
use Rattle.std.proofs.lemmas.Bool.{and_right, le-leb, lt-leb, or_parts}
use Rattle.rg_base.specs.declared.change.Change.{Change}
use Rattle.rg_base.specs.declared.place.Place.{Place}
use Rattle.rg_base.specs.declared.position.Position.{Position}
use Rattle.rg_base.specs.declared.row.Row.{Row}
use Rattle.rg_base.specs.Place.{same_place}
use Rattle.rg_base.proofs.SamePlace.{same_place-true}
use Rattle.rg_base.proofs.Each.{Each-drop}
use Rattle.rg_feed.specs.Fold.Last.{changed_at}
use Rattle.rg_feed.specs.Fold.Fold.{changes, fold_at, fold_from, fold_to, row_in, since_begin}
use Rattle.rg_feed.specs.Fold.Fold.{up_to}
use Rattle.rg_feed.specs.Fold.Lawful.{InOrder, Lawful, passes_over, taken_at}
use Rattle.rg_feed.specs.declared.fold.item.Item.{Item}
use Rattle.rg_feed.specs.declared.fold.item.Item.TheVariants.{Begin, PageCopy, Booked}
use Rattle.rg_feed.specs.declared.fold.item.Item.TheVariants as items
use Rattle.rg_feed.proofs.FoldLemmas.Folds.{fold_at-since_begin}
use Rattle.rg_feed.proofs.FoldLemmas.Places.{either_way}

-- a copy of this page is among the items
abbrev pub has_copy : List Item → ℕ → Bool
has_copy [] page = false
has_copy (PageCopy n at rows ∷ feed) page = n == page || has_copy feed page
has_copy (item ∷ feed) page = has_copy feed page

-- the copies alone leave a place of another page as it is

pub untouched : (place : Place) (row : Option Row) (feed : List Item) → Lawful feed
    → has_copy feed place.page ≡ false → fold_from place row (up_to feed 0) ≡ row
untouched place row [] lawful none = refl
untouched place row (Begin o n ∷ xs) lawful none = absurd lawful.0
untouched place row (PageCopy n at rows ∷ xs) lawful none =
    let parts = or_parts (n == place.page) (has_copy xs place.page) none in
    ap (λ (b : Bool). fold_from place (if b then row_in rows place else row) (up_to xs 0)) parts.0
    ∙ untouched place row xs lawful.2 parts.1
untouched place row (items.Change c ∷ xs) lawful none = untouched place row xs lawful.2 none
untouched place row (Booked s ∷ xs) lawful none = untouched place row xs lawful.2 none

-- where the page is copied, the row before does not matter

overridden : (place : Place) (a b : Option Row) (feed : List Item) → Lawful feed
    → has_copy feed place.page ≡ true
    → fold_from place a (up_to feed 0) ≡ fold_from place b (up_to feed 0)
overridden place a b [] lawful some = absurd (cc (some))
overridden place a b (Begin o n ∷ xs) lawful some = absurd lawful.0
overridden place a b (PageCopy n at rows ∷ xs) lawful some =
    go (n == place.page) (overridden place a b xs lawful.2) some
  where
    go : (here : Bool)
        → (has_copy xs place.page ≡ true
        → fold_from place a (up_to xs 0) ≡ fold_from place b (up_to xs 0))
        → (here || has_copy xs place.page) ≡ true
        → fold_from place (if here then row_in rows place else a) (up_to xs 0)
        ≡ fold_from place (if here then row_in rows place else b) (up_to xs 0)
    go true rest e = refl
    go false rest e = rest e
overridden place a b (items.Change c ∷ xs) lawful some = overridden place a b xs lawful.2 some
overridden place a b (Booked s ∷ xs) lawful some = overridden place a b xs lawful.2 some

-- of the items after a change, those that pass it over are the copies of its page

passed_later : (change : Change) (feed : List Item)
    → AllByRecursion (InOrder (items.Change change)) feed
    → passes_over feed change ≡ has_copy feed change.home.page
passed_later change [] order = refl
passed_later change (Begin o n ∷ xs) order = passed_later change xs order.1
passed_later change (PageCopy n at rows ∷ xs) order = rw (le-leb change.position.0 at.0 order.0)
    (go (n == change.home.page) (passed_later change xs order.1))
  where
    go : (b : Bool) {x y : Bool} → x ≡ y → ((b && true) || x) ≡ (b || y)
    go true e = refl
    go false e = e
passed_later change (items.Change c ∷ xs) order = passed_later change xs order.1
passed_later change (Booked s ∷ xs) order = passed_later change xs order.1

-- a change after a copy is above it

changes_above : (n : ℕ) (at : Position) (rows : List (Place × Row)) (feed : List Item)
    → AllByRecursion (InOrder (PageCopy n at rows)) feed
    → AllByRecursion (λ c. at.0 < c.position.0) (changes feed)
changes_above n at rows [] order = tt
changes_above n at rows (Begin o m ∷ xs) order = changes_above n at rows xs order.1
changes_above n at rows (PageCopy m a more ∷ xs) order = changes_above n at rows xs order.1
changes_above n at rows (items.Change c ∷ xs) order = (order.0, changes_above n at rows xs order.1)
changes_above n at rows (Booked s ∷ xs) order = changes_above n at rows xs order.1

k_above : (n : ℕ) (at : Position) (rows : List (Place × Row)) (feed : List Item) (k : ℕ)
    (change : Change) (rest : List Change) → AllByRecursion (InOrder (PageCopy n at rows)) feed
    → drop k (changes feed) ≡ change ∷ rest → at.0 < change.position.0
k_above n at rows feed k change rest order e =
    let P : Change → Type 0 = λ c. at.0 < c.position.0 in
    (subst (AllByRecursion P) e
    (Each-drop P k (changes feed) (changes_above n at rows feed order))).0

none_left : {A : Type 0} {x : A} {rest : List A} (k : ℕ) → drop k [] ≡ x ∷ rest → ⊥
none_left zero e = cc (e)
none_left (suc k) e = cc (e)

first_or : {A : Type 0} → A → List A → A
first_or d [] = d
first_or d (x ∷ xs) = x

same_first : {A : Type 0} {x y : A} {xs ys : List A} → x ∷ xs ≡ y ∷ ys → x ≡ y
unfolding first_or
same_first {x = x} e = ap (first_or x) e

-- the first change after none were taken

first_change : (place : Place) (row : Option Row) (change : Change) (feed : List Item) → Lawful feed
    → AllByRecursion (InOrder (items.Change change)) feed
    → fold_from place (changed_at place change row) (up_to feed 0)
    ≡ taken_at place feed change (fold_from place row (up_to feed 0))
first_change place row change feed lawful order =
    rw (passed_later change feed order) (go (same_place change.home place) refl)
  where
    here : (copied : Bool) → change.home ≡ place → has_copy feed change.home.page ≡ copied
        → fold_from place change.after (up_to feed 0)
        ≡ (if copied then fold_from place row (up_to feed 0) else change.after)
    here true is e = overridden place change.after row feed lawful
        (sym (ap (λ (p : Place). has_copy feed p.page) is) ∙ e)
    here false is e = untouched place change.after feed lawful
        (sym (ap (λ (p : Place). has_copy feed p.page) is) ∙ e)

    go : (b : Bool) → same_place change.home place ≡ b
        → fold_from place (if b then change.after else row) (up_to feed 0)
        ≡ (if has_copy feed change.home.page then fold_from place row (up_to feed 0)
        else (if b then change.after else fold_from place row (up_to feed 0)))
    go true e = here (has_copy feed change.home.page) (same_place-true change.home place e) refl
    go false e =
        sym (either_way (has_copy feed change.home.page) (fold_from place row (up_to feed 0)))

one_more : (place : Place) (k : ℕ) (change : Change) (rest : List Change) (row : Option Row)
    (feed : List Item) → Lawful feed → drop k (changes feed) ≡ change ∷ rest
    → fold_from place row (up_to feed (suc k))
    ≡ taken_at place feed change (fold_from place row (up_to feed k))
one_more place k change rest row [] lawful e = absurd (none_left k e)
one_more place k change rest row (Begin o n ∷ xs) lawful e = absurd lawful.0
one_more place k change rest row (PageCopy n at rows ∷ xs) lawful e =
    let off : (n == change.home.page && nat_le change.position.0 at.0) ≡ false =
    and_right _ _ (lt-leb change.position.0 at.0 (k_above n at rows xs k change rest lawful.1 e)) in
    rw off
    (one_more place k change rest (if n == place.page then row_in rows place else row) xs lawful.2
    e)
one_more place zero change rest row (items.Change c ∷ xs) lawful e =
    subst
    (λ (d : Change). fold_from place (changed_at place c row) (up_to xs 0)
    ≡ taken_at place xs d (fold_from place row (up_to xs 0))) (same_first e)
    (first_change place row c xs lawful.2 lawful.1)
one_more place (suc k) change rest row (items.Change c ∷ xs) lawful e =
    one_more place k change rest (changed_at place c row) xs lawful.2 e
one_more place k change rest row (Booked s ∷ xs) lawful e =
    one_more place k change rest row xs lawful.2 e

pub take_one : (feed : List Item) (k : ℕ) (change : Change) (rest : List Change)
    → Lawful (since_begin feed) → drop k (changes (since_begin feed)) ≡ change ∷ rest
    → (place : Place)
    → fold_to feed (suc k) place ≡ taken_at place (since_begin feed) change (fold_to feed k place)
take_one feed k change rest lawful e place =
    one_more place k change rest None (since_begin feed) lawful e

-- all changes

up_to-all : (feed : List Item) (k : ℕ) → length (changes feed) ≤ k → up_to feed k ≡ feed
up_to-all [] k enough = refl
up_to-all (Begin o n ∷ xs) k enough = ap (λ ys. Begin o n ∷ ys) (up_to-all xs k enough)
up_to-all (PageCopy n at rows ∷ xs) k enough =
    ap (λ ys. PageCopy n at rows ∷ ys) (up_to-all xs k enough)
up_to-all (items.Change c ∷ xs) zero enough = absurd (omega (arith, enough))
up_to-all (items.Change c ∷ xs) (suc k) enough =
    ap (λ ys. items.Change c ∷ ys) (up_to-all xs k (omega (arith, enough)))
up_to-all (Booked s ∷ xs) k enough = ap (λ ys. Booked s ∷ ys) (up_to-all xs k enough)

pub take_all : (feed : List Item) (k : ℕ) → length (changes (since_begin feed)) ≤ k
    → (place : Place) → fold_to feed k place ≡ fold_at feed place
take_all feed k enough place = ap (λ xs. fold_at xs place) (up_to-all (since_begin feed) k enough)
    ∙ sym (fold_at-since_begin place feed)
