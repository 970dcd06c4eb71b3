-- Lists of items, one after another.
use Rattle.std.proofs.Common.{◌≡◌, List, [], ◌∷◌, ◌++◌, Option, None, refl, sym, ◌∙◌, ap}
use Rattle.std.specs.List.{AllByRecursion}
use Rattle.rg_base.specs.declared.place.Place.{Place}
use Rattle.rg_base.specs.declared.row.Row.{Row}
use Rattle.rg_feed.specs.Fold.Fold.{changes, fold_at, fold_from, page_copies, since, since_begin}
use Rattle.rg_feed.specs.Fold.Fold.{step_at}
use Rattle.rg_feed.specs.Fold.Lawful.{InOrder, IsWell, Lawful}
use Rattle.rg_feed.specs.declared.fold.item.Item.{Item}
use Rattle.rg_feed.specs.declared.fold.item.Item.TheVariants.{Begin, PageCopy, Booked}
use Rattle.rg_feed.specs.declared.fold.item.Item.TheVariants as items

pub fold_from-append : (place : Place) (row : Option Row) (xs ys : List Item)
    → fold_from place row (xs ++ ys) ≡ fold_from place (fold_from place row xs) ys
fold_from-append place row [] ys = refl
fold_from-append place row (x ∷ xs) ys = fold_from-append place (step_at place x row) xs ys

pub fold_at-push : (place : Place) (feed : List Item) (item : Item)
    → fold_at (feed ++ item ∷ []) place ≡ step_at place item (fold_at feed place)
fold_at-push place feed item = fold_from-append place None feed (item ∷ [])

pub since-append : (before xs ys : List Item) → since before (xs ++ ys) ≡ since (since before xs) ys
since-append before [] ys = refl
since-append before (Begin o n ∷ xs) ys = since-append [] xs ys
since-append before (PageCopy n at rows ∷ xs) ys =
    since-append (before ++ PageCopy n at rows ∷ []) xs ys
since-append before (items.Change c ∷ xs) ys = since-append (before ++ items.Change c ∷ []) xs ys
since-append before (Booked s ∷ xs) ys = since-append (before ++ Booked s ∷ []) xs ys

pub changes-append : (xs ys : List Item) → changes (xs ++ ys) ≡ changes xs ++ changes ys
changes-append [] ys = refl
changes-append (Begin o n ∷ xs) ys = changes-append xs ys
changes-append (PageCopy n at rows ∷ xs) ys = changes-append xs ys
changes-append (items.Change c ∷ xs) ys = ap (λ cs. c ∷ cs) (changes-append xs ys)
changes-append (Booked s ∷ xs) ys = changes-append xs ys

pub page_copies-append : (xs ys : List Item)
    → page_copies (xs ++ ys) ≡ page_copies xs ++ page_copies ys
page_copies-append [] ys = refl
page_copies-append (Begin o n ∷ xs) ys = page_copies-append xs ys
page_copies-append (PageCopy n at rows ∷ xs) ys =
    ap (λ copies. PageCopy n at rows ∷ copies) (page_copies-append xs ys)
page_copies-append (items.Change c ∷ xs) ys = page_copies-append xs ys
page_copies-append (Booked s ∷ xs) ys = page_copies-append xs ys

-- the fold is that of the items after the last Begin

folded : (place : Place) (before : List Item) (x : Item) (xs : List Item)
    → fold_from place (fold_at (before ++ x ∷ []) place) xs
    ≡ fold_at (since (before ++ x ∷ []) xs) place
    → fold_from place (step_at place x (fold_at before place)) xs
    ≡ fold_at (since (before ++ x ∷ []) xs) place
folded place before x xs rest =
    ap (λ (row : Option Row). fold_from place row xs) (sym (fold_at-push place before x)) ∙ rest

fold_at-since : (place : Place) (before feed : List Item)
    → fold_from place (fold_at before place) feed ≡ fold_at (since before feed) place
fold_at-since place before [] = refl
fold_at-since place before (Begin o n ∷ xs) = fold_at-since place [] xs
fold_at-since place before (PageCopy n at rows ∷ xs) = folded place before (PageCopy n at rows) xs
    (fold_at-since place (before ++ PageCopy n at rows ∷ []) xs)
fold_at-since place before (items.Change c ∷ xs) =
    folded place before (items.Change c) xs (fold_at-since place (before ++ items.Change c ∷ []) xs)
fold_at-since place before (Booked s ∷ xs) =
    folded place before (Booked s) xs (fold_at-since place (before ++ Booked s ∷ []) xs)

pub fold_at-since_begin : (place : Place) (feed : List Item)
    → fold_at feed place ≡ fold_at (since_begin feed) place
fold_at-since_begin place feed = fold_at-since place [] feed

-- one item more at the end

pub all-push : {A : Type 0} (P : A → Type 0) (xs : List A) (x : A) → AllByRecursion P xs → P x
    → AllByRecursion P (xs ++ x ∷ [])
all-push P [] x each here = (here, tt)
all-push P (y ∷ xs) x each here = (each.0, all-push P xs x each.1 here)

pub lawful-push : (feed : List Item) (item : Item) → Lawful feed → IsWell item
    → AllByRecursion (λ earlier. InOrder earlier item) feed → Lawful (feed ++ item ∷ [])
lawful-push [] item lawful well order = (well, tt, tt)
lawful-push (x ∷ xs) item lawful well order = (
  lawful.0,
  all-push (InOrder x) xs item lawful.1 order.0,
  lawful-push xs item lawful.2 well order.1,
)
