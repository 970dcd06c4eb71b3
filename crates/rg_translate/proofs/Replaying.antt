-- What the tests rest on: rows of copies, and more that is sent.
use Rattle.std.proofs.Common.{◌≡◌, ◌<◌, ℕ, ◌+◌, List, [], ◌∷◌, ◌++◌, Option, Some, None, is_some}
use Rattle.std.proofs.Common.{false, true, refl, sym, ◌∙◌, ap, append_assoc, get_or, length, take}
use Rattle.std.proofs.lemmas.List.{take_more}
use Rattle.rg_base.specs.declared.change.Change.{Change}
use Rattle.rg_base.specs.declared.place.Place.{Place}
use Rattle.rg_base.specs.declared.row.Row.{Row}
use Rattle.rg_feed.specs.Ends.{still_taken}
use Rattle.rg_feed.specs.Fold.Fold.{copied_rows, page_copies}
use Rattle.rg_feed.specs.declared.fold.item.Item.{Item}
use Rattle.rg_feed.specs.declared.fold.item.Item.TheVariants.{Begin, PageCopy, Booked}
use Rattle.rg_feed.specs.declared.fold.item.Item.TheVariants as items
use Rattle.rg_feed.proofs.FoldLemmas.Folds.{all-push}
use Rattle.rg_reload.specs.Reloading.{GoesOn, Reloading}
use Rattle.rg_reload.specs.declared.packer.Filled.{Filled}
use Rattle.rg_translate.specs.Laws.{AddsLater, IsLater}

-- where none were taken, none are

pub still-none : (more : List Item) → still_taken more 0 ≡ 0
still-none [] = refl
still-none (Begin o n ∷ more) = still-none more
still-none (PageCopy n at rows ∷ more) = still-none more
still-none (items.Change c ∷ more) = still-none more
still-none (Booked s ∷ more) = still-none more

-- rows of copies

pub copied_rows-append : (xs ys : List Item)
    → copied_rows (xs ++ ys) ≡ copied_rows xs ++ copied_rows ys
copied_rows-append [] ys = refl
copied_rows-append (Begin o n ∷ xs) ys = copied_rows-append xs ys
copied_rows-append (PageCopy n at rows ∷ xs) ys =
    ap (λ more. rows ++ more) (copied_rows-append xs ys)
    ∙ sym (append_assoc rows (copied_rows xs) (copied_rows ys))
copied_rows-append (items.Change c ∷ xs) ys = copied_rows-append xs ys
copied_rows-append (Booked s ∷ xs) ys = copied_rows-append xs ys

pub copied_rows-take : (feed : List Item) (i : ℕ) (item : Item) (before after : List (Place × Row))
    → i < length feed → item ≡ get_or feed i item
    → before ≡ copied_rows (take i feed) → after ≡ before ++ copied_rows (item ∷ [])
    → after ≡ copied_rows (take (i + 1) feed)
copied_rows-take feed i item before after within is so_far adds =
    adds ∙ ap (λ rows. rows ++ copied_rows (item ∷ [])) so_far
    ∙ sym (copied_rows-append (take i feed) (item ∷ []))
    ∙ ap (λ x. copied_rows (take i feed ++ x ∷ [])) is
    ∙ ap copied_rows (sym (take_more feed i item within))

pub copied_rows-copies : (feed : List Item) → copied_rows (page_copies feed) ≡ copied_rows feed
copied_rows-copies [] = refl
copied_rows-copies (Begin o n ∷ xs) = copied_rows-copies xs
copied_rows-copies (PageCopy n at rows ∷ xs) = ap (λ more. rows ++ more) (copied_rows-copies xs)
copied_rows-copies (items.Change c ∷ xs) = copied_rows-copies xs
copied_rows-copies (Booked s ∷ xs) = copied_rows-copies xs

-- more that is sent

append-nil : {A : Type 0} (xs : List A) → xs ≡ xs ++ []
append-nil [] = refl
append-nil (x ∷ xs) = ap (λ ys. x ∷ ys) (append-nil xs)

pub later_none : (feed : List Item) → AddsLater feed feed
later_none feed = record { more = []; items = append-nil feed; later = tt }

pub later_more : (start feed more : List Item) (change : Change) → AddsLater start feed
    → more ≡ feed ++ items.Change change ∷ [] → AddsLater start more
later_more start feed more change adds is = record {
  more = adds.more ++ items.Change change ∷ [];
  items = is ∙ ap (λ xs. xs ++ items.Change change ∷ []) adds.items
      ∙ append_assoc start adds.more (items.Change change ∷ []);
  later = all-push IsLater adds.more (items.Change change) adds.later tt;
}

-- a packer that goes on has the same rows, and is whole once nothing is left

pub rows_on : (p q : Reloading) (filled : Option Filled) → GoesOn p filled q → q.rows ≡ p.rows
rows_on p q None goes = ap (λ (r : Reloading). r.rows) goes.1
rows_on p q (Some filled) goes = ap (λ (r : Reloading). r.rows) goes.reloading

pub whole_on : (p q : Reloading) (filled : Option Filled) → GoesOn p filled q
    → is_some filled ≡ false → q.whole ≡ true
whole_on p q None goes none = ap (λ (r : Reloading). r.whole) goes.1
whole_on p q (Some filled) goes none = absurd (cc (none))
