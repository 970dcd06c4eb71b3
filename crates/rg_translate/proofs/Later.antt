-- What is received after all copies leaves the new copy caught up.
use Rattle.std.proofs.Common.{◌≡◌, ℕ, ◌≤◌, zero, suc, List, [], ◌∷◌, ◌++◌, Option, None, refl, sym}
use Rattle.std.proofs.Common.{◌∙◌, ap, append_assoc, arith, drop, length}
use Rattle.std.specs.List.{AllByRecursion}
use Rattle.std.specs.List.Sorted.{IsPermutation}
use Rattle.rg_base.specs.declared.place.Place.{Place}
use Rattle.rg_base.specs.declared.row.Row.{Row}
use Rattle.rg_feed.specs.Ends.{Grew, Received, still_taken}
use Rattle.rg_feed.specs.Fold.Fold.{changes, copied_rows, fold_from, fold_to, row_in, since}
use Rattle.rg_feed.specs.Fold.Fold.{since_begin, step_at, up_to}
use Rattle.rg_feed.specs.Fold.Lawful.{Lawful}
use Rattle.rg_feed.specs.declared.fold.item.Item.{Item}
use Rattle.rg_feed.specs.declared.fold.item.Item.TheVariants.{Begin, PageCopy, Booked}
use Rattle.rg_feed.specs.declared.fold.item.Item.TheVariants as items
use Rattle.rg_feed.proofs.FoldLemmas.Folds.{since-append}
use Rattle.rg_feed.proofs.FoldLemmas.Loaded.{copies_apart, load}
use Rattle.rg_feed.proofs.FoldLemmas.Permuted.{same_rows}
use Rattle.rg_shadow.specs.Shade.{Shade, source_rows}
use Rattle.rg_translate.specs.Backlog.{change_count}
use Rattle.rg_translate.specs.Caught.{Caught}
use Rattle.rg_translate.specs.Laws.{AddsLater, IsLater}

pub loaded : (shadow : Shade) (inlet : Received) (rows : List (Place × Row))
    → Lawful (since_begin inlet.items) → inlet.taken ≡ 0
    → IsPermutation (copied_rows (since_begin inlet.items)) rows
    → ((source : Place) → source_rows shadow source ≡ row_in rows source) → Caught shadow inlet
loaded shadow inlet rows lawful none permuted same place =
    let copied = copied_rows (since_begin inlet.items) in
    same place
    ∙ (same_rows copied rows permuted (copies_apart (since_begin inlet.items) lawful)).1 place
    ∙ sym (load inlet.items lawful place) ∙ ap (λ k. fold_to inlet.items k place) (sym none)

-- items that are no Begin stand behind those before

pub since-later : (before more : List Item) → AllByRecursion IsLater more
    → since before more ≡ before ++ more
since-later before [] later = append-nil before
  where
    append-nil : (xs : List Item) → xs ≡ xs ++ []
    append-nil [] = refl
    append-nil (x ∷ xs) = ap (λ ys. x ∷ ys) (append-nil xs)
since-later before (Begin o n ∷ more) later = absurd later.0
since-later before (PageCopy n at rows ∷ more) later = absurd later.0
since-later before (items.Change c ∷ more) later =
    since-later (before ++ items.Change c ∷ []) more later.1
    ∙ append_assoc before (items.Change c ∷ []) more
since-later before (Booked s ∷ more) later =
    since-later (before ++ Booked s ∷ []) more later.1 ∙ append_assoc before (Booked s ∷ []) more

-- without their changes they leave each row

pub none_done : (place : Place) (row : Option Row) (more : List Item) → AllByRecursion IsLater more
    → fold_from place row (up_to more 0) ≡ row
none_done place row [] later = refl
none_done place row (Begin o n ∷ more) later = absurd later.0
none_done place row (PageCopy n at rows ∷ more) later = absurd later.0
none_done place row (items.Change c ∷ more) later = none_done place row more later.1
none_done place row (Booked s ∷ more) later = none_done place row more later.1

pub same_so_far : (place : Place) (row : Option Row) (feed more : List Item) (k : ℕ)
    → k ≤ length (changes feed) → AllByRecursion IsLater more
    → fold_from place row (up_to (feed ++ more) k) ≡ fold_from place row (up_to feed k)
same_so_far place row [] more k few later =
    let none : k ≡ 0 = omega (arith, few) in
    ap (λ k. fold_from place row (up_to more k)) none ∙ none_done place row more later
same_so_far place row (Begin o n ∷ xs) more k few later = same_so_far place None xs more k few later
same_so_far place row (PageCopy n at rows ∷ xs) more k few later =
    same_so_far place (step_at place (PageCopy n at rows) row) xs more k few later
same_so_far place row (items.Change c ∷ xs) more zero few later =
    same_so_far place row xs more zero (omega arith) later
same_so_far place row (items.Change c ∷ xs) more (suc k) few later =
    same_so_far place (step_at place (items.Change c) row) xs more k (omega (arith, few)) later
same_so_far place row (Booked s ∷ xs) more k few later = same_so_far place row xs more k few later

still-later : (more : List Item) (taken : ℕ) → AllByRecursion IsLater more
    → still_taken more taken ≡ taken
still-later [] taken later = refl
still-later (Begin o n ∷ more) taken later = absurd later.0
still-later (PageCopy n at rows ∷ more) taken later = absurd later.0
still-later (items.Change c ∷ more) taken later = still-later more taken later.1
still-later (Booked s ∷ more) taken later = still-later more taken later.1

dropped : {A : Type 0} (xs ys : List A) → drop (length xs) (xs ++ ys) ≡ ys
dropped [] ys = refl
dropped (x ∷ xs) ys = dropped xs ys

same_end : {A : Type 0} (xs ys zs : List A) → xs ++ ys ≡ xs ++ zs → ys ≡ zs
same_end xs ys zs e = sym (dropped xs ys) ∙ ap (drop (length xs)) e ∙ dropped xs zs

pub more_caught : (shadow : Shade) (old new : Received) → Grew old new
    → AddsLater old.items new.items → old.taken ≤ change_count old → Caught shadow old
    → Caught shadow new
more_caught shadow old new grew adds few caught place =
    let more = adds.more in
    let items = adds.items in
    let later = adds.later in
    let same : grew.more ≡ more = same_end old.items grew.more more (sym grew.items ∙ items) in
    let taken : new.taken ≡ old.taken =
    grew.taken ∙ ap (λ xs. still_taken xs old.taken) same ∙ still-later more old.taken later in
    let since_is : since_begin new.items ≡ since_begin old.items ++ more = ap since_begin items
    ∙ since-append [] old.items more ∙ since-later (since_begin old.items) more later in
    caught place ∙ sym (ap (λ xs. fold_from place None (up_to xs new.taken)) since_is
    ∙ ap (λ k. fold_from place None (up_to (since_begin old.items ++ more) k)) taken
    ∙ same_so_far place None (since_begin old.items) more old.taken few later)
