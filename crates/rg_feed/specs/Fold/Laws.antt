-- What holds of every feed.
--
-- (1) The copies alone give the rows of all copies. Each change after that, in its turn, does to a
--     row what it says, unless it is passed over. When all are taken the rows are the fold.
-- (2) Changes may be taken in batches, and a batch may be replaced by other changes with the same
--     last change of each place. A place that no change names keeps its row.
-- (3) Rows of lawful copies are at different places, so their order does not matter.
-- (4) What the sender keeps of the items (Fed) is kept by each item that it may send. When all
--     pages are copied, the fold is the table.
use Rattle.std.specs.Prelude.{◌≡◌, ℕ, ◌+◌, ◌<◌, ◌≤◌, suc, Bool, true, List, [], ◌∷◌, ◌++◌, Option}
use Rattle.std.specs.Prelude.{Some, None, length, take, drop}
use Rattle.std.specs.List.Sorted.{IsPermutation}
use Rattle.rg_base.specs.declared.change.Change.{Change}
use Rattle.rg_base.specs.declared.options.Options.{Options}
use Rattle.rg_base.specs.declared.place.Place.{Place}
use Rattle.rg_base.specs.declared.position.Position.{Position}
use Rattle.rg_base.specs.declared.row.Row.{Row}
use Rattle.rg_feed.specs.Fold.Last.{last_at, applied_at}
use Rattle.rg_feed.specs.Fold.Fold.{row_in, fold_at, fold_to, since_begin, changes, copied_rows}
use Rattle.rg_feed.specs.Fold.Lawful.{AreApart, AreRowsOf, Lawful, kept, taken_at}
use Rattle.rg_feed.specs.Fold.Fed.{Fed, Ordered, Progress, SetsRow}
use Rattle.rg_feed.specs.declared.fold.item.Item.{Item}
use Rattle.rg_feed.specs.declared.fold.item.Item.TheVariants.{Begin, PageCopy, Booked}
use Rattle.rg_feed.specs.declared.fold.item.Item.TheVariants as items
use Rattle.rg_feed.specs.declared.fold.item.Stage.{Stage}

-- before any change is taken, the rows are those of all copies
abbrev pub CopiesLoad : Type 0
CopiesLoad = (feed : List Item) → Lawful (since_begin feed) → (place : Place)
    → fold_to feed 0 place ≡ row_in (copied_rows (since_begin feed)) place

-- one change more: it does what it says, unless it is passed over
abbrev pub OneIsTaken : Type 0
OneIsTaken = (feed : List Item) (k : ℕ) (change : Change) (rest : List Change)
    → Lawful (since_begin feed) → drop k (changes (since_begin feed)) ≡ change ∷ rest
    → (place : Place)
    → fold_to feed (suc k) place ≡ taken_at place (since_begin feed) change (fold_to feed k place)

-- after all changes the rows are the fold
abbrev pub AllAreTaken : Type 0
AllAreTaken = (feed : List Item) (k : ℕ) → length (changes (since_begin feed)) ≤ k
    → (place : Place) → fold_to feed k place ≡ fold_at feed place

-- n changes at once
abbrev pub BatchIsTaken : Type 0
BatchIsTaken = (feed : List Item) (n k : ℕ) (rest : List Change)
    → Lawful (since_begin feed) → drop k (changes (since_begin feed)) ≡ rest → n ≤ length rest
    → (place : Place)
    → fold_to feed (n + k) place
    ≡ applied_at place (kept (since_begin feed) (take n rest)) (fold_to feed k place)

-- a place that none of n changes names keeps its row
abbrev pub UnnamedStays : Type 0
UnnamedStays = (feed : List Item) (n k : ℕ) → Lawful (since_begin feed)
    → n ≤ length (drop k (changes (since_begin feed))) → (place : Place)
    → last_at place (take n (drop k (changes (since_begin feed)))) ≡ None
    → fold_to feed (n + k) place ≡ fold_to feed k place

-- the last change of a place decides which row is left there
abbrev pub LastDecides : Type 0
LastDecides = (xs ys : List Change) (place : Place) → last_at place xs ≡ last_at place ys
    → (row : Option Row) → applied_at place xs row ≡ applied_at place ys row

-- the rows of all copies are at different places
abbrev pub CopiesAreApart : Type 0
CopiesAreApart = (feed : List Item) → Lawful feed → AreApart (copied_rows feed)

-- in another order they are the same rows
abbrev pub OrderIsFree : Type 0
OrderIsFree = (rows sorted : List (Place × Row)) → IsPermutation rows sorted → AreApart rows
    → AreApart sorted × ((place : Place) → row_in sorted place ≡ row_in rows place)

-- a utility starts: the table has no row on page 0 nor above its pages
abbrev pub BeginIsFed : Type 0
BeginIsFed = (row_at : Place → Option Row) (is_quiet : ℕ → Bool) (last pages : ℕ)
    (options : Options) (feed : List Item)
    → ((place : Place) → place.page ≤ 0 → row_at place ≡ None)
    → ((place : Place) → pages < place.page → row_at place ≡ None)
    → Ordered last 0 (feed ++ Begin options pages ∷ [])
    × Fed row_at is_quiet (record { pages = pages; copied = 0; changes = 0 })
    (feed ++ Begin options pages ∷ [])

-- a row is written, or a write is undone, at a position above the last
abbrev pub ChangeIsOrdered : Type 0
ChangeIsOrdered = (last copied : ℕ) (feed : List Item) (change : Change)
    → Ordered last copied feed → last < change.position.0
    → Ordered change.position.0 copied (feed ++ items.Change change ∷ [])

-- If the change leaves a row, the row has this key, which is not quiet then. No key becomes quiet.
abbrev pub ChangeIsFed : Type 0
ChangeIsFed = (old new : Place → Option Row) (was_quiet is_quiet : ℕ → Bool)
    (progress : Progress) (feed : List Item) (change : Change) (key : ℕ)
    → Fed old was_quiet progress feed → SetsRow old new change.home change.after
    → ((row : Row) → change.after ≡ Some row → row.key ≡ key)
    → ((k : ℕ) → is_quiet k ≡ true → (was_quiet k ≡ true) × (k ≡ key → ⊥))
    → Fed new is_quiet (record progress { changes = progress.changes + 1 })
    (feed ++ items.Change change ∷ [])

-- the next page is copied, with the rows that the table has there
abbrev pub CopyIsOrdered : Type 0
CopyIsOrdered = (last copied : ℕ) (feed : List Item) (position : Position)
    (rows : List (Place × Row))
    → Ordered last copied feed → position.0 ≡ last → AreRowsOf (copied + 1) rows
    → Ordered last (copied + 1) (feed ++ PageCopy (copied + 1) position rows ∷ [])

-- then the fold is the table on that page too
abbrev pub CopyIsFed : Type 0
CopyIsFed = (row_at : Place → Option Row) (is_quiet : ℕ → Bool) (progress : Progress)
    (feed : List Item) (position : Position) (rows : List (Place × Row))
    → Fed row_at is_quiet progress feed
    → ((place : Place) → place.page ≡ progress.copied + 1 → row_in rows place ≡ row_at place)
    → Fed row_at is_quiet (record progress { copied = progress.copied + 1 })
    (feed ++ PageCopy (progress.copied + 1) position rows ∷ [])

-- an entry of the utility
abbrev pub BookedIsFed : Type 0
BookedIsFed = (last copied : ℕ) (row_at : Place → Option Row) (is_quiet : ℕ → Bool)
    (progress : Progress) (feed : List Item) (stage : Stage)
    → (Ordered last copied feed → Ordered last copied (feed ++ Booked stage ∷ []))
    × (Fed row_at is_quiet progress feed
    → Fed row_at is_quiet progress (feed ++ Booked stage ∷ []))

-- the log grows by a record that is no change
abbrev pub LaterIsOrdered : Type 0
LaterIsOrdered = (last later copied : ℕ) (feed : List Item) → Ordered last copied feed
    → last ≤ later → Ordered later copied feed

-- the same rows, and fewer keys that are quiet
abbrev pub SameIsFed : Type 0
SameIsFed = (old new : Place → Option Row) (was_quiet is_quiet : ℕ → Bool)
    (progress : Progress) (feed : List Item) → Fed old was_quiet progress feed
    → ((place : Place) → new place ≡ old place)
    → ((k : ℕ) → is_quiet k ≡ true → was_quiet k ≡ true)
    → Fed new is_quiet progress feed

-- once all pages are copied, the fold is the table
abbrev pub CopiedIsTable : Type 0
CopiedIsTable = (row_at : Place → Option Row) (is_quiet : ℕ → Bool) (progress : Progress)
    (feed : List Item) → Fed row_at is_quiet progress feed → progress.copied ≡ progress.pages
    → (place : Place) → fold_at feed place ≡ row_at place
