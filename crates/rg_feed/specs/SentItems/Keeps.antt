-- What a desk keeps of the items that it has sent.
--
-- 1. They are lawful and in order, and none is above the log's last record.
-- 2. While a utility runs that has not switched, they lead to the rows of the table: at each place
--    of a page that was copied, and of one that the table did not have at the start. No change
--    names a place whose row has a quiet key.
-- 3. The rows may be changed at several places, one after the other. A change has the key of its
--    row, or of the row that it takes away.
use Rattle.std.specs.Prelude.{◌≡◌, ◌<◌, ◌≤◌, ℕ, false, List, [], ◌∷◌, Option, Some, None}
use Rattle.rg_base.specs.declared.change.Change.{Change}
use Rattle.rg_base.specs.declared.place.Place.{Place}
use Rattle.rg_base.specs.declared.row.Row.{Row}
use Rattle.rg_feed.specs.Fold.Fed.{Fed, Ordered, SetsRow}
use Rattle.rg_feed.specs.declared.fold.item.Item.{Item}
use Rattle.rg_feed.specs.declared.fold.item.Item.TheVariants as items
use Rattle.rg_feed.specs.declared.fold.item.Stage.{Stage}
use Rattle.rg_model.specs.Quiet.{is_quiet}
use Rattle.rg_stmt.specs.declared.event.Entry.{Entry}

-- the rows of a table
abbrev pub Rows : Type 0
Rows = Place → Option Row

-- What the items lead to, after these entries (the newest first), for this stage and so many
-- changes since the start, where so many pages were copied.
abbrev pub LeadTo :
    Rows → List Entry → Option Stage → (changes copied : ℕ) → List Item → Type 0
LeadTo rows past None changes copied feed = Unit {0}
LeadTo rows past (Some s) changes copied feed =
    s.switched ≡ false
    → (copied ≡ s.copied)
    × Fed rows (λ key. is_quiet key past)
    (record { pages = s.pages; copied = s.copied; changes = changes }) feed

pub record KeepsFeed (rows : Rows) (past : List Entry) (stage : Option Stage)
    (changes last : ℕ) (feed : List Item) : Type 0 where
  pub copied : ℕ
  pub ordered : Ordered last copied feed
  pub leads : LeadTo rows past stage changes copied feed

-- the rows are changed so, one place after the other
abbrev pub MovesRows : List Change → Rows → Rows → Type 0
MovesRows [] old new = (place : Place) → new place ≡ old place
MovesRows (change ∷ changes) old new =
    (mid : Rows) × SetsRow old mid change.home change.after × MovesRows changes mid new

-- each at a position above those before, from the log's last record on up to this one
abbrev pub AreAbove : (last later : ℕ) → List Change → Type 0
AreAbove last later [] = last ≤ later
AreAbove last later (change ∷ changes) =
    (last < change.position.0) × AreAbove change.position.0 later changes

-- the key of a change, which is not quiet
abbrev pub IsLoud : List Entry → Change → Type 0
IsLoud past change =
    (key : ℕ) × ((row : Row) → change.after ≡ Some row → row.key ≡ key)
    × (is_quiet key past ≡ false)

-- what is sent of changes
abbrev pub sent_changes : List Change → List Item
sent_changes [] = []
sent_changes (change ∷ changes) = items.Change change ∷ sent_changes changes
