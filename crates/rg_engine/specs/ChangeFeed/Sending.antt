-- What a desk keeps of what it has sent, from entry to entry. `writes` are the writes of the open
-- unit of each session, by its number, and `past` are the entries, the newest first.
--
-- 1. The items stand to the rows as the stage asks, where the log has so many records.
-- 2. As many pages are copied among them as the stage says, and as many rows.
-- 3. The writes of each open unit are those that the entries count.
use Rattle.std.specs.Prelude.{◌≡◌, ◌<◌, ◌+◌, ◌++◌, ℕ, Bool, true, false, List, [], Option, Some}
use Rattle.std.specs.Prelude.{None, length}
use Rattle.std.specs.List.{AllByRecursion}
use Rattle.rg_base.specs.declared.change.Change.{Change}
use Rattle.rg_base.specs.declared.session.Session.{Session}
use Rattle.rg_feed.specs.Fold.Fold.{copied_rows, page_copies, since_begin}
use Rattle.rg_feed.specs.declared.fold.item.Item.{Item}
use Rattle.rg_feed.specs.declared.fold.item.Stage.{Stage}
use Rattle.rg_model.specs.Changes.{writes_after}
use Rattle.rg_feed.specs.SentItems.Keeps.{AreAbove, IsLoud, KeepsFeed, MovesRows, Rows}
use Rattle.rg_feed.specs.SentItems.Keeps.{sent_changes}
use Rattle.rg_stmt.specs.declared.event.Entry.{Entry}
use Rattle.rg_stmt.specs.declared.stmt.Reply.{Reply}
use Rattle.rg_stmt.specs.declared.stmt.Stmt.{Stmt}
use Rattle.rg_rules.specs.Tally.Changed.{ChangeCount, made_by, writes_at}

-- the copies of pages, and their rows, are as many as the utility that runs has counted
abbrev pub AreCopies : Option Stage → List Item → Type 0
AreCopies None feed = Unit {0}
AreCopies (Some s) feed =
    (length (page_copies (since_begin feed)) ≡ s.copied)
    × (length (copied_rows (since_begin feed)) ≡ s.unloaded)

pub record KeepsSent (rows : Rows) (writes : ℕ → ℕ) (past : List Entry) (stage : Option Stage)
    (count : ChangeCount) (records : ℕ) (feed : List Item) : Type 0 where
  pub units : (n : ℕ) → n < 256 → writes n ≡ writes_at count.writes n
  pub copies : AreCopies stage feed
  pub keeps : KeepsFeed rows past stage count.since records feed

-- what is sent of changes: them, while a utility runs
abbrev pub items_made : (runs : Bool) → List Change → List Item
items_made false made = []
items_made true made = sent_changes made

-- no more was sent than changes
abbrev pub AddsChanges : (old new : List Item) → Type 0
AddsChanges old new = (made : List Change) × (new ≡ old ++ sent_changes made)

-- A statement has made these changes, one after the other. No key of theirs is quiet from then on,
-- where `past` has the statement's entry.
pub record HasMoved (rows new : Rows) (writes later : ℕ → ℕ) (past : List Entry)
    (records more : ℕ) (session : Session) (stmt : Stmt) (reply : Reply) (made : List Change)
    : Type 0 where
  pub moves : MovesRows made rows new
  pub above : AreAbove records more made
  pub loud : AllByRecursion (IsLoud past) made
  pub counted : length made ≡ made_by stmt reply (writes session.0)
  pub own : later session.0 ≡ writes_after stmt reply (writes session.0)
  pub others : (n : ℕ) → (n ≡ session.0 → ⊥) → later n ≡ writes n

-- the stage has the same pages, copies and rows of them, or there is none
abbrev pub SameCopies : (old new : Option Stage) → Type 0
SameCopies old None = Unit {0}
SameCopies None (Some t) = ⊥
SameCopies (Some s) (Some t) =
    (t.pages ≡ s.pages) × (t.copied ≡ s.copied) × (t.unloaded ≡ s.unloaded)
    × (t.switched ≡ false → s.switched ≡ false)

-- one page more is copied, which has so many rows
abbrev pub CopiesOne : (rows : ℕ) → (old new : Stage) → Type 0
CopiesOne rows s t =
    (t.pages ≡ s.pages) × (t.copied ≡ s.copied + 1) × (t.unloaded ≡ s.unloaded + rows)
    × (t.switched ≡ s.switched)
