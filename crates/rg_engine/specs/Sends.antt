-- What a desk sends.
--
-- 1. While the desk is up it keeps of the items that it has sent what they are to the utility: its
--    rows, its entries, the stage, the changes since the start, and its records.
-- 2. The rows that the writes of an open unit have found weigh no more than the entries count.
--    Until the copies are switched, a new copy may have to take no more than they have allowed.
use Rattle.std.specs.Prelude.{◌≡◌, ◌≤◌, ℕ, Bool, true, false, List, [], ◌∷◌, Option, Some, None}
use Rattle.std.specs.Prelude.{length, take}
use Rattle.rg_laws_utility.specs.ByteAccount.Account.{account_of, allowed_of}
use Rattle.rg_laws_utility.specs.ByteAccount.Found.{weigh_each}
use Rattle.rg_laws_utility.specs.ByteAccount.Reaching.{ReachesBy}
use Rattle.rg_base.specs.declared.place.Place.{Place}
use Rattle.rg_base.specs.declared.row.Row.{Row}
use Rattle.rg_feed.specs.Fold.Fold.{row_in}
use Rattle.rg_feed.specs.Fold.Lawful.{AreRowsOf}
use Rattle.rg_feed.specs.declared.fold.item.Item.{Item}
use Rattle.rg_feed.specs.declared.fold.item.Item.TheVariants.{Begin, PageCopy}
use Rattle.rg_feed.specs.declared.fold.item.Stage.{Stage}
use Rattle.rg_home.specs.Pages.{slot_of}
use Rattle.rg_home.specs.Rows.{row_at}
use Rattle.rg_home.specs.Slot.{Slot}
use Rattle.rg_laws_log.specs.LogState.Write.{Write}
use Rattle.rg_model.specs.State.{Table}
use Rattle.rg_record.specs.declared.record.Kind.{Kind}
use Rattle.rg_record.specs.declared.record.Kind.TheVariants as kind
use Rattle.rg_record.specs.declared.record.Record.{Record}
use Rattle.rg_engine.specs.ChangeFeed.Sending.{KeepsSent}
use Rattle.rg_stmt.specs.declared.event.Entry.{Entry}
use Rattle.rg_stmt.specs.declared.event.Event.{Event}
use Rattle.rg_stmt.specs.declared.event.Event.TheVariants.{Started}
use Rattle.rg_stmt.specs.declared.stmt.Reply.{Reply}
use Rattle.rg_stmt.specs.declared.stmt.Reply.TheVariants.{Done}
use Rattle.rg_rules.specs.Tally.Changed.{ChangeCount}
use Rattle.rg_model.specs.Run.{behind}
use Rattle.rg_engine.specs.Engine.{slots_in}
use Rattle.rg_engine.specs.Moves.{AreOwn, rows_before}
use Rattle.rg_engine.specs.Stored.{IsStored}
use Rattle.rg_engine.specs.Units.{unit_at, writes_in}
use Rattle.rg_engine.specs.declared.engine.Engine.{Engine}
use Rattle.rg_engine.specs.declared.origin.Origin.{Origin}
use Rattle.rg_engine.specs.declared.units.OpenUnit.{OpenUnit}

-- the statement was answered OK
abbrev pub is_ok : Reply → Bool
is_ok Done = true
is_ok reply = false

-- the row that a Change found, or none of another record
abbrev pub before_by : Kind → Option (Option Row)
before_by (kind.Change home before after parts) = Some before
before_by (kind.Undo next home after parts) = None
before_by kind.Commit = None
before_by kind.RolledBack = None
before_by (kind.Purge parts) = None
before_by (kind.Switch copy pages) = None

abbrev pub before_in : Record → Option (Option Row)
before_in entry = before_by entry.kind

-- what is sent of an event that starts a utility
abbrev pub begin_items : Event → List Item
begin_items (Started options copy pages) = Begin options pages ∷ []
begin_items event = []

-- what the writes of open units have found weighs no more than this, by the sessions' numbers
abbrev pub KeepsFound : List Record → List (Option OpenUnit) → (ℕ → ℕ) → Type 0
KeepsFound records units found =
    (n : ℕ) (ws : List Write) → AreOwn records (unit_at units n) ws
    → weigh_each (rows_before ws) ≤ found n

-- the same by the account of the entries, and so for what a new copy may have to take, from the
-- table that the first records store
abbrev pub KeepsAccount :
    Origin → List Record → List (Option OpenUnit) → List (List Slot) → List Entry
    → Option Stage → List Item → Type 0
KeepsAccount origin records units pages trace stage feed =
    (start : Table) → IsStored (take origin.records records) start
    → KeepsFound records units (account_of start trace).found
    × ReachesBy (row_at (slot_of pages)) stage (allowed_of start trace) feed

abbrev pub KeepsItems :
    Engine → Origin → List Entry → (down : Bool) → Option Stage → ChangeCount → List Item
    → Type 0
KeepsItems d origin trace down stage count feed =
    down ≡ false
    → KeepsSent (row_at (slot_of (slots_in d))) (λ n. writes_in (unit_at d.units n))
    (behind [] trace) stage count (length d.log.records) feed
    × KeepsAccount origin d.log.records d.units (slots_in d) trace stage feed

-- how many rows a copy has
abbrev pub rows_copied : Item → ℕ
rows_copied (PageCopy page position rows) = length rows
rows_copied item = 0

-- this is a copy of a page of the engine, with so many rows, as it is after the last record
pub record IsCopyOf (d : Engine) (page : ℕ) (item : Item) (count : ℕ) : Type 0 where
  pub copied : List (Place × Row)
  pub item_is :
      item ≡ PageCopy page (record { 0 = length d.log.records }) copied
  pub count_is : count ≡ length copied
  pub few : count ≤ 225
  pub of_page : AreRowsOf page copied
  pub rows :
      (place : Place) → place.page ≡ page
      → row_in copied place ≡ row_at (slot_of (slots_in d)) place
