-- What a desk keeps of what it has sent is kept by each of its entries.
--
-- 1. After an opening nothing was sent (`OpeningBegins`).
-- 2. Of a statement its changes are sent, while a utility runs (`SaidIsKept`).
-- 3. Of the start of a utility a Begin is sent (`StartIsKept`), and of UNLOAD the copy of its page
--    (`CopyIsKept`).
-- 4. Of no other entry anything is sent (`EntryIsKept`, `SwitchIsKept`). A plain event that is
--    booked copies no page (`BookedCopiesNone`), and UNLOAD copies the next one (`UnloadCopies`).
use Rattle.std.specs.Prelude.{◌≡◌, ◌≤◌, ◌<◌, ◌+◌, ◌++◌, ℕ, true, false, List, [], ◌∷◌, Option, Some}
use Rattle.std.specs.Prelude.{None, is_some, length}
use Rattle.rg_base.specs.declared.change.Change.{Change}
use Rattle.rg_base.specs.declared.control.Answer.{Answer}
use Rattle.rg_base.specs.declared.options.Options.{Options}
use Rattle.rg_base.specs.declared.place.Place.{Place}
use Rattle.rg_base.specs.declared.position.Position.{Position}
use Rattle.rg_base.specs.declared.row.Row.{Row}
use Rattle.rg_base.specs.declared.session.Session.{Session}
use Rattle.rg_feed.specs.Fold.Fold.{row_in}
use Rattle.rg_feed.specs.Fold.Lawful.{AreRowsOf}
use Rattle.rg_feed.specs.declared.fold.item.Item.{Item}
use Rattle.rg_feed.specs.declared.fold.item.Item.TheVariants.{Begin, PageCopy}
use Rattle.rg_feed.specs.declared.fold.item.Stage.{Stage}
use Rattle.rg_model.specs.Utility.{starts_utility}
use Rattle.rg_model.specs.Turn.{Turn, turn_of}
use Rattle.rg_engine.specs.ChangeFeed.Sending.{CopiesOne, HasMoved, KeepsSent, SameCopies}
use Rattle.rg_engine.specs.ChangeFeed.Sending.{items_made}
use Rattle.rg_feed.specs.SentItems.Keeps.{Rows}
use Rattle.rg_rules.specs.Stage.Followed.{Followed}
use Rattle.rg_rules.specs.Stage.NumbersOf.{numbers_of}
use Rattle.rg_stmt.specs.Entries.{opened_entry, said_entry}
use Rattle.rg_stmt.specs.declared.event.Entry.{Entry}
use Rattle.rg_stmt.specs.declared.event.Event.{Event}
use Rattle.rg_stmt.specs.declared.event.Event.TheVariants.{Unload}
use Rattle.rg_stmt.specs.declared.stmt.Reply.{Reply}
use Rattle.rg_stmt.specs.declared.stmt.Stmt.{Stmt}
use Rattle.rg_rules.specs.Tally.Changed.{ChangeCount, IsCounted}
use Rattle.rg_laws_utility.specs.TraceStage.Tending.{is_booked, is_plain}

abbrev pub OpeningBegins : Type 0
OpeningBegins =
    (rows : Rows) (writes : ℕ → ℕ) (copy found pages used calls : ℕ) (count : ChangeCount)
    (records : ℕ)
    → ((n : ℕ) → writes n ≡ 0) → IsCounted (opened_entry copy found pages used calls ∷ []) count
    → KeepsSent rows writes (opened_entry copy found pages used calls ∷ []) None count records []

abbrev pub SaidIsKept : Type 0
SaidIsKept =
    (rows new : Rows) (writes later : ℕ → ℕ) (past : List Entry) (stage : Option Stage)
    (count counted : ChangeCount) (records more : ℕ) (feed : List Item) (session : Session)
    (stmt : Stmt) (reply : Reply) (calls : ℕ) (made : List Change)
    → KeepsSent rows writes past stage count records feed → IsCounted past count
    → IsCounted (said_entry session stmt reply calls ∷ past) counted → session.0 < 256
    → records ≤ more
    → HasMoved rows new writes later (said_entry session stmt reply calls ∷ past) records more
    session stmt reply made
    → KeepsSent new later (said_entry session stmt reply calls ∷ past) stage counted more
    (feed ++ items_made (is_some stage) made)

abbrev pub StartIsKept : Type 0
StartIsKept =
    (rows : Rows) (writes : ℕ → ℕ) (past now : List Entry) (old : Option Stage) (s : Stage)
    (count : ChangeCount) (records : ℕ) (options : Options) (feed : List Item)
    → KeepsSent rows writes past old count records feed → s.copied ≡ 0 → s.unloaded ≡ 0
    → ((place : Place) → place.page ≤ 0 → rows place ≡ None)
    → ((place : Place) → s.pages < place.page → rows place ≡ None)
    → KeepsSent rows writes now (Some s) (record count { since = 0 }) records
    (feed ++ Begin options s.pages ∷ [])

abbrev pub CopyIsKept : Type 0
CopyIsKept =
    (rows : Rows) (writes : ℕ → ℕ) (past : List Entry) (entry : Entry) (s t : Stage)
    (count : ChangeCount) (records : ℕ) (feed : List Item) (position : Position)
    (copied : List (Place × Row))
    → KeepsSent rows writes past (Some s) count records feed → s.switched ≡ false
    → CopiesOne (length copied) s t → position.0 ≡ records → AreRowsOf (s.copied + 1) copied
    → ((place : Place) → place.page ≡ s.copied + 1 → row_in copied place ≡ rows place)
    → starts_utility entry.event ≡ false
    → KeepsSent rows writes (entry ∷ past) (Some t) count records
    (feed ++ PageCopy (s.copied + 1) position copied ∷ [])

abbrev pub EntryIsKept : Type 0
EntryIsKept =
    (rows new : Rows) (writes later : ℕ → ℕ) (past : List Entry) (entry : Entry)
    (old stage : Option Stage) (count : ChangeCount) (records more : ℕ) (feed : List Item)
    → KeepsSent rows writes past old count records feed → SameCopies old stage
    → records ≤ more → ((place : Place) → new place ≡ rows place)
    → ((n : ℕ) → later n ≡ writes n) → starts_utility entry.event ≡ false
    → KeepsSent new later (entry ∷ past) stage count more feed

abbrev pub SwitchIsKept : Type 0
SwitchIsKept =
    (rows new : Rows) (writes later : ℕ → ℕ) (past now : List Entry) (old s : Stage)
    (count : ChangeCount) (records more : ℕ) (feed : List Item)
    → KeepsSent rows writes past (Some old) count records feed → s.switched ≡ true
    → s.copied ≡ old.copied → s.unloaded ≡ old.unloaded → records ≤ more
    → ((n : ℕ) → later n ≡ writes n) → KeepsSent new later now (Some s) count more feed

abbrev pub BookedCopiesNone : Type 0
BookedCopiesNone =
    (all : ℕ) (blocker : Option Session) (answer : Answer) (s : Stage) (event : Event)
    (turn : Turn) (next : Option Stage)
    → turn_of all blocker answer (numbers_of s) s.drain event ≡ Some turn
    → is_booked event ≡ true → is_plain (Some turn) ≡ true → Followed turn next
    → SameCopies (Some s) next

-- the utility has not switched, and goes on with one page more, which is the next
pub record CopiesNext (s : Stage) (page rows : ℕ) (next : Option Stage) : Type 0 where
  pub stage : Stage
  pub stage_is : next ≡ Some stage
  pub unswitched : s.switched ≡ false
  pub page_is : page ≡ s.copied + 1
  pub one : CopiesOne rows s stage

abbrev pub UnloadCopies : Type 0
UnloadCopies =
    (all : ℕ) (blocker : Option Session) (answer : Answer) (s : Stage) (page rows : ℕ)
    (turn : Turn) (next : Option Stage)
    → turn_of all blocker answer (numbers_of s) s.drain (Unload page rows) ≡ Some turn
    → Followed turn next → CopiesNext s page rows next
