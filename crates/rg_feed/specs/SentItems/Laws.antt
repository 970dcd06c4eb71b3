-- What is sent keeps what a desk keeps of the items.
--
-- 1. A utility starts: a Begin is sent. The table has no row on page 0, nor above its pages
--    (`StartIsSent`).
-- 2. A statement changes rows: its changes are sent, in their order (`MovesAreSent`).
-- 3. The next page is copied, with the rows that are there (`CopyIsSent`).
-- 4. An entry that changes no row needs nothing sent, where the stage has the same pages, and no
--    key becomes quiet (`EntryIsPassed`). Once the copies are switched nothing is asked of the rows
--    (`SwitchIsPassed`).
use Rattle.std.specs.Prelude.{◌≡◌, ◌≤◌, ◌<◌, ◌+◌, ◌++◌, ℕ, true, false, List, [], ◌∷◌, Option, Some}
use Rattle.std.specs.Prelude.{None, length}
use Rattle.std.specs.List.{AllByRecursion}
use Rattle.rg_base.specs.declared.change.Change.{Change}
use Rattle.rg_base.specs.declared.options.Options.{Options}
use Rattle.rg_base.specs.declared.place.Place.{Place}
use Rattle.rg_base.specs.declared.position.Position.{Position}
use Rattle.rg_base.specs.declared.row.Row.{Row}
use Rattle.rg_feed.specs.Fold.Fold.{row_in}
use Rattle.rg_feed.specs.Fold.Lawful.{AreRowsOf}
use Rattle.rg_feed.specs.declared.fold.item.Item.{Item}
use Rattle.rg_feed.specs.declared.fold.item.Item.TheVariants.{Begin, PageCopy}
use Rattle.rg_feed.specs.declared.fold.item.Stage.{Stage}
use Rattle.rg_model.specs.Quiet.{is_quiet}
use Rattle.rg_feed.specs.SentItems.Keeps.{AreAbove, IsLoud, KeepsFeed, MovesRows, Rows}
use Rattle.rg_feed.specs.SentItems.Keeps.{sent_changes}
use Rattle.rg_stmt.specs.declared.event.Entry.{Entry}

-- no key becomes quiet by the entry
abbrev pub NoneHushed : List Entry → Entry → Type 0
NoneHushed past entry =
    (key : ℕ) → is_quiet key (entry ∷ past) ≡ true → is_quiet key past ≡ true

abbrev pub StartIsSent : Type 0
StartIsSent =
    (rows : Rows) (past : List Entry) (old : Option Stage) (s : Stage) (changes last : ℕ)
    (options : Options) (feed : List Item)
    → KeepsFeed rows past old changes last feed → s.copied ≡ 0
    → ((place : Place) → place.page ≤ 0 → rows place ≡ None)
    → ((place : Place) → s.pages < place.page → rows place ≡ None)
    → (now : List Entry)
    → KeepsFeed rows now (Some s) 0 last (feed ++ Begin options s.pages ∷ [])

abbrev pub MovesAreSent : Type 0
MovesAreSent =
    (rows new : Rows) (past : List Entry) (entry : Entry) (stage : Option Stage)
    (changes last later : ℕ) (feed : List Item) (made : List Change)
    → KeepsFeed rows past stage changes last feed → MovesRows made rows new
    → AreAbove last later made → NoneHushed past entry
    → AllByRecursion (IsLoud (entry ∷ past)) made
    → KeepsFeed new (entry ∷ past) stage (changes + length made) later
    (feed ++ sent_changes made)

-- the stage after the copy of the next page
abbrev pub HasCopied : (old new : Stage) → Type 0
HasCopied old new =
    (new.pages ≡ old.pages) × (new.copied ≡ old.copied + 1) × (new.switched ≡ old.switched)

abbrev pub CopyIsSent : Type 0
CopyIsSent =
    (rows : Rows) (past : List Entry) (entry : Entry) (s t : Stage) (changes last : ℕ)
    (feed : List Item) (position : Position) (copied : List (Place × Row))
    → KeepsFeed rows past (Some s) changes last feed → s.switched ≡ false → HasCopied s t
    → position.0 ≡ last → AreRowsOf (s.copied + 1) copied
    → ((place : Place) → place.page ≡ s.copied + 1 → row_in copied place ≡ rows place)
    → NoneHushed past entry
    → KeepsFeed rows (entry ∷ past) (Some t) changes last
    (feed ++ PageCopy (s.copied + 1) position copied ∷ [])

-- a stage that has the same pages and copies, or none
abbrev pub HasSamePages : (old new : Option Stage) → Type 0
HasSamePages old None = Unit {0}
HasSamePages None (Some t) = ⊥
HasSamePages (Some s) (Some t) =
    (t.pages ≡ s.pages) × (t.copied ≡ s.copied) × (t.switched ≡ false → s.switched ≡ false)

abbrev pub EntryIsPassed : Type 0
EntryIsPassed =
    (rows new : Rows) (past : List Entry) (entry : Entry) (old stage : Option Stage)
    (changes last later : ℕ) (feed : List Item)
    → KeepsFeed rows past old changes last feed → HasSamePages old stage → last ≤ later
    → ((place : Place) → new place ≡ rows place) → NoneHushed past entry
    → KeepsFeed new (entry ∷ past) stage changes later feed

abbrev pub SwitchIsPassed : Type 0
SwitchIsPassed =
    (rows new : Rows) (past now : List Entry) (old : Option Stage) (s : Stage)
    (changes last later : ℕ) (feed : List Item)
    → KeepsFeed rows past old changes last feed → s.switched ≡ true → last ≤ later
    → KeepsFeed new now (Some s) changes later feed
