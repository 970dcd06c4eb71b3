-- What the entries have allowed goes on with them.
--
-- 1. The state that entries lead to, and what they have allowed, go on by one entry: that of an
--    event that is allowed (`StateGoesOn`), and any entry's (`AccountGoesOn`).
-- 2. The rows that a session's writes have found weigh no more than is counted, if they did before
--    (`FoundGoesOn`). What is counted of other sessions stays (`FoundElsewhere`).
-- 3. A statement's changes keep the bound on what a new copy may have to take (`SaidReaches`), and
--    so does an entry that changes no row (`EntryReaches`). At the start of a utility it is what
--    the pages claim (`BeginReaches`).
-- 4. Once all pages are copied, what was sent weighs no more than the entries have allowed
--    (`FeedIsAllowed`).
use Rattle.std.specs.Prelude.{◌≡◌, ◌≤◌, ◌++◌, ℕ, Bool, true, false, List, [], ◌∷◌, Option, Some}
use Rattle.std.specs.Prelude.{is_some, length}
use Rattle.rg_base.specs.declared.change.Change.{Change}
use Rattle.rg_base.specs.declared.options.Options.{Options}
use Rattle.rg_base.specs.declared.place.Place.{Place}
use Rattle.rg_base.specs.declared.row.Row.{Row}
use Rattle.rg_laws_pages.specs.ByteClaims.Claim.{claimed_all}
use Rattle.rg_feed.specs.Fold.Fold.{since_begin}
use Rattle.rg_feed.specs.Fold.Lawful.{Lawful}
use Rattle.rg_feed.specs.declared.fold.item.Item.{Item}
use Rattle.rg_feed.specs.declared.fold.item.Item.TheVariants.{Begin}
use Rattle.rg_feed.specs.declared.fold.item.Stage.{Stage}
use Rattle.rg_home.specs.Able.{Proper}
use Rattle.rg_home.specs.Pages.{slot_of}
use Rattle.rg_home.specs.Rows.{row_at}
use Rattle.rg_home.specs.Slot.{Slot}
use Rattle.rg_model.specs.Run.{Allows}
use Rattle.rg_model.specs.State.{State, row_of}
use Rattle.rg_laws_utility.specs.CopyWeight.Reach.{Reaches}
use Rattle.rg_laws_utility.specs.CopyWeight.Weighed.{weigh_changes, weigh_feed}
use Rattle.rg_feed.specs.SentItems.Keeps.{MovesRows, Rows, sent_changes}
use Rattle.rg_stmt.specs.declared.event.Entry.{Entry}
use Rattle.rg_stmt.specs.declared.event.Event.{Event}
use Rattle.rg_stmt.specs.declared.event.Event.TheVariants.{Opened}
use Rattle.rg_stmt.specs.declared.stmt.Reply.{Reply}
use Rattle.rg_stmt.specs.declared.stmt.Stmt.{Stmt}
use Rattle.rg_model.specs.Run.{behind}
use Rattle.rg_laws_utility.specs.ByteAccount.Account.{Account, account_after, account_by}
use Rattle.rg_laws_utility.specs.ByteAccount.Account.{account_said, state_by}
use Rattle.rg_laws_utility.specs.ByteAccount.Found.{rows_found, rows_made, weigh_each}
use Rattle.rg_laws_utility.specs.ByteAccount.Reaching.{ReachesBy}

abbrev pub opens : Event → Bool
opens (Opened copy rows pages used) = true
opens event = false

abbrev pub StateGoesOn : Type 0
StateGoesOn =
    (past : List Entry) (first mid new : State) (entries : List Entry) (entry : Entry)
    → state_by past first entries ≡ mid → opens entry.event ≡ false
    → Allows (behind past entries) entry.answer entry.actor entry.event mid new
    → state_by past first (entries ++ entry ∷ []) ≡ new

abbrev pub AccountGoesOn : Type 0
AccountGoesOn =
    (past : List Entry) (first : State) (a : Account) (entries : List Entry) (entry : Entry)
    → account_by past first a (entries ++ entry ∷ [])
    ≡ account_after (state_by past first entries) (account_by past first a entries) entry.actor
    entry.event

abbrev pub FoundGoesOn : Type 0
FoundGoesOn =
    (st : State) (a : Account) (session : ℕ) (stmt : Stmt) (reply : Reply)
    (found : List (Option Row)) → weigh_each found ≤ a.found session
    → weigh_each (rows_found (row_of st.table) stmt reply found)
    ≤ (account_said st a session stmt reply).found session

abbrev pub FoundElsewhere : Type 0
FoundElsewhere =
    (st : State) (a : Account) (session n : ℕ) (stmt : Stmt) (reply : Reply) → (n ≡ session → ⊥)
    → (account_said st a session stmt reply).found n ≡ a.found n

abbrev pub SaidReaches : Type 0
SaidReaches =
    (rows new : Rows) (pages copied : ℕ) (feed : List Item) (made : List Change) (st : State)
    (a : Account) (session : ℕ) (stmt : Stmt) (reply : Reply) (found : List (Option Row))
    → Reaches rows pages copied a.allowed feed → MovesRows made rows new
    → is_some st.utility ≡ true
    → weigh_changes made ≤ weigh_each (rows_made stmt reply found)
    → weigh_each found ≤ a.found session
    → Reaches new pages copied (account_said st a session stmt reply).allowed
    (feed ++ sent_changes made)

abbrev pub EntryReaches : Type 0
EntryReaches =
    (rows new : Rows) (s t : Stage) (most : ℕ) (feed : List Item)
    → ReachesBy rows (Some s) most feed
    → t.pages ≡ s.pages → t.copied ≡ s.copied → (t.switched ≡ false → s.switched ≡ false)
    → ((place : Place) → new place ≡ rows place) → ReachesBy new (Some t) most feed

abbrev pub FeedIsAllowed : Type 0
FeedIsAllowed =
    (rows : Rows) (s : Stage) (most : ℕ) (feed : List Item) → ReachesBy rows (Some s) most feed
    → s.switched ≡ false → s.pages ≤ s.copied → Lawful (since_begin feed) → weigh_feed feed ≤ most

abbrev pub BeginReaches : Type 0
BeginReaches =
    (holds : ℕ → Bool) (pages : List (List Slot)) (most : ℕ) (options : Options)
    (feed : List Item) → Proper pages → claimed_all holds pages ≤ most
    → Reaches (row_at (slot_of pages)) (length pages) 0 most
    (feed ++ Begin options (length pages) ∷ [])
