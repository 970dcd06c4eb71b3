-- What a desk keeps of the items that it has sent is kept by each entry.
use Rattle.std.proofs.Common.{◌≡◌, ◌≤◌, ◌+◌, ◌++◌, ◌⊎◌, inl, inr, IfSome, ℕ, suc, zero, Bool, true}
use Rattle.std.proofs.Common.{false, List, [], ◌∷◌, Option, Some, None, is_some, length, drop, take}
use Rattle.std.proofs.Common.{refl, sym, ◌∙◌, ap, subst, arith, append-nil, length-append}
use Rattle.std.proofs.Math.Seq.{drop-append_seam}
use Rattle.std.specs.FinMap as fin
use Rattle.rg_laws_utility.specs.ByteAccount.Account.{Account, account_after, account_of}
use Rattle.rg_laws_utility.specs.ByteAccount.Account.{account_said, allowed_of, first_state}
use Rattle.rg_laws_utility.specs.ByteAccount.Account.{no_account, state_by}
use Rattle.rg_laws_utility.specs.ByteAccount.Found.{weigh_each}
use Rattle.rg_laws_utility.specs.ByteAccount.Reaching.{ReachesBy}
use Rattle.rg_laws_utility.proofs.ByteAccountLemmas.Accounts.{account_push, found_elsewhere}
use Rattle.rg_laws_utility.proofs.ByteAccountLemmas.Accounts.{found_goes}
use Rattle.rg_laws_utility.proofs.ByteAccountLemmas.Reached.{begin_reaches, entry_reaches}
use Rattle.rg_laws_utility.proofs.ByteAccountLemmas.Reached.{said_reaches}
use Rattle.rg_base.specs.Session.{IsSession}
use Rattle.rg_base.specs.declared.control.Answer.{Answer}
use Rattle.rg_base.specs.declared.control.Command.{Command}
use Rattle.rg_base.specs.declared.options.Options.{Options}
use Rattle.rg_base.specs.declared.place.Place.{Place}
use Rattle.rg_base.specs.declared.position.Position.{Position}
use Rattle.rg_base.specs.declared.row.Row.{Row}
use Rattle.rg_base.specs.declared.session.Session.{Session}
use Rattle.rg_base.specs.declared.change.Change.{Change}
use Rattle.rg_laws_utility.specs.RecordChanges.Changed.{changes_in, rows_after}
use Rattle.rg_laws_pages.specs.ByteClaims.Claim.{claimed_all, holding}
use Rattle.rg_laws_pages.specs.ByteClaims.Weight.{weight}
use Rattle.rg_feed.specs.Fold.Fold.{row_in}
use Rattle.rg_feed.specs.Fold.Lawful.{AreRowsOf}
use Rattle.rg_feed.specs.declared.fold.item.Item.{Item}
use Rattle.rg_feed.specs.declared.fold.item.Item.TheVariants.{Begin, PageCopy}
use Rattle.rg_feed.specs.declared.fold.item.Stage.{Stage}
use Rattle.rg_home.specs.Able.{Proper}
use Rattle.rg_home.specs.Pages.{page_at, slot_of}
use Rattle.rg_home.specs.Rows.{home_row, row_at}
use Rattle.rg_home.specs.Slot.{Slot}
use Rattle.rg_home.specs.Slot.{Free}
use Rattle.rg_home.specs.Slots.{slot_at}
use Rattle.rg_image.specs.Pack.{log_bytes}
use Rattle.rg_laws_log.proofs.LogStateLemmas.Parts.{page_past}
use Rattle.rg_home.proofs.Tables.{table_same}
use Rattle.rg_laws_log.specs.LogState.Act.{LogState}
use Rattle.rg_home.specs.Table.{IsTable}
use Rattle.rg_laws_log.specs.LogState.Write.{Write}
use Rattle.rg_log.specs.Kept.{Listed}
use Rattle.rg_model.specs.Utility.{starts_utility}
use Rattle.rg_laws_utility.proofs.QuietKeysLemmas.Louder.{quiet_in_run, said_loud}
use Rattle.rg_model.specs.State.{Locks, State, Table, Utility, row_count, row_of}
use Rattle.rg_laws_utility.proofs.CopyWeightLemmas.Bringing.{copy_reaches}
use Rattle.rg_laws_utility.specs.CopyWeight.Reach.{Reaches}
use Rattle.rg_laws_utility.specs.CopyWeight.Weighed.{weigh_changes}
use Rattle.rg_feed.specs.SentItems.Keeps.{Rows}
use Rattle.rg_model.specs.Turn.{Switches, alter, turn_of}
use Rattle.rg_page.specs.Content.{slots_of}
use Rattle.rg_page.specs.declared.list.ListFrames.{ListFrames}
use Rattle.rg_record.specs.declared.record.Record.{Record}
use Rattle.rg_engine.specs.ChangeFeed.Sending.{CopiesOne, KeepsSent, SameCopies, items_made}
use Rattle.rg_engine.proofs.ChangeFeedLemmas.Keeping.{copy_kept, entry_kept, opening_begins}
use Rattle.rg_engine.proofs.ChangeFeedLemmas.Keeping.{said_kept, start_kept, switch_kept}
use Rattle.rg_engine.proofs.ChangeFeedLemmas.Turning.{alter_copied, alter_unloaded}
use Rattle.rg_engine.proofs.ChangeFeedLemmas.Turning.{booked_copies_none, unload_copies}
use Rattle.rg_shadow.specs.Shade.{Shade}
use Rattle.rg_space.proofs.Whole.{slots_count}
use Rattle.rg_space.specs.Memory.{list_seen, space_pages}
use Rattle.rg_space.specs.Space.{frames_of}
use Rattle.rg_space.specs.declared.space.Space.{Space}
use Rattle.rg_rules.specs.Stage.Booked.{utility_kept}
use Rattle.rg_rules.specs.Stage.Bounded.{Bounded}
use Rattle.rg_rules.specs.Stage.Followed.{Followed}
use Rattle.rg_rules.specs.Stage.NumbersOf.{numbers_of}
use Rattle.rg_stmt.specs.Entries.{opened_entry, said_entry}
use Rattle.rg_stmt.specs.declared.event.Entry.{Entry}
use Rattle.rg_stmt.specs.declared.event.Event.{Event}
use Rattle.rg_stmt.specs.declared.event.Event.TheVariants as events
use Rattle.rg_stmt.specs.declared.layout.Sides.{Sides}
use Rattle.rg_stmt.specs.declared.stmt.Reply.{Reply}
use Rattle.rg_stmt.specs.declared.stmt.Stmt.{Stmt}
use Rattle.rg_laws_crash.specs.SwitchRecord.Switched.{switch_to}
use Rattle.rg_rules.specs.Tally.Changed.{ChangeCount, IsCounted, no_changes}
use Rattle.rg_laws_utility.specs.TraceStage.Tending.{IsRefusedEvent, IsSystem, NextBy, is_booked}
use Rattle.rg_laws_utility.specs.TraceStage.Tending.{is_plain}
use Rattle.rg_laws_utility.specs.TraceStage.Tending.{utility_entry, Tends}
use Rattle.rg_model.specs.Run.{behind}
use Rattle.rg_laws_utility.proofs.TraceStageLemmas.Keeping.{behind_push}
use Rattle.rg_laws_utility.proofs.TraceStageLemmas.Switching.{plain_turn}
use Rattle.rg_laws_utility.proofs.TraceStageLemmas.Tended.{tends_opened}
use Rattle.rg_engine.specs.Answers.{Replies}
use Rattle.rg_engine.specs.Aside.{PutsAside}
use Rattle.rg_desk.specs.Begun.{Begun}
use Rattle.rg_desk.specs.Chronicle.{ChronicleState}
use Rattle.rg_desk.specs.Desk.{CanFeed, DeskState, IsDesk}
use Rattle.rg_engine.specs.Utility.{started_count}
use Rattle.rg_engine.specs.Engine.{seen_in, slots_in}
use Rattle.rg_engine.specs.Moves.{AreOwn, Moves, rows_before}
use Rattle.rg_engine.specs.Sends.{IsCopyOf, KeepsAccount, KeepsFound, KeepsItems, begin_items}
use Rattle.rg_engine.specs.Shows.{Shows, left_by}
use Rattle.rg_engine.specs.Stored.{Grows, IsStored}
use Rattle.rg_engine.specs.Turned.{Turns}
use Rattle.rg_engine.specs.Units.{unit_at, writes_in}
use Rattle.rg_engine.specs.Utility.{IsNew, StartIs, StepsOn}
use Rattle.rg_outside.specs.Volume.{VolumeSeen}
use Rattle.rg_engine.specs.Wrote.{SameEngine}
use Rattle.rg_engine.specs.declared.engine.Engine.{Engine}
use Rattle.rg_engine.specs.declared.found.Found.{Found}
use Rattle.rg_engine.specs.declared.origin.Origin.{Origin}
use Rattle.rg_engine.specs.declared.units.OpenUnit.{OpenUnit}
use Rattle.rg_engine.proofs.Answering.{up_if}
use Rattle.rg_desk.proofs.DeskGoes.{account-push, old_same, same_table}
use Rattle.rg_desk.proofs.DeskUtility.{state_shows}
use Rattle.rg_engine.proofs.Keys.{same_or_not}
use Rattle.rg_engine.proofs.Readying.{own_writes}
use Rattle.rg_engine.proofs.Sessions.{left_consistent}

-- the engine has the same rows, records and units
pub record SameRows (d next : Engine) : Type 0 where
  pub slots : slots_in next ≡ slots_in d
  pub records : next.log.records ≡ d.log.records
  pub units : next.units ≡ d.units

pub same_rows : (d : Engine) → SameRows d d
same_rows d = record { slots = refl; records = refl; units = refl }

pub engine_rows : (d next : Engine) → SameEngine d next → SameRows d next
engine_rows d next same = record {
  slots = same.slots;
  records = ap (λ (l : Listed). l.records) same.log;
  units = same.units;
}

-- ---- what the entries have allowed

same_account : (d next : Engine) (origin : Origin) (trace : List Entry) (stage : Option Stage)
    (feed : List Item) → SameRows d next
    → KeepsAccount origin d.log.records d.units (slots_in d) trace stage feed
    → KeepsAccount origin next.log.records next.units (slots_in next) trace stage feed
same_account d next origin trace stage feed same keeps =
    subst
    (λ (ps : List (List Slot)). KeepsAccount origin next.log.records next.units ps trace stage feed)
    (sym same.slots)
    (subst (λ (rs : List Record). KeepsAccount origin rs next.units (slots_in d) trace stage feed)
    (sym same.records)
    (subst
    (λ (us : List (Option OpenUnit)). KeepsAccount origin d.log.records us (slots_in d) trace stage
    feed) (sym same.units) keeps))

reaches_on : (rows : Rows) (old new : Option Stage) (most : ℕ) (feed : List Item)
    → ReachesBy rows old most feed → SameCopies old new → ReachesBy rows new most feed
reaches_on rows old None most feed r copies = tt
reaches_on rows None (Some t) most feed r copies = absurd copies
reaches_on rows (Some s) (Some t) most feed r copies =
    entry_reaches rows rows s t most feed r copies.0 copies.1 copies.3 (λ place. refl)

-- an entry that allows nothing
still_allowed : (start : Table) (trace later : List Entry) (entry : Entry)
    → ((st : State) (a : Account) → account_after st a entry.actor entry.event ≡ a)
    → later ≡ trace ++ entry ∷ [] → account_of start later ≡ account_of start trace
still_allowed start trace later entry still is =
    ap (account_of start) is ∙ account_push [] (first_state start) no_account trace entry
    ∙ still (state_by [] (first_state start) trace) (account_of start trace)

account_on : (origin : Origin) (records : List Record) (units : List (Option OpenUnit))
    (pages : List (List Slot)) (trace later : List Entry) (entry : Entry) (old stage : Option Stage)
    (feed : List Item)
    → KeepsAccount origin records units pages trace old feed → SameCopies old stage
    → ((st : State) (a : Account) → account_after st a entry.actor entry.event ≡ a)
    → later ≡ trace ++ entry ∷ []
    → KeepsAccount origin records units pages later stage feed
account_on origin records units pages trace later entry old stage feed keeps copies still is =
    λ start stored.
    let had = keeps start stored in
    let same = still_allowed start trace later entry still is in (
      subst (λ (a : Account). KeepsFound records units a.found) (sym same) had.0,
      subst (λ (a : Account). ReachesBy (row_at (slot_of pages)) stage a.allowed feed) (sym same)
          (reaches_on (row_at (slot_of pages)) old stage (allowed_of start trace) feed had.1
          copies),
    )

-- ---- no entry

pub same_items : (d next : Engine) (origin : Origin) (trace : List Entry) (down : Bool)
    (stage : Option Stage) (count : ChangeCount) (feed : List Item)
    → SameRows d next → KeepsItems d origin trace down stage count feed
    → KeepsItems next origin trace down stage count feed
same_items d next origin trace down stage count feed same keeps = λ up. (
  subst
      (λ (ps : List (List Slot)). KeepsSent (row_at (slot_of ps))
      (λ n. writes_in (unit_at next.units n)) (behind [] trace) stage count
      (length next.log.records) feed) (sym same.slots) (subst
      (λ (rs : List Record). KeepsSent (row_at (slot_of (slots_in d)))
      (λ n. writes_in (unit_at next.units n)) (behind [] trace) stage count (length rs) feed)
      (sym same.records)
      (subst
      (λ (us : List (Option OpenUnit)). KeepsSent (row_at (slot_of (slots_in d)))
      (λ n. writes_in (unit_at us n)) (behind [] trace) stage count (length d.log.records) feed)
      (sym same.units) (keeps up).0)),
  same_account d next origin trace stage feed same (keeps up).1,
)

-- ---- an entry that sends nothing

pub passed : (d next : Engine) (origin : Origin) (trace : List Entry) (entry : Entry) (down : Bool)
    (old stage : Option Stage) (count : ChangeCount) (feed : List Item)
    → KeepsItems d origin trace down old count feed → (down ≡ false → SameRows d next)
    → SameCopies old stage
    → starts_utility entry.event ≡ false
    → ((st : State) (a : Account) → account_after st a entry.actor entry.event ≡ a)
    → (later : List Entry) → later ≡ trace ++ entry ∷ []
    → KeepsItems next origin later down stage count feed
passed d next origin trace entry down old stage count feed keeps same copies other still later is =
    λ up.
    let rows = same up in (
      subst
          (λ (es : List Entry). KeepsSent (row_at (slot_of (slots_in next)))
          (λ n. writes_in (unit_at next.units n)) es stage count (length next.log.records) feed)
          (sym (ap (behind []) is ∙ behind_push [] trace entry))
          (entry_kept (row_at (slot_of (slots_in d))) (row_at (slot_of (slots_in next)))
          (λ n. writes_in (unit_at d.units n)) (λ n. writes_in (unit_at next.units n))
          (behind [] trace) entry old stage count (length d.log.records) (length next.log.records)
          feed
          (keeps up).0 copies (omega (arith, ap (λ (rs : List Record). length rs) rows.records))
          (λ place. ap (λ (ps : List (List Slot)). row_at (slot_of ps) place) rows.slots)
          (λ n. ap (λ (us : List (Option OpenUnit)). writes_in (unit_at us n)) rows.units) other),
      same_account d next origin later stage feed rows
          (account_on origin d.log.records d.units (slots_in d) trace later entry old stage feed
          (keeps up).1 copies still is),
    )

pub stays_copied : (stage : Option Stage) → SameCopies stage stage
stays_copied None = tt
stays_copied (Some s) = (refl, refl, refl, λ unswitched. unswitched)

pub system_other : (event : Event) → IsSystem event → starts_utility event ≡ false
system_other (events.Layout shown side) is = refl
system_other events.LayoutNoMemory is = refl
system_other events.LayoutDown is = refl
system_other (events.Flush page) is = refl
system_other events.Clean is = refl
system_other events.FlushDevice is = refl
system_other events.FlushDown is = refl
system_other events.FlushNoMemory is = refl
system_other (events.Started options copy pages) is = absurd is
system_other event is = absurd is

-- ---- a statement

weigh_after : (changes : List Change) → weigh_changes changes ≡ weigh_each (rows_after changes)
weigh_after [] = refl
weigh_after (change ∷ changes) = ap (λ (n : ℕ). weight change.after + n) (weigh_after changes)

-- the rows by place and those by key are one table
shown_table : (st : State) (allowed : ℕ) (d : Engine) → Shows st allowed d
    → IsTable (row_at (slot_of (slots_in d))) (row_of st.table)
shown_table st allowed d shows =
    let left : LogState = left_by shows.first d in
    subst (λ (ps : List (List Slot)). IsTable (row_at (slot_of ps)) (row_of st.table))
    (sym shows.by.slots)
    (table_same (row_at (slot_of left.pages)) (row_at (slot_of left.pages)) left.now
    (row_of st.table) (λ q. refl) (λ k. shows.by.table k)
    (left_consistent st allowed d shows).table)

utility_some : (stage : Option Stage) (u : Option Utility) → u ≡ utility_kept stage
    → is_some u ≡ is_some stage
utility_some None u is = ap is_some is
utility_some (Some s) u is = ap is_some is

module _ (d : Engine) (c : ChronicleState) (origin : Origin) (copy : ℕ)
    (marks : List (Option Position)) (seen : VolumeSeen)
    (desk : IsDesk d c origin copy false marks seen) (session : Session) (stmt : Stmt)
    (reply : Reply) (next : Engine) (m : Moves d session stmt reply next) where
  abbrev noted : Account
  noted = account_of desk.start c.trace

  abbrev noted_after : Account
  noted_after = account_said desk.state (account_of desk.start c.trace) session.0 stmt reply

  said_found : KeepsFound d.log.records d.units noted.found
      → KeepsFound next.log.records next.units noted_after.found
  said_found had n vs mine = by (same_or_not n session.0)
    where
      by : (n ≡ session.0) ⊎ (n ≡ session.0 → ⊥) → weigh_each (rows_before vs) ≤ noted_after.found n
      by (inl e) =
          let own = subst (λ (k : ℕ). AreOwn next.log.records (unit_at next.units k) vs) e mine in
          let from = m.finds (row_of desk.state.table)
          (shown_table desk.state (allowed_of desk.start c.trace) d (desk.shown refl)) vs own in
          subst (λ (k : ℕ). weigh_each (rows_before vs) ≤ noted_after.found k) (sym e)
          (subst (λ (rows : List (Option Row)). weigh_each rows ≤ noted_after.found session.0)
          (sym from.2)
          (found_goes desk.state noted session.0 stmt reply (rows_before from.0)
          (had session.0 from.0 from.1)))
      by (inr apart) =
          let from = m.keeps n apart vs mine in
          omega (
            arith,
            had n from.0 from.1,
            ap weigh_each from.2,
            found_elsewhere desk.state noted session.0 n stmt reply apart,
          )

  said_reach : (stage : Option Stage) (feed : List Item)
      → is_some desk.state.utility ≡ is_some stage → KeepsFound d.log.records d.units noted.found
      → ReachesBy (row_at (slot_of (slots_in d))) stage noted.allowed feed
      → ReachesBy (row_at (slot_of (slots_in next))) stage noted_after.allowed
      (feed ++ items_made (is_some stage) (changes_in m.more))
  said_reach None feed runs had r = tt
  said_reach (Some s) feed runs had r = λ unswitched.
      let own = own_writes desk.state (allowed_of desk.start c.trace) d (desk.shown refl) session in
      said_reaches (row_at (slot_of (slots_in d))) (row_at (slot_of (slots_in next))) s.pages
      s.copied feed (changes_in m.more) desk.state noted session.0 stmt reply (rows_before own.0)
      (r unswitched) m.rows runs
      (omega (arith, weigh_after (changes_in m.more), ap weigh_each (m.told own.0 own.1)))
      (had session.0 own.0 own.1)

  said_account : (stage : Option Stage) (feed fed : List Item) (calls : ℕ) (later : List Entry)
      → is_some desk.state.utility ≡ is_some stage → Grows d.log next.log
      → later ≡ c.trace ++ said_entry session stmt reply calls ∷ []
      → fed ≡ feed ++ items_made (is_some stage) (changes_in m.more)
      → KeepsAccount origin d.log.records d.units (slots_in d) c.trace stage feed
      → KeepsAccount origin next.log.records next.units (slots_in next) later stage fed
  said_account stage feed fed calls later runs grows later_is fed_is keeps = λ start stored.
      let had = keeps desk.start desk.starts in
      let one = same_table (take origin.records d.log.records) desk.start start desk.starts
      (subst (λ (rs : List Record). IsStored rs start)
      (old_same d c origin copy false marks seen desk next grows) stored) in
      let account : account_of desk.start later ≡ noted_after = ap (account_of desk.start) later_is
      ∙ account-push desk.start c.trace desk.state (said_entry session stmt reply calls)
      desk.told in
      subst
      (λ (t : Table). KeepsFound next.log.records next.units (account_of t later).found
      × ReachesBy (row_at (slot_of (slots_in next))) stage (allowed_of t later) fed) one (
        subst (λ (a : Account). KeepsFound next.log.records next.units a.found) (sym account)
            (said_found had.0),
        subst
            (λ (xs : List Item). ReachesBy (row_at (slot_of (slots_in next))) stage
            (allowed_of desk.start later) xs) (sym fed_is)
            (subst
            (λ (a : Account). ReachesBy (row_at (slot_of (slots_in next))) stage a.allowed
            (feed ++ items_made (is_some stage) (changes_in m.more))) (sym account)
            (said_reach stage feed runs had.0 had.1)),
      )

pub said_items : (d : Engine) (c : ChronicleState) (origin : Origin) (copy : ℕ) (down : Bool)
    (marks : List (Option Position)) (seen : VolumeSeen)
    (desk : IsDesk d c origin copy down marks seen) (stage : Option Stage)
    (count counted : ChangeCount) (session : Session) (stmt : Stmt) (reply : Reply) (calls : ℕ)
    (next : Engine) (after : Bool) (seen_after : VolumeSeen) (feed fed : List Item)
    → IsSession session → Replies down d session stmt reply next after seen seen_after
    → KeepsItems d origin c.trace down stage count feed → Tends c.trace stage count d.set_aside
    → IsCounted (behind [] c.trace) count
    → IsCounted (said_entry session stmt reply calls ∷ behind [] c.trace) counted
    → (after ≡ false
    → fed
    ≡ feed
    ++ items_made (is_some stage) (changes_in (drop (length d.log.records) next.log.records)))
    → (later : List Entry) → later ≡ c.trace ++ said_entry session stmt reply calls ∷ []
    → KeepsItems next origin later after stage counted fed
said_items d c origin copy true marks seen desk stage count counted session stmt reply calls next
    after seen_after feed fed small replies keeps tends was is sent later later_is =
    λ up. absurd (cc (up, replies.2))
said_items d c origin copy false marks seen desk stage count counted session stmt reply calls next
    after seen_after feed fed small replies keeps tends was is sent later later_is = λ up.
    let shows = desk.shown refl in
    let answered = replies.0 desk.state (allowed_of desk.start c.trace) shows in
    let m : Moves d session stmt reply next =
    up_if (Moves d session stmt reply next) reply (sym replies.2 ∙ up) answered.moves in
    let past = behind [] c.trace in
    let free = (quiet_in_run desk.start origin.copy c.trace desk.state desk.run).1 in
    let loud = said_loud past (said_entry session stmt reply calls) desk.state session stmt reply
    refl refl free in
    let made = changes_in m.more in
    let more_is : drop (length d.log.records) next.log.records ≡ m.more =
    ap (drop (length d.log.records)) m.records ∙ drop-append_seam d.log.records m.more in
    let longer =
    ap (λ (rs : List Record). length rs) m.records ∙ length-append d.log.records m.more in
    let fed_is = sent up
    ∙ ap (λ (rs : List Record). feed ++ items_made (is_some stage) (changes_in rs)) more_is in
    let runs = utility_some stage desk.state.utility
    (state_shows d c origin copy false marks seen desk stage count tends).0 in (
      subst
          (λ (xs : List Item). KeepsSent (row_at (slot_of (slots_in next)))
          (λ n. writes_in (unit_at next.units n)) (behind [] later) stage counted
          (length next.log.records) xs)
          (sym fed_is) (subst
          (λ (es : List Entry). KeepsSent (row_at (slot_of (slots_in next)))
          (λ n. writes_in (unit_at next.units n)) es stage counted (length next.log.records)
          (feed ++ items_made (is_some stage) made))
          (sym
          (ap (behind []) later_is ∙ behind_push [] c.trace (said_entry session stmt reply calls)))
          (said_kept (row_at (slot_of (slots_in d))) (row_at (slot_of (slots_in next)))
          (λ n. writes_in (unit_at d.units n)) (λ n. writes_in (unit_at next.units n)) past stage
          count counted (length d.log.records) (length next.log.records) feed session stmt reply
          calls made
          (keeps refl).0 was is (omega (arith, small.most)) (omega (arith, longer))
          (record {
            moves = m.rows;
            above = m.above;
            loud = m.loud (said_entry session stmt reply calls ∷ past)
                (λ key lock has. loud.locked key lock
                (ap (λ (ls : Locks). fin.get ls key) shows.by.locks ∙ has)) loud.written;
            counted = m.counted;
            own = m.own;
            others = m.others;
          }))),
      said_account d c origin copy marks seen desk session stmt reply next m stage feed fed calls
          later runs answered.grows later_is fed_is (keeps refl).1,
    )

-- ---- a control statement

-- what is refused starts nothing, and sends nothing
refused_still : (event : Event) → IsRefusedEvent event
    → (starts_utility event ≡ false) × (begin_items event ≡ []) × (starts_utility event ≡ false)
refused_still events.Active is = (refl, refl, refl)
refused_still (events.StartLogFull need left) is = (refl, refl, refl)
refused_still events.StartDown is = (refl, refl, refl)
refused_still events.StartNoMemory is = (refl, refl, refl)
refused_still events.Idle is = (refl, refl, refl)
refused_still events.StepDown is = (refl, refl, refl)
refused_still (events.Started options copy pages) is = absurd is
refused_still event is = absurd is

-- a control statement or a step that is refused
pub refused_items : (d next : Engine) (origin : Origin) (trace : List Entry) (down : Bool)
    (stage later : Option Stage) (count : ChangeCount) (feed : List Item) (event : Event)
    (calls : ℕ) → KeepsItems d origin trace down stage count feed → next ≡ d → later ≡ stage
    → IsRefusedEvent event
    → (entries : List Entry) → entries ≡ trace ++ utility_entry event None calls ∷ []
    → KeepsItems next origin entries down later (started_count (starts_utility event) count)
    (feed ++ begin_items event)
refused_items d next origin trace down stage later count feed event calls keeps same still is
    entries entries_are =
    let none = refused_still event is in
    subst
    (λ (e : Engine). KeepsItems e origin entries down later
    (started_count (starts_utility event) count) (feed ++ begin_items event)) (sym same) (subst
    (λ (o : Option Stage). KeepsItems d origin entries down o
    (started_count (starts_utility event) count) (feed ++ begin_items event)) (sym still) (subst
    (λ (b : Bool). KeepsItems d origin entries down stage (started_count b count)
    (feed ++ begin_items event)) (sym none.0)
    (subst (λ (xs : List Item). KeepsItems d origin entries down stage count (feed ++ xs))
    (sym none.1) (subst (λ (xs : List Item). KeepsItems d origin entries down stage count xs)
    (sym (append-nil feed))
    (passed d d origin trace (utility_entry event None calls) down stage stage count feed keeps
    (λ up. same_rows d) (stays_copied stage) none.2 (λ st a. refl) entries entries_are)))))

none_at : (n : ℕ) → slot_at [] n ≡ Free
none_at zero = refl
none_at (suc n) = refl

row_none : (pages : List (List Slot)) (place : Place) → page_at pages place.page ≡ []
    → row_at (slot_of pages) place ≡ None
row_none pages place none =
    ap (λ (slots : List Slot). home_row (slot_of pages) (slot_at slots place.slot)) none
    ∙ ap (λ (s : Slot). home_row (slot_of pages) s) (none_at place.slot)

page_zero : (pages : List (List Slot)) (n : ℕ) → n ≤ 0 → page_at pages n ≡ []
page_zero pages zero low = refl
page_zero pages (suc n) low = absurd (omega (arith, low))

-- a new copy may have to take what the pages claim then
begun_account : (d : Engine) (c : ChronicleState) (origin : Origin) (copy : ℕ)
    (marks : List (Option Position)) (seen : VolumeSeen)
    (desk : IsDesk d c origin copy false marks seen) (old : Option Stage) (given : Options)
    (s : Stage) (event : Event) (calls : ℕ) (feed : List Item)
    → KeepsAccount origin d.log.records d.units (slots_in d) c.trace old feed
    → length (slots_in d) ≡ s.pages → s.copied ≡ 0 → (entries : List Entry)
    → entries ≡ c.trace ++ utility_entry event None calls ∷ []
    → KeepsAccount origin d.log.records d.units (slots_in d) entries (Some s)
    (feed ++ Begin given s.pages ∷ [])
begun_account d c origin copy marks seen desk old given s event calls feed keeps all none entries
    entries_are = λ start stored.
    let had = keeps start stored in
    let one = same_table (take origin.records d.log.records) desk.start start desk.starts stored in
    let shows = desk.shown refl in
    let left : LogState = left_by shows.first d in
    let same = still_allowed start c.trace entries (utility_entry event None calls) (λ st a. refl)
    entries_are in
    let allowed_is : allowed_of desk.start c.trace ≡ allowed_of start entries =
    ap (λ (t : Table). allowed_of t c.trace) one ∙ ap (λ (a : Account). a.allowed) (sym same) in
    let proper = subst Proper (sym shows.by.slots)
    (left_consistent desk.state (allowed_of desk.start c.trace) d shows).ready.proper in
    let claims = subst
    (λ (ps : List (List Slot)). claimed_all (holding left.live (suc left.top)) ps
    ≤ allowed_of desk.start c.trace) (sym shows.by.slots) shows.by.claimed in (
      subst (λ (a : Account). KeepsFound d.log.records d.units a.found) (sym same) had.0,
      λ unswitched.
          subst
          (λ (n : ℕ). Reaches (row_at (slot_of (slots_in d))) s.pages n (allowed_of start entries)
          (feed ++ Begin given s.pages ∷ [])) (sym none) (subst
          (λ (n : ℕ). Reaches (row_at (slot_of (slots_in d))) n 0 (allowed_of start entries)
          (feed ++ Begin given n ∷ [])) all
          (begin_reaches (holding left.live (suc left.top)) (slots_in d) (allowed_of start entries)
          given feed proper (omega (arith, claims, allowed_is)))),
    )

begun_items : (d next : Engine) (c : ChronicleState) (origin : Origin) (at : ℕ)
    (marks : List (Option Position)) (seen : VolumeSeen)
    (desk : IsDesk d c origin at false marks seen) (old : Option Stage) (options given : Options)
    (copy pages : ℕ) (stage : Option Stage) (event : Event) (calls : ℕ) (count : ChangeCount)
    (feed : List Item)
    → KeepsItems d origin c.trace false old count feed → pages ≡ length (seen_in d).pages
    → IsNew options pages stage → PutsAside d 28 next → (entries : List Entry)
    → entries ≡ c.trace ++ utility_entry event None calls ∷ []
    → KeepsItems next origin entries false stage (record count { since = 0 })
    (feed ++ Begin given pages ∷ [])
begun_items d next c origin at marks seen desk old options given copy pages None event calls count
    feed keeps pages_are new puts entries entries_are = absurd new
begun_items d next c origin at marks seen desk old options given copy pages (Some s) event calls
    count feed keeps pages_are new puts entries entries_are =
    let of : s.pages ≡ pages = ap (λ (u : Utility). u.pages) new.0 in
    let all : length (slots_in d) ≡ s.pages =
    slots_count (seen_in d).pages ∙ sym pages_are ∙ sym of in
    same_items d next origin entries false (Some s) (record count { since = 0 })
    (feed ++ Begin given pages ∷ [])
    (record {
      slots = ap (λ (e : Engine). slots_in e) puts.same;
      records = ap (λ (e : Engine). e.log.records) puts.same;
      units = ap (λ (e : Engine). e.units) puts.same;
    })
    (λ up. (
      subst
          (λ (n : ℕ). KeepsSent (row_at (slot_of (slots_in d))) (λ n. writes_in (unit_at d.units n))
          (behind [] entries) (Some s) (record count { since = 0 }) (length d.log.records)
          (feed ++ Begin given n ∷ [])) of (start_kept (row_at (slot_of (slots_in d)))
          (λ n. writes_in (unit_at d.units n)) (behind [] c.trace) (behind [] entries) old s count
          (length d.log.records) given feed (keeps refl).0
          (ap (λ (u : Utility). u.copied) new.0) (ap (λ (u : Utility). u.unloaded) new.0)
          (λ place low. row_none (slots_in d) place (page_zero (slots_in d) place.page low))
          (λ place high. row_none (slots_in d) place
          (page_past (slots_in d) place.page (omega (arith, high, all))))),
      subst
          (λ (n : ℕ). KeepsAccount origin d.log.records d.units (slots_in d) entries (Some s)
          (feed ++ Begin given n ∷ [])) of
          (begun_account d c origin at marks seen desk old given s event calls feed (keeps refl).1
          all (ap (λ (u : Utility). u.copied) new.0) entries entries_are),
    ))

pub started_items : (d next : Engine) (c : ChronicleState) (origin : Origin) (at : ℕ)
    (marks : List (Option Position)) (seen : VolumeSeen) (down : Bool)
    (desk : IsDesk d c origin at down marks seen) (old stage : Option Stage) (options : Options)
    (copy : ℕ) (event : Event) (calls : ℕ) (count : ChangeCount) (feed : List Item)
    → KeepsItems d origin c.trace down old count feed
    → StartIs down old options copy d event stage next → (entries : List Entry)
    → entries ≡ c.trace ++ utility_entry event None calls ∷ []
    → KeepsItems next origin entries down stage (started_count (starts_utility event) count)
    (feed ++ begin_items event)
started_items d next c origin at marks seen true desk old stage options copy event calls count feed
    keeps is entries entries_are = λ up. absurd (cc (up))
started_items d next c origin at marks seen false desk (Some s) stage options copy event calls count
    feed keeps is entries entries_are =
    refused_items d next origin c.trace false (Some s) stage count feed event calls keeps is.2 is.1
    (subst IsRefusedEvent (sym is.0) tt) entries entries_are
started_items d next c origin at marks seen false desk None stage options copy
    (events.Started given of pages) calls count feed keeps is entries entries_are =
    begun_items d next c origin at marks seen desk None options given copy pages stage
    (events.Started given of pages) calls count feed keeps is.2 is.3 is.4 entries entries_are
started_items d next c origin at marks seen false desk None stage options copy
    (events.StartLogFull need left) calls count feed keeps is entries entries_are =
    refused_items d next origin c.trace false None stage count feed (events.StartLogFull need left)
    calls keeps is.4 is.3 tt entries entries_are
started_items d next c origin at marks seen false desk None stage options copy events.StartNoMemory
    calls count feed keeps is entries entries_are =
    refused_items d next origin c.trace false None stage count feed events.StartNoMemory calls keeps
    is.1 is.0 tt entries entries_are
started_items d next c origin at marks seen false desk None stage options copy event calls count
    feed keeps is entries entries_are = absurd is

-- ---- a step

booked_other : (event : Event) → is_booked event ≡ true → starts_utility event ≡ false
booked_other (events.Started options copy pages) booked = absurd (cc (booked))
booked_other event booked = refl

pub booked_items : (d next : Engine) (origin : Origin) (trace : List Entry) (s : Stage)
    (stage : Option Stage) (answer : Answer) (event : Event) (covered : Option Session) (calls : ℕ)
    (count : ChangeCount) (feed : List Item) → KeepsItems d origin trace false (Some s) count feed
    → StepsOn d s count.since answer event stage next
    → NextBy false (Some s) count.since covered (Some answer) event
    → (entries : List Entry) → entries ≡ trace ++ utility_entry event (Some answer) calls ∷ []
    → KeepsItems next origin entries false stage count feed
booked_items d next origin trace s stage answer event covered calls count feed keeps steps by
    entries entries_are =
    let turn = plain_turn (turn_of count.since covered answer (numbers_of s) s.drain event) by.1 in
    passed d next origin trace (utility_entry event (Some answer) calls) false (Some s) stage count
    feed keeps
    (λ up. record {
      slots = ap (λ (sp : Space ListFrames). slots_of (list_seen (frames_of sp)).pages)
          steps.engine.space;
      records = ap (λ (l : Listed). l.records) steps.engine.log;
      units = steps.engine.units;
    })
    (booked_copies_none count.since covered answer s event turn.0 stage turn.1 by.0 turn.2
    (steps.follows covered turn.0 turn.1))
    (booked_other event by.0) (λ st a. refl) entries entries_are

-- the copy of a page
copy_account :
    (d : Engine) (origin : Origin) (trace : List Entry) (s t : Stage) (answer : Answer) (rows : ℕ)
    (listed : List (Place × Row)) (at : Position) (event : Event) (calls : ℕ) (feed : List Item)
    → KeepsAccount origin d.log.records d.units (slots_in d) trace (Some s) feed
    → s.switched ≡ false → CopiesOne rows s t → t.copied ≤ t.pages → AreRowsOf (s.copied + 1) listed
    → ((place : Place) → place.page ≡ s.copied + 1
    → row_in listed place ≡ row_at (slot_of (slots_in d)) place)
    → ((place : Place) → 225 ≤ place.slot → row_at (slot_of (slots_in d)) place ≡ None)
    → (entries : List Entry) → entries ≡ trace ++ utility_entry event (Some answer) calls ∷ []
    → KeepsAccount origin d.log.records d.units (slots_in d) entries (Some t)
    (feed ++ PageCopy (s.copied + 1) at listed ∷ [])
copy_account d origin trace s t answer rows listed at event calls feed keeps unswitched one low of
    same high entries entries_are = λ start stored.
    let had = keeps start stored in
    let still = still_allowed start trace entries (utility_entry event (Some answer) calls)
    (λ st a. refl) entries_are in
    let most = allowed_of start trace in
    let r = copy_reaches (row_at (slot_of (slots_in d))) s.pages s.copied most feed at listed
    (had.1 unswitched) (omega (arith, low, one.0, one.1)) of same (λ place is. high place) in (
      subst (λ (a : Account). KeepsFound d.log.records d.units a.found) (sym still) had.0,
      λ early.
          subst
          (λ (a : Account). Reaches (row_at (slot_of (slots_in d))) t.pages t.copied a.allowed
          (feed ++ PageCopy (s.copied + 1) at listed ∷ [])) (sym still) (subst
          (λ (n : ℕ). Reaches (row_at (slot_of (slots_in d))) n t.copied most
          (feed ++ PageCopy (s.copied + 1) at listed ∷ [])) (sym one.0)
          (subst
          (λ (n : ℕ). Reaches (row_at (slot_of (slots_in d))) s.pages n most
          (feed ++ PageCopy (s.copied + 1) at listed ∷ [])) (sym one.1) r)),
    )

pub copy_items : (d mid next : Engine) (origin : Origin) (trace : List Entry) (s : Stage)
    (stage : Option Stage) (answer : Answer) (page rows : ℕ) (item : Item)
    (covered : Option Session) (calls : ℕ) (count : ChangeCount) (feed : List Item)
    → KeepsItems d origin trace false (Some s) count feed
    → SameRows d mid → IsCopyOf d page item rows
    → StepsOn mid s count.since answer (events.Unload page rows) stage next
    → is_plain (turn_of count.since covered answer (numbers_of s) s.drain (events.Unload page rows))
    ≡ true
    → (n : ℕ) → Bounded count.since n s
    → ((place : Place) → 225 ≤ place.slot → row_at (slot_of (slots_in d)) place ≡ None)
    → (entries : List Entry)
    → entries ≡ trace ++ utility_entry (events.Unload page rows) (Some answer) calls ∷ []
    → KeepsItems next origin entries false stage count (feed ++ item ∷ [])
copy_items d mid next origin trace s stage answer page rows item covered calls count feed keeps same
    copy steps plain n within high entries entries_are =
    let turn =
    plain_turn (turn_of count.since covered answer (numbers_of s) s.drain (events.Unload page rows))
    plain in
    let copies = unload_copies count.since covered answer s page rows turn.0 stage turn.1
    (steps.follows covered turn.0 turn.1) in
    let at : Position = record { 0 = length d.log.records } in
    let entry : Entry = utility_entry (events.Unload page rows) (Some answer) calls in
    let one = subst (λ (n : ℕ). CopiesOne n s copies.stage) copy.count_is copies.one in
    let item_is : item ≡ PageCopy (s.copied + 1) at copy.copied =
    copy.item_is ∙ ap (λ (n : ℕ). PageCopy n at copy.copied) copies.page_is in
    let low = subst (λ (o : Option Stage). IfSome o (λ t. Bounded count.since (n + 1) t))
    copies.stage_is (steps.bounded n within) in
    subst (λ (o : Option Stage). KeepsItems next origin entries false o count (feed ++ item ∷ []))
    (sym copies.stage_is) (subst
    (λ (x : Item). KeepsItems next origin entries false (Some copies.stage) count (feed ++ x ∷ []))
    (sym item_is) (same_items d next origin entries false (Some copies.stage) count
    (feed ++ PageCopy (s.copied + 1) at copy.copied ∷ [])
    (record {
      slots = ap (λ (sp : Space ListFrames). slots_of (list_seen (frames_of sp)).pages)
          steps.engine.space ∙ same.slots;
      records = ap (λ (l : Listed). l.records) steps.engine.log ∙ same.records;
      units = steps.engine.units ∙ same.units;
    })
    (λ up. (
      subst
          (λ (es : List Entry). KeepsSent (row_at (slot_of (slots_in d)))
          (λ n. writes_in (unit_at d.units n)) es (Some copies.stage) count (length d.log.records)
          (feed ++ PageCopy (s.copied + 1) at copy.copied ∷ []))
          (sym (ap (behind []) entries_are ∙ behind_push [] trace entry))
          (copy_kept (row_at (slot_of (slots_in d))) (λ n. writes_in (unit_at d.units n))
          (behind [] trace) entry s copies.stage count (length d.log.records) feed at copy.copied
          (keeps refl).0 copies.unswitched one refl
          (subst (λ (n : ℕ). AreRowsOf n copy.copied) copies.page_is copy.of_page)
          (λ place is. copy.rows place (is ∙ sym copies.page_is)) refl),
      copy_account d origin trace s copies.stage answer (length copy.copied) copy.copied at
          (events.Unload page rows) calls feed (keeps refl).1 copies.unswitched one low.copied
          (subst (λ (k : ℕ). AreRowsOf k copy.copied) copies.page_is copy.of_page)
          (λ place is. copy.rows place (is ∙ sym copies.page_is)) high entries entries_are,
    ))))

idle_refused :
    (down : Bool) (stage : Option Stage) (changes : ℕ) (covered : Option Session) (event : Event)
    → NextBy down stage changes covered None event → IsRefusedEvent event
idle_refused true stage changes covered events.StepDown next = tt
idle_refused true stage changes covered event next = absurd next
idle_refused false None changes covered events.Idle next = tt
idle_refused false None changes covered event next = absurd next
idle_refused false (Some s) changes covered event next = absurd next

pub idle_items : (d : Engine) (origin : Origin) (trace : List Entry) (down : Bool)
    (stage : Option Stage) (changes : ℕ) (covered : Option Session) (event : Event) (calls : ℕ)
    (count : ChangeCount) (feed : List Item) → KeepsItems d origin trace down stage count feed
    → NextBy down stage changes covered None event → (entries : List Entry)
    → entries ≡ trace ++ utility_entry event None calls ∷ []
    → KeepsItems d origin entries down stage count feed
idle_items d origin trace down stage changes covered event calls count feed keeps by entries
    entries_are =
    passed d d origin trace (utility_entry event None calls) down stage stage count feed keeps
    (λ up. same_rows d) (stays_copied stage)
    ((refused_still event (idle_refused down stage changes covered event by)).2) (λ st a. refl)
    entries entries_are

-- ---- an opening, and a switch

-- no unit is open
none_found : (d : Engine) → ((n : ℕ) → unit_at d.units n ≡ None) → (found : ℕ → ℕ)
    → KeepsFound d.log.records d.units found
none_found d idle found n ws own = omega (
  arith,
  ap (λ (vs : List Write). weigh_each (rows_before vs))
      (subst (λ (o : Option OpenUnit). AreOwn d.log.records o ws) (idle n) own),
)

pub opened_items : (found : Found) (calls : ℕ) (d : Engine) (c : ChronicleState) (origin : Origin)
    (count : ChangeCount) (feed : List Item) → Begun found calls d c → count ≡ no_changes
    → feed ≡ [] → KeepsItems d origin c.trace false None count feed
opened_items found calls d c origin count feed begun none empty = λ up.
    let rows = row_count begun.start in
    let pages = length (space_pages found.space) in
    let used = log_bytes found.log.records in (
      subst
          (λ (es : List Entry). KeepsSent (row_at (slot_of (slots_in d)))
          (λ n. writes_in (unit_at d.units n)) (behind [] es) None count (length d.log.records)
          feed) (sym begun.trace) (subst
          (λ (xs : List Item). KeepsSent (row_at (slot_of (slots_in d)))
          (λ n. writes_in (unit_at d.units n)) (opened_entry found.copy rows pages used calls ∷ [])
          None count (length d.log.records) xs) (sym empty)
          (opening_begins (row_at (slot_of (slots_in d))) (λ n. writes_in (unit_at d.units n))
          found.copy rows pages used calls count (length d.log.records)
          (λ n. ap writes_in (begun.idle n))
          (subst (IsCounted (opened_entry found.copy rows pages used calls ∷ [])) (sym none)
          (tends_opened found.copy rows pages used calls).counted))),
      λ start stored. (none_found d begun.idle (account_of start c.trace).found, tt),
    )

turned_items : (d next : Engine) (origin : Origin) (trace entries : List Entry) (s t : Stage)
    (count : ChangeCount) (feed : List Item) → KeepsItems d origin trace false (Some s) count feed
    → t.switched ≡ true → t.copied ≡ s.copied → t.unloaded ≡ s.unloaded
    → length d.log.records ≤ length next.log.records → next.units ≡ d.units
    → ((n : ℕ) → unit_at d.units n ≡ None)
    → KeepsItems next origin entries false (Some t) count feed
turned_items d next origin trace entries s t count feed keeps switched copied unloaded more units
    idle = λ up. (
      switch_kept (row_at (slot_of (slots_in d))) (row_at (slot_of (slots_in next)))
          (λ n. writes_in (unit_at d.units n)) (λ n. writes_in (unit_at next.units n))
          (behind [] trace)
          (behind [] entries) s t count (length d.log.records) (length next.log.records) feed
          (keeps refl).0
          switched copied unloaded more
          (λ n. ap (λ (us : List (Option OpenUnit)). writes_in (unit_at us n)) units),
      λ start stored. (
        none_found next (λ n. ap (λ (us : List (Option OpenUnit)). unit_at us n) units ∙ idle n)
            (account_of start entries).found,
        λ early. absurd (cc (early, switched)),
      ),
    )

-- ---- a switch

-- the records are more, and the units are as they were
pub turns_more : (copy : ℕ) (shade : Shade) (before now : VolumeSeen) (d next : Engine)
    → Turns copy shade before now d next → length d.log.records ≤ length next.log.records
turns_more copy shade before now d next turns =
    omega (
      arith,
      ap (λ (x : Engine). length x.log.records) turns.takes.same,
      ap (λ (rs : List Record). length rs) turns.logs.records,
      length-append d.log.records
          (switch_to (length d.log.records + 1) copy (length shade.pages) ∷ []),
    )

pub turns_units : (copy : ℕ) (shade : Shade) (before now : VolumeSeen) (d next : Engine)
    → Turns copy shade before now d next → next.units ≡ d.units
turns_units copy shade before now d next turns =
    ap (λ (x : Engine). x.units) turns.takes.same ∙ ap (λ (x : Engine). x.units) turns.logs.same

pub switched_items : (d next : Engine) (origin : Origin) (trace entries : List Entry) (s : Stage)
    (later : Option Stage) (to : ℕ) (sides : Sides) (command : Command) (count : ChangeCount)
    (feed : List Item) → KeepsItems d origin trace false (Some s) count feed
    → Followed (Switches to sides (record (alter (numbers_of s) command) { switched = true })) later
    → length d.log.records ≤ length next.log.records → next.units ≡ d.units
    → ((n : ℕ) → unit_at d.units n ≡ None) → KeepsItems next origin entries false later count feed
switched_items d next origin trace entries s None to sides command count feed keeps followed more
    units idle = absurd followed
switched_items d next origin trace entries s (Some t) to sides command count feed keeps followed
    more units idle =
    turned_items d next origin trace entries s t count feed keeps
    (ap (λ (u : Utility). u.switched) followed.0)
    (ap (λ (u : Utility). u.copied) followed.0 ∙ alter_copied (numbers_of s) command)
    (ap (λ (u : Utility). u.unloaded) followed.0 ∙ alter_unloaded (numbers_of s) command) more units
    idle

-- ---- UNLOAD

some_is : (s t : Stage) (o : Option Stage) → o ≡ Some s → o ≡ Some t → s ≡ t
some_is s t o e f = cc (e, f)

-- it is the next event, whatever stage the desk is known to have
pub next_plain : (V O : Type 0) (desk : DeskState V O) (page : ℕ) (answer : Answer)
    → CanFeed desk page answer → (s : Stage) → desk.stage ≡ Some s → (rows : ℕ) → rows ≤ 225
    → is_plain
    (turn_of desk.changes desk.covered answer (numbers_of s) s.drain (events.Unload page rows))
    ≡ true
next_plain V O desk page answer can s is rows few =
    subst
    (λ (t : Stage). is_plain
    (turn_of desk.changes desk.covered answer (numbers_of t) t.drain (events.Unload page rows))
    ≡ true) (some_is can.stage s desk.stage can.stage_is is) (can.next rows few)
