-- A desk goes on by one entry, and its trace is legal.
use Rattle.std.proofs.Common.{◌≡◌, ◌≢◌, ◌==◌, ◌&&◌, ◌||◌, ◌≤◌, ◌<◌, ◌+◌, ◌-◌, ◌*◌, ◌^◌, inl, inr, ℕ}
use Rattle.std.proofs.Common.{suc, Bool, true, false, cond, List, [], ◌∷◌, ◌++◌, length, take}
use Rattle.std.proofs.Common.{Option, Some, None, refl, sym, ◌∙◌, ap, subst, arith, length-append}
use Rattle.std.proofs.lemmas.Cmp.{nat_cmp_total}
use Rattle.std.proofs.lemmas.List.{take-append-le}
use Rattle.std.proofs.Math.Seq.{take-length}
use Rattle.std.specs.FinMap as map
use Rattle.std.specs.FinMap.{get-empty, get-entries, len-entries, nat_cmp-IsAntisymmetric, same_map}
use Rattle.std.specs.Option.{is_some}
use Rattle.std.specs.Ordering.{nat_cmp, eq_by_cmp}
use Rattle.std.specs.List.{AllByRecursion, Contains}
use Rattle.rg_laws_utility.specs.ByteAccount.Account.{Account, account_after, account_of}
use Rattle.rg_laws_utility.specs.ByteAccount.Account.{account_said, allowed_of, first_state}
use Rattle.rg_laws_utility.specs.ByteAccount.Account.{no_account, state_by}
use Rattle.rg_laws_utility.proofs.ByteAccountLemmas.Accounts.{account_push, state_push}
use Rattle.rg_base.specs.declared.lock.Lock.{Lock}
use Rattle.rg_laws_pages.specs.ByteClaims.Claim.{claimed_all, holding}
use Rattle.rg_base.specs.declared.position.Position.{Position}
use Rattle.rg_base.specs.declared.row.Row.{Row}
use Rattle.rg_base.specs.declared.session.Session.{Session}
use Rattle.rg_model.specs.Claims.{claim_classes, classes_needed}
use Rattle.rg_model.specs.Committed.{committed_table}
use Rattle.rg_model.specs.Legal.{Legal, IsActor, asks}
use Rattle.rg_model.specs.Plain.{after, after_answer, is_done}
use Rattle.rg_model.specs.Possible.{next_state, possible, states_before}
use Rattle.rg_model.specs.Run.{Run, Says}
use Rattle.rg_base.specs.declared.set.Set.TheVariants.{Log}
use Rattle.rg_outside.specs.Calls.{Told}
use Rattle.rg_outside.specs.Made.{WritesIn}
use Rattle.rg_outside.specs.Moments.{IfTold}
use Rattle.rg_model.specs.State.{State, Table, at_rest, row_count}
use Rattle.rg_model.proofs.Members.{only_one}
use Rattle.rg_model.proofs.Overlay.{committed-at_rest}
use Rattle.rg_model.proofs.RunPossible.{run_possible_start}
use Rattle.rg_model.proofs.RunPush.{Run-push}
use Rattle.rg_stmt.specs.Entries.{opened_entry, said_entry}
use Rattle.rg_laws_utility.specs.TraceStage.Tending.{IsSystem}
use Rattle.rg_record.specs.declared.record.Record.{Record}
use Rattle.rg_stmt.specs.declared.event.Actor.TheVariants as actors
use Rattle.rg_stmt.specs.declared.event.Entry.{Entry}
use Rattle.rg_stmt.specs.declared.event.Event.{Event}
use Rattle.rg_stmt.specs.declared.event.Event.TheVariants.{Clean, Flush, FlushDevice, FlushDown}
use Rattle.rg_stmt.specs.declared.event.Event.TheVariants.{FlushNoMemory, Layout, LayoutDown}
use Rattle.rg_stmt.specs.declared.event.Event.TheVariants.{LayoutNoMemory}
use Rattle.rg_stmt.specs.declared.stmt.Reply.{Reply}
use Rattle.rg_stmt.specs.declared.stmt.Reply.TheVariants.{Done, Found, Listed, Keyed, Absent}
use Rattle.rg_stmt.specs.declared.stmt.Reply.TheVariants.{Duplicate, Held, Victim, Drained, Full}
use Rattle.rg_stmt.specs.declared.stmt.Reply.TheVariants.{LogFull, Device, Down, NoMemory}
use Rattle.rg_stmt.specs.declared.stmt.Stmt.{Stmt}
use Rattle.rg_stmt.specs.declared.stmt.Stmt.TheVariants.{Insert, Update, Delete, Select, Scan, Find}
use Rattle.rg_stmt.specs.declared.stmt.Stmt.TheVariants.{Commit, Rollback}
use Rattle.rg_log.specs.Kept.{Listed as LogList, log_pages}
use Rattle.rg_engine.specs.Answers.{IfFull, IfLogFull, Replies, forces, is_answer, is_device}
use Rattle.rg_engine.specs.Answers.{state_left}
use Rattle.rg_engine.specs.Steps.{leaves_ground, more_allowed, more_logged}
use Rattle.rg_engine.specs.Stored.{Grows, IsStored}
use Rattle.rg_engine.specs.Volume.{CallsLog, HasCalls, IsCount, LeavesIfTidy}
use Rattle.rg_outside.specs.Volume.{VolumeSeen}
use Rattle.rg_engine.specs.Bytes.{taken_of}
use Rattle.rg_desk.specs.Chronicle.{ChronicleState, IsEntry, IsRecorded, logged_after, logged_by}
use Rattle.rg_desk.specs.Chronicle.{system_entry}
use Rattle.rg_desk.specs.Desk.{AreKeys, IsAmong, IsBegun, IsDesk, is_reply}
use Rattle.rg_engine.specs.Layouts.{IsLayout}
use Rattle.rg_base.specs.Copies.{IsCopy}
use Rattle.rg_base.proofs.Small.{cmp_one, nat_itself}
use Rattle.rg_engine.specs.Effect.{IfDoneEffect}
use Rattle.rg_engine.specs.Engine.{ground_of, seen_in}
use Rattle.rg_engine.specs.Left.{LeavesState}
use Rattle.rg_engine.specs.OnVolume.{CleanIfTidy, IsOn, IsOnVolume, RestsOn, WasAllTidy}
use Rattle.rg_image.specs.Kept.{AreEntries}
use Rattle.rg_image.specs.Pack.{end_of, start}
use Rattle.rg_image.specs.Rules.{copy_capacity}
use Rattle.rg_outside.proofs.Every.{told_weaken}
use Rattle.rg_outside.specs.Capacities.{Capacities}
use Rattle.rg_engine.specs.Reopens.{IsCleanIn, PartsReopen, Reopens}
use Rattle.rg_outside.specs.Faults.{Rose}
use Rattle.rg_space.specs.Space.{capacity_in}
use Rattle.rg_laws_crash.specs.PageVersions.Versions.{Epoch}
use Rattle.rg_engine.specs.Count.{IsShownFew}
use Rattle.rg_engine.specs.Room.{Ground, SaysLog, SaysRoom}
use Rattle.rg_engine.specs.Shows.{IsShown, Shows, left_by}
use Rattle.rg_engine.specs.Wrote.{KeepsGround, SameEngine}
use Rattle.rg_engine.specs.declared.engine.Engine.{Engine}
use Rattle.rg_engine.specs.declared.origin.Origin.{Origin}
use Rattle.rg_desk.proofs.Among.{few_committed, few_with, keys_left, keys_with}
use Rattle.rg_engine.proofs.Answering.{down_if, same_calls, up_if}
use Rattle.rg_engine.proofs.Leaving.{has_more, leaves_on}
use Rattle.rg_engine.proofs.OnVolume.{both_tidy, on_more, on_same, tidy_then}
use Rattle.rg_engine.proofs.Reopening.{on_rests}
use Rattle.rg_engine.proofs.Reopens.{parts_further, same_clean}
use Rattle.rg_engine.proofs.Same.{same_shows}
use Rattle.rg_engine.proofs.Settled.{grows_same}

-- what the entries have allowed, by one entry more

pub account-push : (start : Table) (entries : List Entry) (st : State) (entry : Entry)
    → state_by [] (first_state start) entries ≡ st
    → account_of start (entries ++ entry ∷ [])
    ≡ account_after st (account_of start entries) entry.actor entry.event
account-push start entries st entry told =
    account_push [] (first_state start) no_account entries entry
    ∙ ap (λ (x : State). account_after x (account_of start entries) entry.actor entry.event) told

pub allowed-push : (start : Table) (entries : List Entry) (st : State) (entry : Entry)
    → state_by [] (first_state start) entries ≡ st
    → allowed_of start (entries ++ entry ∷ [])
    ≡ (account_after st (account_of start entries) entry.actor entry.event).allowed
allowed-push start entries st entry told =
    ap (λ (a : Account). a.allowed) (account-push start entries st entry told)

-- a statement allows what it writes, at least
more_said : (st : State) (a : Account) (session : ℕ) (stmt : Stmt) (reply : Reply)
    → a.allowed + more_allowed stmt reply ≤ (account_said st a session stmt reply).allowed
more_said st a session (Insert row) Done = omega arith
more_said st a session (Update row) Done = omega arith
more_said st a session stmt Done = omega arith
more_said st a session stmt (Victim owner) = omega arith
more_said st a session stmt reply = omega arith

-- the pages claim no more where more is allowed
pub shows_within : (st : State) (allowed most : ℕ) (d : Engine) (shows : Shows st allowed d)
    → claimed_all (holding (left_by shows.first d).live (suc (left_by shows.first d).top))
    (left_by shows.first d).pages ≤ most
    → Shows st most d
shows_within st allowed most d shows small =
    let by = shows.by in
    record {
      first = shows.first;
      begun = shows.begun;
      within = shows.within;
      stores = shows.stores;
      settled = shows.settled;
      runs = shows.runs;
      by = record {
        up = by.up;
        sure = by.sure;
        copy = by.copy;
        table = by.table;
        locks = by.locks;
        claims = by.claims;
        drain = by.drain;
        pages = by.pages;
        slots = by.slots;
        indexes = by.indexes;
        keys = by.keys;
        places = by.places;
        units = by.units;
        top = by.top;
        owed = by.owed;
        claimed = small;
      };
      trails = shows.trails;
    }

-- a layout or a flush allows nothing
pub system_keeps : (st : State) (a : Account) (event : Event) → IsSystem event
    → account_after st a actors.System event ≡ a
system_keeps st a (Layout shown side) is = refl
system_keeps st a LayoutNoMemory is = refl
system_keeps st a LayoutDown is = refl
system_keeps st a (Flush page) is = refl
system_keeps st a Clean is = refl
system_keeps st a FlushDevice is = refl
system_keeps st a FlushDown is = refl
system_keeps st a FlushNoMemory is = refl
system_keeps st a event is = absurd is

-- the table that records store is one
pub same_table : (records : List Record) (one other : Table) → IsStored records one
    → IsStored records other → one ≡ other
same_table records one other here there =
    same_map nat_cmp_total nat_cmp-IsAntisymmetric one other (λ k. here k ∙ sym (there k))

pub logged-push : (logged : ℕ) (entries : List Entry) (entry : Entry)
    → logged_by logged (entries ++ entry ∷ []) ≡ logged_after (logged_by logged entries) entry.event
logged-push logged [] entry = refl
logged-push logged (e ∷ entries) entry = logged-push (logged_after logged e.event) entries entry

-- LOGFULL says that nearly all of the log is taken
pub log_full_so : (g : Ground) (session : ℕ) (stmt : Stmt) (reply : Reply) (logged : ℕ)
    → SaysLog g session stmt reply → taken_of g.log ≤ logged → IfLogFull reply logged g.log.pages
log_full_so g session stmt (LogFull need left) logged says most =
    omega (arith, says.0, says.1, says.2, most)
log_full_so g session stmt Done logged says most = tt
log_full_so g session stmt (Found row) logged says most = tt
log_full_so g session stmt (Listed rows) logged says most = tt
log_full_so g session stmt (Keyed keys) logged says most = tt
log_full_so g session stmt Absent logged says most = tt
log_full_so g session stmt Duplicate logged says most = tt
log_full_so g session stmt (Held owner) logged says most = tt
log_full_so g session stmt (Victim owner) logged says most = tt
log_full_so g session stmt Drained logged says most = tt
log_full_so g session stmt (Full need) logged says most = tt
log_full_so g session stmt Device logged says most = tt
log_full_so g session stmt Down logged says most = tt
log_full_so g session stmt NoMemory logged says most = tt

pub begun-push : (copy rows : ℕ) (entries : List Entry) (entry : Entry) → IsBegun copy rows entries
    → IsBegun copy rows (entries ++ entry ∷ [])
begun-push copy rows [] entry begun = absurd begun
begun-push copy rows (e ∷ entries) entry begun = begun

-- a statement keeps the number of the copy
copy_after : (st : State) (session : Session) (stmt : Stmt) (reply : Reply)
    → (after_answer st session stmt reply).copy ≡ st.copy
copy_after st session stmt reply = by_done stmt (is_done reply)
  where
    by_done : (stmt : Stmt) (b : Bool)
        → (cond b (claim_classes (after st session stmt) session (classes_needed stmt)) st).copy
        ≡ st.copy
    by_done stmt false = refl
    by_done (Insert row) true = refl
    by_done (Update row) true = refl
    by_done (Delete key) true = refl
    by_done (Select key) true = refl
    by_done (Scan lo hi) true = refl
    by_done (Find cat) true = refl
    by_done Commit true = refl
    by_done Rollback true = refl

-- a reply leaves the engine down if it is the device's, and up else
down_left : (st : State) (session : Session) (stmt : Stmt) (reply : Reply) → st.down ≡ false
    → (state_left st session stmt reply).down ≡ is_device reply
down_left st session stmt Device up = refl
down_left st session stmt reply up = by_done stmt (is_done reply) ∙ up
  where
    by_done : (stmt : Stmt) (b : Bool)
        → (cond b (claim_classes (after st session stmt) session (classes_needed stmt)) st).down
        ≡ st.down
    by_done stmt false = refl
    by_done (Insert row) true = refl
    by_done (Update row) true = refl
    by_done (Delete key) true = refl
    by_done (Select key) true = refl
    by_done (Scan lo hi) true = refl
    by_done (Find cat) true = refl
    by_done Commit true = refl
    by_done Rollback true = refl

copy_left : (st : State) (session : Session) (stmt : Stmt) (reply : Reply)
    → (state_left st session stmt reply).copy ≡ st.copy
copy_left st session stmt Device = refl
copy_left st session stmt reply = copy_after st session stmt reply

-- ---- the calls of the volume

count_has : (told : Option Told) (n : ℕ) → IfTold told (λ t. length t.calls ≡ t.start + n)
    → IfTold told (λ t. t.start + n ≤ length t.calls)
count_has None n e = tt
count_has (Some t) n e = omega (arith, e)

pub count_is : (seen : VolumeSeen) (calls n : ℕ) → IsCount seen calls → n ≡ calls → HasCalls seen n
count_is seen calls n e is = subst (HasCalls seen) (sym is) (count_has seen.told calls e)

-- more calls are no fewer
pub calls_on : (old new : VolumeSeen) (n : ℕ) → CallsLog old new → HasCalls old n → HasCalls new n
calls_on old new n calls e = has_more (WritesIn Log) old.told new.told n calls.only e

module _ (d : Engine) (c : ChronicleState) (origin : Origin) (copy : ℕ) (down : Bool)
    (marks : List (Option Position)) (seen : VolumeSeen)
    (desk : IsDesk d c origin copy down marks seen) where
  -- room for an entry changes nothing
  pub desk_room : (mid : ChronicleState) → mid.trace ≡ c.trace → mid.calls ≡ c.calls
      → IsDesk d mid origin copy down marks seen
  desk_room mid trace calls = record {
    start = desk.start;
    starts = desk.starts;
    within = desk.within;
    state = desk.state;
    begun = subst (IsBegun origin.copy (row_count desk.start)) (sym trace) desk.begun;
    run = subst (λ (es : List Entry). Run [] (at_rest desk.start origin.copy) es desk.state)
        (sym trace) desk.run;
    told = ap (state_by [] (first_state desk.start)) trace ∙ desk.told;
    is_first = desk.is_first;
    is_copy = desk.is_copy;
    copy_is = desk.copy_is;
    down_is = desk.down_is;
    counted = subst (HasCalls seen) (sym calls) desk.counted;
    recorded = subst (IsRecorded mid.trace) (sym calls)
        (subst (λ (es : List Entry). IsRecorded es c.calls) (sym trace) desk.recorded);
    shown = λ up. subst (λ (es : List Entry). Shows desk.state (allowed_of desk.start es) d)
        (sym trace) (desk.shown up);
    left = desk.left;
    logged = subst (λ (es : List Entry). taken_of d.log ≤ logged_by 0 es) (sym trace) desk.logged;
    pages = desk.pages;
    leaves = desk.leaves;
    is_on = desk.is_on;
    rests = desk.rests;
    clean = desk.clean;
    keys = desk.keys;
    among = desk.among;
    few = subst (λ (es : List Entry). length desk.keys ≤ length es + row_count desk.start)
        (sym trace) desk.few;
    few_rows = desk.few_rows;
  }

  -- while it is up it shows a state
  pub desk_shown : down ≡ false → IsShown d
  desk_shown up =
      record { state = desk.state; allowed = allowed_of desk.start c.trace; shows = desk.shown up }

  -- the records that the log had when it was opened stay the first ones
  pub old_same : (next : Engine) → Grows d.log next.log
      → take origin.records next.log.records ≡ take origin.records d.log.records
  old_same next grows = ap (take origin.records) grows.records
      ∙ take-append-le origin.records d.log.records grows.more desk.within

  -- the entry of a statement
  desk_on : (session : Session) (stmt : Stmt) (reply : Reply) (calls : ℕ) (after : State)
      (next : Engine) (down_after : Bool) (seen_after : VolumeSeen) (new : ChronicleState)
      (keys : List ℕ)
      → AreKeys keys after → length keys ≤ length desk.keys + 1
      → Says desk.state session stmt reply after → after.copy ≡ copy → after.down ≡ down_after
      → (down_after ≡ false
      → Shows after (allowed_of desk.start c.trace + more_allowed stmt reply) next)
      → (down_after ≡ true → LeavesState after next.log)
      → taken_of next.log ≤ taken_of d.log + more_logged stmt reply
      → next.log.pages ≡ log_pages seen_after.capacities
      → Grows d.log next.log → LeavesIfTidy seen_after next.log
      → (down_after ≡ false → IsOnVolume copy next.log next.space marks seen_after)
      → (down_after ≡ true → RestsOn after seen_after)
      → (down_after ≡ false → CleanIfTidy seen_after next)
      → new.trace ≡ c.trace ++ said_entry session stmt reply calls ∷ [] → new.calls ≡ calls
      → IsCount seen_after calls → IsRecorded new.trace new.calls
      → IsDesk next new origin copy down_after marks seen_after
  desk_on session stmt reply calls after next down_after seen_after new keys among more says copy_is
      down_is shown left logged pages grows leaves is_on rests clean trace at counted recorded =
      let entry = said_entry session stmt reply calls in
      let allowed_on : allowed_of desk.start new.trace
      ≡ (account_said desk.state (account_of desk.start c.trace) session.0 stmt reply).allowed =
      ap (allowed_of desk.start) trace
      ∙ allowed-push desk.start c.trace desk.state entry desk.told in
      let longer = ap (λ (es : List Entry). length es) trace ∙ length-append c.trace (entry ∷ []) in
      let few = desk.few in
      let within = desk.within in
      let more_records =
      ap (λ (rs : List Record). length rs) grows.records ∙ length-append d.log.records grows.more in
      record {
        start = desk.start;
        starts = subst (λ (rs : List Record). IsStored rs desk.start) (sym (old_same next grows))
            desk.starts;
        within = omega (arith, within, more_records);
        state = after;
        begun = subst (IsBegun origin.copy (row_count desk.start)) (sym trace)
            (begun-push origin.copy (row_count desk.start) c.trace entry desk.begun);
        run = subst (λ (es : List Entry). Run [] (at_rest desk.start origin.copy) es after)
            (sym trace)
            (Run-push [] (at_rest desk.start origin.copy) desk.state after c.trace entry desk.run
            says);
        told = ap (state_by [] (first_state desk.start)) trace
            ∙ state_push [] (first_state desk.start) desk.state after c.trace entry desk.told refl
            says;
        is_first = desk.is_first;
        is_copy = desk.is_copy;
        copy_is = copy_is;
        down_is = down_is;
        counted = count_is seen_after calls new.calls counted at;
        recorded = recorded;
        shown = λ up.
            let had = shown up in
            shows_within after (allowed_of desk.start c.trace + more_allowed stmt reply)
            (allowed_of desk.start new.trace) next had
            (omega (
              arith,
              had.by.claimed,
              more_said desk.state (account_of desk.start c.trace) session.0 stmt reply,
              allowed_on,
            ));
        left = left;
        logged =
            omega (arith, ap (logged_by 0) trace, logged-push 0 c.trace entry, logged, desk.logged);
        pages = pages;
        leaves = leaves;
        is_on = is_on;
        rests = rests;
        clean = clean;
        keys = keys;
        among = among;
        few = omega (arith, longer, few, more);
        few_rows = desk.few_rows;
      }

  -- the entry of an event that changes nothing but how much of the log is forced, and marks
  pub desk_quiet : (event : Event) (calls : ℕ) (next : Engine) (later : List (Option Position))
      (seen_after : VolumeSeen) (new : ChronicleState)
      → next.log ≡ record d.log { forced = next.log.forced }
      → (down ≡ false → Shows desk.state (allowed_of desk.start c.trace) next)
      → (down ≡ true → LeavesState desk.state next.log)
      → IsSystem event → next_state [] None actors.System event desk.state ≡ Some desk.state
      → next.log.pages ≡ log_pages seen_after.capacities → LeavesIfTidy seen_after next.log
      → (down ≡ false → IsOnVolume copy next.log next.space later seen_after)
      → (down ≡ true → RestsOn desk.state seen_after) → (down ≡ false → CleanIfTidy seen_after next)
      → new.trace ≡ c.trace ++ system_entry event calls ∷ [] → new.calls ≡ calls
      → IsCount seen_after calls → IsRecorded new.trace new.calls
      → IsDesk next new origin copy down later seen_after
  desk_quiet event calls next later seen_after new log shown left is allows pages leaves is_on rests
      clean trace at counted recorded =
      let entry = system_entry event calls in
      let longer = ap (λ (es : List Entry). length es) trace ∙ length-append c.trace (entry ∷ []) in
      let few = desk.few in
      let records : next.log.records ≡ d.log.records = ap (λ (l : LogList). l.records) log in
      record {
        start = desk.start;
        starts = subst (λ (rs : List Record). IsStored (take origin.records rs) desk.start)
            (sym records) desk.starts;
        within = subst (λ (rs : List Record). origin.records ≤ length rs) (sym records) desk.within;
        state = desk.state;
        begun = subst (IsBegun origin.copy (row_count desk.start)) (sym trace)
            (begun-push origin.copy (row_count desk.start) c.trace entry desk.begun);
        run = subst (λ (es : List Entry). Run [] (at_rest desk.start origin.copy) es desk.state)
            (sym trace) (pushed event is allows);
        told = ap (state_by [] (first_state desk.start)) trace ∙ state_on event is allows;
        is_first = desk.is_first;
        is_copy = desk.is_copy;
        copy_is = desk.copy_is;
        down_is = desk.down_is;
        counted = count_is seen_after calls new.calls counted at;
        recorded = recorded;
        shown = λ up. subst (λ (n : ℕ). Shows desk.state n next)
            (sym
            (ap (allowed_of desk.start) trace
            ∙ allowed-push desk.start c.trace desk.state entry desk.told
            ∙ ap (λ (a : Account). a.allowed)
            (system_keeps desk.state (account_of desk.start c.trace) event is))) (shown up);
        left = left;
        logged = omega (
          arith,
          ap (logged_by 0) trace,
          logged-push 0 c.trace entry,
          none_logged event is (logged_by 0 c.trace),
          ap (λ (l : LogList). taken_of l) log,
          desk.logged,
        );
        pages = pages;
        leaves = leaves;
        is_on = is_on;
        rests = rests;
        clean = clean;
        keys = desk.keys;
        among = desk.among;
        few = omega (arith, longer, few);
        few_rows = desk.few_rows;
      }
    where
      state_on : (event : Event) → IsSystem event
          → next_state [] None actors.System event desk.state ≡ Some desk.state
          → state_by [] (first_state desk.start) (c.trace ++ system_entry event calls ∷ [])
          ≡ desk.state
      state_on (Layout shown side) is allows = state_push [] (first_state desk.start) desk.state
          desk.state c.trace (system_entry (Layout shown side) calls) desk.told refl allows
      state_on LayoutNoMemory is allows = state_push [] (first_state desk.start) desk.state
          desk.state c.trace (system_entry LayoutNoMemory calls) desk.told refl allows
      state_on LayoutDown is allows = state_push [] (first_state desk.start) desk.state desk.state
          c.trace (system_entry LayoutDown calls) desk.told refl allows
      state_on (Flush page) is allows = state_push [] (first_state desk.start) desk.state desk.state
          c.trace (system_entry (Flush page) calls) desk.told refl allows
      state_on Clean is allows = state_push [] (first_state desk.start) desk.state desk.state
          c.trace (system_entry Clean calls) desk.told refl allows
      state_on FlushDevice is allows = state_push [] (first_state desk.start) desk.state desk.state
          c.trace (system_entry FlushDevice calls) desk.told refl allows
      state_on FlushDown is allows = state_push [] (first_state desk.start) desk.state desk.state
          c.trace (system_entry FlushDown calls) desk.told refl allows
      state_on FlushNoMemory is allows = state_push [] (first_state desk.start) desk.state
          desk.state c.trace (system_entry FlushNoMemory calls) desk.told refl allows
      state_on event is allows = absurd is

      none_logged : (event : Event) → IsSystem event → (n : ℕ) → logged_after n event ≡ n
      none_logged (Layout shown side) is n = refl
      none_logged LayoutNoMemory is n = refl
      none_logged LayoutDown is n = refl
      none_logged (Flush page) is n = refl
      none_logged Clean is n = refl
      none_logged FlushDevice is n = refl
      none_logged FlushDown is n = refl
      none_logged FlushNoMemory is n = refl
      none_logged event is n = absurd is

      pushed : (event : Event) → IsSystem event
          → next_state [] None actors.System event desk.state ≡ Some desk.state
          → Run [] (at_rest desk.start origin.copy) (c.trace ++ system_entry event calls ∷ [])
          desk.state
      pushed (Layout shown side) is allows = Run-push [] (at_rest desk.start origin.copy) desk.state
          desk.state c.trace (system_entry (Layout shown side) calls) desk.run allows
      pushed LayoutNoMemory is allows = Run-push [] (at_rest desk.start origin.copy) desk.state
          desk.state c.trace (system_entry LayoutNoMemory calls) desk.run allows
      pushed LayoutDown is allows = Run-push [] (at_rest desk.start origin.copy) desk.state
          desk.state c.trace (system_entry LayoutDown calls) desk.run allows
      pushed (Flush page) is allows = Run-push [] (at_rest desk.start origin.copy) desk.state
          desk.state c.trace (system_entry (Flush page) calls) desk.run allows
      pushed Clean is allows = Run-push [] (at_rest desk.start origin.copy) desk.state desk.state
          c.trace (system_entry Clean calls) desk.run allows
      pushed FlushDevice is allows = Run-push [] (at_rest desk.start origin.copy) desk.state
          desk.state c.trace (system_entry FlushDevice calls) desk.run allows
      pushed FlushDown is allows = Run-push [] (at_rest desk.start origin.copy) desk.state
          desk.state c.trace (system_entry FlushDown calls) desk.run allows
      pushed FlushNoMemory is allows = Run-push [] (at_rest desk.start origin.copy) desk.state
          desk.state c.trace (system_entry FlushNoMemory calls) desk.run allows
      pushed event is allows = absurd is

  -- the entry of a layout
  pub desk_same : (event : Event) (calls : ℕ) (next : Engine) (new : ChronicleState)
      → SameEngine d next → IsLayout copy event
      → next_state [] None actors.System event desk.state ≡ Some desk.state
      → new.trace ≡ c.trace ++ system_entry event calls ∷ [] → new.calls ≡ calls
      → IsCount seen calls → IsRecorded new.trace new.calls
      → IsDesk next new origin copy down marks seen
  desk_same event calls next new same is allows trace at counted recorded =
      let log = same.log in
      desk_quiet event calls next marks seen new
      (log
      ∙ ap (λ (n : ℕ). let l : LogList = record d.log { forced = n } in l)
      (sym (ap (λ (l : LogList). l.forced) log)))
      (λ up. same_shows desk.state (allowed_of desk.start c.trace) d next same (desk.shown up))
      (λ down. subst (LeavesState desk.state) (sym log) (desk.left down)) (is_system event is)
      allows (ap (λ (l : LogList). l.pages) log ∙ desk.pages)
      (subst (LeavesIfTidy seen) (sym log) desk.leaves)
      (λ up. let on = desk.is_on up in
      record { epoch = on.epoch; is_on = on_same on.epoch copy d next marks seen same on.is_on })
      desk.rests
      (λ up. told_weaken (λ t. WasAllTidy seen.capacities t → IsCleanIn d)
      (λ t. WasAllTidy seen.capacities t → IsCleanIn next) seen.told
      (λ t h tidy. same_clean d next same (h tidy)) (desk.clean up)) trace at counted recorded
    where
      is_system : (event : Event) → IsLayout copy event → IsSystem event
      is_system (Layout shown side) is = tt
      is_system LayoutNoMemory is = tt
      is_system LayoutDown is = tt
      is_system event is = absurd is

  -- ---- the trace is legal

  actors_stand : (es : List Entry) → AllByRecursion IsEntry es
      → AllByRecursion (λ entry. IsActor entry.actor) es
  actors_stand [] all = tt
  actors_stand (e ∷ es) all = (all.0.actor, actors_stand es all.1)

  answers_stand : (es : List Entry) → AllByRecursion IsEntry es
      → AllByRecursion (λ entry. is_some entry.answer ≡ asks entry.event) es
  answers_stand [] all = tt
  answers_stand (e ∷ es) all = (all.0.answer, answers_stand es all.1)

  some_state : (states : List State) (state : State) → Contains states state → states ≢ []
  some_state [] state (k, lt, is) = absurd (omega arith)
  some_state (st ∷ states) state here = λ e. cc (e)

  known : (n : ℕ) → IsCopy n → (n == 1 || n == 2) ≡ true
  known n (inl e) = ap (λ (k : ℕ). k == 1 || k == 2) e
  known n (inr e) = ap (λ (k : ℕ). k == 1 || k == 2) e

  ends_possible : (es : List Entry) → IsBegun origin.copy (row_count desk.start) es
      → Run [] (at_rest desk.start origin.copy) es desk.state
      → Contains (possible desk.start es) desk.state
  ends_possible [] begun run = absurd begun
  ends_possible (e ∷ es) begun run =
      run_possible_start desk.start origin.copy e es desk.state
      (ap (λ (f : Entry). states_before desk.start f.event) begun.2
      ∙ ap (λ (b : Bool). cond b (at_rest desk.start origin.copy ∷ []) [])
      (known origin.copy desk.is_first)) run

  pub desk_legal : Legal desk.start c.trace
  desk_legal = record {
    allowed = some_state (possible desk.start c.trace) desk.state
        (ends_possible c.trace desk.begun desk.run);
    sessions = actors_stand c.trace desk.recorded.each;
    calls = desk.recorded.rising;
    answers = answers_stand c.trace desk.recorded.each;
  }

  -- as many committed rows as entries and rows at the opening at most
  pub desk_few : down ≡ false → IsShownFew d
  desk_few up =
      let bound = desk.recorded.few in
      let committed = few_committed desk.keys desk.state desk.among in
      let few = desk.few in
      let few_rows = desk.few_rows in
      record {
        state = desk.state;
        allowed = allowed_of desk.start c.trace;
        shows = desk.shown up;
        few = omega (arith, committed, few, bound, few_rows);
      }

-- what a desk that is up leaves can be opened again, if the volume read tidy
pub desk_reopens :
    (d : Engine) (c : ChronicleState) (origin : Origin) (copy : ℕ) (marks : List (Option Position))
    (seen : VolumeSeen) (desk : IsDesk d c origin copy false marks seen)
    → PartsReopen seen.capacities (desk.is_on refl).epoch d.log → IsCleanIn d
    → Reopens seen.capacities (desk.is_on refl).epoch d
desk_reopens d c origin copy marks seen desk parts clean = record {
  copy = ap (copy_capacity seen.capacities) (desk.is_on refl).is_on.copy_is
      ∙ sym (desk.is_on refl).is_on.capacity;
  pages = sym desk.pages;
  newest = (desk.is_on refl).is_on.newest;
  parts = parts;
  clean = clean;
}

-- where more is forced fewer parts are left
left_further : (st : State) (log : LogList) (low : ℕ) → low ≤ log.forced
    → LeavesState st (record log { forced = low }) → LeavesState st log
left_further st log low further left = record {
  stored = λ n from to. left.stored n (omega (arith, further, from)) to;
}

-- the entry of a statement, whether the desk is up or down
pub desk_replied : (d : Engine) (c : ChronicleState) (origin : Origin) (copy : ℕ) (down : Bool)
    (marks : List (Option Position)) (seen : VolumeSeen)
    (desk : IsDesk d c origin copy down marks seen) (session : Session) (stmt : Stmt)
    (reply : Reply) (calls : ℕ)
    (next : Engine) (down_after : Bool) (seen_after : VolumeSeen) (new : ChronicleState)
    → Replies down d session stmt reply next down_after seen seen_after
    → AreEntries next.log.records
    → (1 ≤ length next.log.records → (end_of start next.log.records).page ≤ next.log.pages)
    → new.trace ≡ c.trace ++ said_entry session stmt reply calls ∷ [] → new.calls ≡ calls
    → IsCount seen_after calls → IsRecorded new.trace new.calls
    → IsDesk next new origin copy down_after marks seen_after
desk_replied d c origin copy true marks seen desk session stmt reply calls next down_after
    seen_after new replies entries set trace at counted recorded =
    desk_on d c origin copy true marks seen desk session stmt reply calls desk.state next down_after
    seen_after new desk.keys desk.among (omega arith)
    (subst (λ (r : Reply). Says desk.state session stmt r desk.state) (sym replies.0)
    (desk.down_is, refl)) desk.copy_is (desk.down_is ∙ sym replies.2)
    (λ up. absurd (cc (up, replies.2)))
    (λ down. subst (λ (x : Engine). LeavesState desk.state x.log) (sym replies.1) (desk.left refl))
    (omega (arith, ap (λ (x : Engine). taken_of x.log) replies.1))
    (ap (λ (x : Engine). x.log.pages) replies.1 ∙ desk.pages
    ∙ ap (λ (v : VolumeSeen). log_pages v.capacities) (sym replies.3))
    (grows_same d.log next.log (ap (λ (x : Engine). x.log) replies.1))
    (subst (λ (v : VolumeSeen). LeavesIfTidy v next.log) (sym replies.3)
    (subst (LeavesIfTidy seen) (ap (λ (x : Engine). x.log) (sym replies.1)) desk.leaves))
    (λ up. absurd (cc (up, replies.2)))
    (λ down. subst (RestsOn desk.state) (sym replies.3) (desk.rests refl))
    (λ up. absurd (cc (up, replies.2)))
    trace at counted recorded
desk_replied d c origin copy false marks seen desk session stmt reply calls next down_after
    seen_after new replies entries set trace at counted recorded =
    let answered = replies.0 desk.state (allowed_of desk.start c.trace) (desk.shown refl) in
    let asks = replies.1 in
    let e : Epoch = (desk.is_on refl).epoch in
    let on : IsOn e copy d.log d.space marks seen = (desk.is_on refl).is_on in
    let same_copy : answered.after.copy ≡ copy = ap (λ (st : State). st.copy) answered.is_after
    ∙ copy_left desk.state session stmt reply ∙ desk.copy_is in
    let pages : next.log.pages ≡ log_pages seen_after.capacities =
    answered.grows.pages ∙ desk.pages ∙ ap (λ x. log_pages x) (sym asks.calls.capacities) in
    let leaves : LeavesIfTidy seen_after next.log = leaves_on seen seen_after d.log next.log c.calls
    asks.calls desk.counted answered.grows.pages asks.leaves desk.leaves in
    let now : IsOn e copy next.log next.space marks seen_after =
    on_more e copy d.log next.log d.space next.space marks seen seen_after on answered.grows.more
    answered.grows.records (answered.newest e on.newest) answered.capacity
    (desk.shown refl).settled.within asks.further asks.calls c.calls desk.counted (subst
    (λ (caps : Capacities). IfTold seen_after.told
    (λ t. WasAllTidy caps t → PartsReopen caps e next.log)) (sym asks.calls.capacities)
    (tidy_then (WritesIn Log) seen.told seen_after.told seen.capacities seen.capacities
    (PartsReopen seen.capacities e d.log × IsCleanIn d) (PartsReopen seen.capacities e next.log)
    c.calls asks.calls.only desk.counted refl
    (λ h. parts_further seen.capacities e next.log d.log.forced asks.further
    (answered.parts seen.capacities e (desk_reopens d c origin copy marks seen desk h.0 h.1)))
    (both_tidy seen.told seen.capacities (λ t. PartsReopen seen.capacities e d.log)
    (λ t. IsCleanIn d) on.parts (desk.clean refl)))) in
    desk_on d c origin copy false marks seen desk session stmt reply calls answered.after next
    down_after seen_after new (keys_with stmt desk.keys)
    (subst (AreKeys (keys_with stmt desk.keys)) (sym answered.is_after)
    (keys_left desk.keys desk.state desk.among session stmt reply)) (few_with stmt desk.keys)
    answered.says same_copy
    (ap (λ (st : State). st.down) answered.is_after
    ∙ down_left desk.state session stmt reply desk.down_is ∙ sym replies.2)
    (λ up. up_if _ reply (sym replies.2 ∙ up) answered.shows)
    (λ down. left_further answered.after next.log d.log.forced asks.further
    (down_if _ reply (sym replies.2 ∙ down) answered.left))
    answered.logged pages answered.grows leaves
    (λ up. record { epoch = e; is_on = now })
    (λ down. on_rests e copy next.log next.space marks seen_after now pages entries set
    answered.after same_copy leaves c.calls
    (calls_on seen seen_after c.calls asks.calls desk.counted))
    (λ up.
    tidy_then (WritesIn Log) seen.told seen_after.told seen.capacities seen_after.capacities
    (IsCleanIn d) (IsCleanIn next) c.calls asks.calls.only desk.counted asks.calls.capacities
    (λ h. up_if _ reply (sym replies.2 ∙ up) (answered.clean h)) (desk.clean refl))
    trace at counted recorded

-- the volume of a desk that goes down now, or is down
pub desk_rests : (d : Engine) (c : ChronicleState) (origin : Origin) (copy : ℕ) (down : Bool)
    (marks : List (Option Position)) (seen : VolumeSeen)
    (desk : IsDesk d c origin copy down marks seen)
    → AreEntries d.log.records
    → (1 ≤ length d.log.records → (end_of start d.log.records).page ≤ d.log.pages)
    → RestsOn desk.state seen
desk_rests d c origin copy true marks seen desk entries set = desk.rests refl
desk_rests d c origin copy false marks seen desk entries set =
    let on = desk.is_on refl in
    on_rests on.epoch copy d.log d.space marks seen on.is_on desk.pages entries set desk.state
    desk.copy_is desk.leaves c.calls desk.counted

-- what the entry of a statement says
pub record Replied (d : Engine) (c : ChronicleState) (origin : Origin) (down : Bool)
    (seen : VolumeSeen) (session : Session) (stmt : Stmt) (reply : Reply) (next : Engine)
    (after : Bool) (seen_after : VolumeSeen) : Type 0 where
  pub is : is_reply stmt reply ≡ true
  pub was_down : down ≡ true → reply ≡ Down
  pub was_up : down ≡ false → reply ≡ Down → ⊥
  pub down_after : after ≡ (down || is_device reply)
  pub device : reply ≡ Device → Rose seen.faults seen_after.faults
  pub quiet : forces d.units session stmt ≡ false → seen_after ≡ seen
  pub forced : forces d.units session stmt ≡ true → reply ≡ Done
      → next.log.forced ≡ length next.log.records
  pub room : SaysRoom (ground_of d) session.0 stmt reply
  pub full : (start : Table) → IsStored (take origin.records d.log.records) start
      → IfFull reply (allowed_of start c.trace) (capacity_in d.space)
  pub log : SaysLog (ground_of d) session.0 stmt reply
  pub log_full : IfLogFull reply (logged_by 0 c.trace) d.log.pages
  pub kept : leaves_ground reply ≡ true → KeepsGround d next
  pub capacity : capacity_in next.space ≡ capacity_in d.space
  pub set_aside : next.set_aside ≡ d.set_aside
  pub grows : Grows d.log next.log
  pub calls : CallsLog seen seen_after
  pub effect : IfDoneEffect (ground_of d) session.0 stmt reply (ground_of next)

reply_so : (stmt : Stmt) (reply : Reply) → is_answer stmt reply ≡ true → is_reply stmt reply ≡ true
reply_so stmt Down e = refl
reply_so stmt reply e = e

not_down : (stmt : Stmt) (reply : Reply) → is_answer stmt reply ≡ true → reply ≡ Down → ⊥
not_down stmt reply e is = absurd (cc (ap (is_answer stmt) (sym is), e))

pub replied : (d : Engine) (c : ChronicleState) (origin : Origin) (copy : ℕ) (down : Bool)
    (marks : List (Option Position)) (seen : VolumeSeen)
    (desk : IsDesk d c origin copy down marks seen) (session : Session) (stmt : Stmt)
    (reply : Reply) (next : Engine) (after : Bool) (seen_after : VolumeSeen)
    → Replies down d session stmt reply next after seen seen_after
    → Replied d c origin down seen session stmt reply next after seen_after
replied d c origin copy true marks seen desk session stmt reply next after seen_after replies =
    record {
      is = subst (λ (r : Reply). is_reply stmt r ≡ true) (sym replies.0) refl;
      was_down = λ e. replies.0;
      was_up = λ e. absurd (cc (e));
      down_after = replies.2;
      device = λ e. absurd (cc (replies.0, e));
      quiet = λ e. replies.3;
      forced = λ force e. absurd (cc (replies.0, e));
      room = subst (λ (r : Reply). SaysRoom (ground_of d) session.0 stmt r) (sym replies.0) tt;
      full = λ start stored. subst
          (λ (r : Reply). IfFull r (allowed_of start c.trace) (capacity_in d.space)) (sym replies.0)
          tt;
      log = subst (λ (r : Reply). SaysLog (ground_of d) session.0 stmt r) (sym replies.0) tt;
      log_full =
          subst (λ (r : Reply). IfLogFull r (logged_by 0 c.trace) d.log.pages) (sym replies.0) tt;
      kept = λ is. record {
        ground = ap ground_of replies.1;
        contents = ap (λ (x : Engine). (seen_in x).pages) replies.1;
      };
      capacity = ap (λ (x : Engine). capacity_in x.space) replies.1;
      set_aside = ap (λ (x : Engine). x.set_aside) replies.1;
      grows = grows_same d.log next.log (ap (λ (x : Engine). x.log) replies.1);
      calls = subst (CallsLog seen) (sym replies.3) (same_calls seen);
      effect = subst
          (λ (r : Reply). IfDoneEffect (ground_of d) session.0 stmt r (ground_of next))
          (sym replies.0) tt;
    }
replied d c origin copy false marks seen desk session stmt reply next after seen_after replies =
    let answered = replies.0 desk.state (allowed_of desk.start c.trace) (desk.shown refl) in
    record {
      is = reply_so stmt reply answered.is;
      was_down = λ e. absurd (cc (e));
      was_up = λ e. not_down stmt reply answered.is;
      down_after = replies.2;
      device = replies.1.device;
      quiet = replies.1.none;
      forced = replies.1.forced;
      room = answered.room;
      full = λ start stored.
          subst (λ (t : Table). IfFull reply (allowed_of t c.trace) (capacity_in d.space))
          (same_table (take origin.records d.log.records) desk.start start desk.starts stored)
          answered.full;
      log = answered.log;
      log_full = log_full_so (ground_of d) session.0 stmt reply (logged_by 0 c.trace) answered.log
          desk.logged;
      kept = answered.kept;
      capacity = answered.capacity;
      set_aside = answered.set_aside;
      grows = answered.grows;
      calls = replies.1.calls;
      effect = answered.effect;
    }

-- ---- the opening

-- the keys of entries
abbrev keys_in : List (ℕ × Row) → List ℕ
keys_in [] = []
keys_in (e ∷ es) = e.0 ∷ keys_in es

first_among : (table : Table) (es : List (ℕ × Row)) (k : ℕ) → is_some (map.find nat_cmp k es) ≡ true
    → IsAmong (keys_in es) k
first_among table [] k there = absurd (cc (there))
first_among table (e ∷ es) k there =
    by_test (eq_by_cmp nat_cmp k e.0) refl there (λ h. first_among table es k h)
  where
    by_test : (b : Bool) → eq_by_cmp nat_cmp k e.0 ≡ b
        → is_some (cond b (Some e.1) (map.find nat_cmp k es)) ≡ true
        → (is_some (map.find nat_cmp k es) ≡ true → IsAmong (keys_in es) k)
        → IsAmong (keys_in (e ∷ es)) k
    by_test true same h rest = inl (cmp_one k e.0 same)
    by_test false same h rest = inr (rest h)

keys_count : (es : List (ℕ × Row)) → length (keys_in es) ≡ length es
keys_count [] = refl
keys_count (e ∷ es) = ap suc (keys_count es)

pub desk_opened : (d : Engine) (c : ChronicleState) (records copy pages used calls : ℕ)
    (marks : List (Option Position)) (seen : VolumeSeen) (start : Table)
    → IsCopy copy → Shows (at_rest start copy) (4064 * pages) d → IsStored d.log.records start
    → records ≡ length d.log.records
    → taken_of d.log ≤ used → d.log.pages ≡ log_pages seen.capacities → LeavesIfTidy seen d.log
    → IsOnVolume copy d.log d.space marks seen → CleanIfTidy seen d → row_count start < 2 ^ 32
    → c.trace ≡ opened_entry copy (row_count start) pages used calls ∷ [] → c.calls ≡ calls
    → IsCount seen calls → IsRecorded c.trace c.calls
    → IsDesk d c (record { records = records; copy = copy }) copy false marks seen
desk_opened d c records copy pages used calls marks seen start is_copy shown starts opened taken
    log_pages_are leaves is_on clean few trace at counted recorded =
    let none : committed_table (at_rest start copy) ≡ start = committed-at_rest start copy in
    let first : State = at_rest (committed_table (at_rest start copy)) copy in
    let is : first ≡ at_rest start copy = ap (λ t. at_rest t copy) none in
    let run : Run [] (at_rest start copy)
    (opened_entry copy (row_count start) pages used calls ∷ []) first = (
      first,
      record {
        table = committed_table (at_rest start copy);
        left = only_one (committed_table (at_rest start copy))
            (committed_table (at_rest start copy)) refl;
        copy_left = ap (λ (b : Bool). b || (false && (copy == 3 - copy))) (nat_itself copy);
        counted = ap map.len none;
        at_rest = refl;
      },
      refl,
    ) in
    record {
      start = start;
      starts = subst (λ (rs : List Record). IsStored rs start)
          (sym (ap (λ (n : ℕ). take n d.log.records) opened ∙ take-length d.log.records)) starts;
      within = omega (arith, opened);
      state = at_rest start copy;
      begun = subst (IsBegun copy (row_count start)) (sym trace) (pages, used, refl);
      run = subst (λ (st : State). Run [] (at_rest start copy) c.trace st) is
          (subst (λ (es : List Entry). Run [] (at_rest start copy) es first) (sym trace) run);
      told = ap (state_by [] (first_state start)) trace;
      is_first = is_copy;
      is_copy = is_copy;
      copy_is = refl;
      down_is = refl;
      counted = count_is seen calls c.calls counted at;
      recorded = recorded;
      shown = λ up. subst (λ (es : List Entry). Shows (at_rest start copy) (allowed_of start es) d)
          (sym trace) shown;
      left = λ down. absurd (cc (down));
      logged = subst (λ (es : List Entry). taken_of d.log ≤ logged_by 0 es) (sym trace) taken;
      pages = log_pages_are;
      leaves = leaves;
      is_on = λ up. is_on;
      rests = λ down. absurd (cc (down));
      clean = λ up. clean;
      keys = keys_in (map.entries start);
      among = record {
        present = λ k there. first_among start (map.entries start) k
            (ap (λ (o : Option Row). is_some o) (sym (get-entries start k)) ∙ there);
        locked = λ k there. absurd
            (cc (there, ap (λ (o : Option Lock). is_some o) (get-empty {X = Lock} nat_cmp k)));
      };
      few = omega (arith, keys_count (map.entries start), len-entries start);
      few_rows = few;
    }
