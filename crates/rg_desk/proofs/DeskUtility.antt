-- A desk goes on by one entry of the utility.
use Rattle.std.proofs.Common.{◌≡◌, ◌≤◌, ◌+◌, ◌==◌, ◌&&◌, ◌||◌, not, if◌then◌else◌, ℕ, Bool, true}
use Rattle.std.proofs.Common.{false, List, [], ◌∷◌, ◌++◌, length, take, Option, Some, None, refl}
use Rattle.std.proofs.Common.{sym, ◌∙◌, ap, subst, arith, length-append}
use Rattle.std.specs.FinMap as map
use Rattle.std.specs.Option.{is_some}
use Rattle.rg_laws_utility.specs.ByteAccount.Account.{allowed_of, first_state, state_by}
use Rattle.rg_laws_utility.specs.ByteAccount.Laws.{opens}
use Rattle.rg_laws_utility.proofs.ByteAccountLemmas.Accounts.{state_push}
use Rattle.rg_base.specs.declared.control.Answer.{Answer}
use Rattle.rg_base.specs.declared.position.Position.{Position}
use Rattle.rg_model.proofs.RunPush.{Run-push, behind as pushed_behind}
use Rattle.rg_model.specs.Run.{Allows, Run}
use Rattle.rg_model.specs.State.{Locks, State, Table, at_rest, is_present, row_count}
use Rattle.rg_outside.proofs.Every.{told_weaken}
use Rattle.rg_log.specs.Kept.{Listed}
use Rattle.rg_page.specs.declared.list.ListFrames.{ListFrames}
use Rattle.rg_record.specs.declared.record.Record.{Record}
use Rattle.rg_space.specs.declared.space.Space.{Space}
use Rattle.rg_stmt.specs.declared.event.Actor.TheVariants as actors
use Rattle.rg_stmt.specs.declared.event.Entry.{Entry}
use Rattle.rg_stmt.specs.declared.event.Event.{Event}
use Rattle.rg_model.specs.Claims.{least_holder}
use Rattle.rg_model.specs.Possible.{next_state}
use Rattle.rg_model.specs.Said.{if_allowed}
use Rattle.rg_model.specs.State.{Utility}
use Rattle.rg_model.specs.Turn.{Turn, turn_of}
use Rattle.rg_model.specs.Utility.{new_utility, start_utility}
use Rattle.rg_base.specs.declared.options.DrainState.{DrainState}
use Rattle.rg_base.specs.declared.options.Options.{Options}
use Rattle.rg_base.specs.declared.session.Session.{Session}
use Rattle.rg_base.proofs.Small.{nat_itself}
use Rattle.rg_feed.specs.declared.fold.item.Stage.{Stage}
use Rattle.rg_rules.specs.Stage.Booked.{Booked, drain_kept, is_fall, is_switch_turn, utility_kept}
use Rattle.rg_rules.specs.Stage.Followed.{Followed}
use Rattle.rg_rules.specs.Stage.NumbersOf.{numbers_of}
use Rattle.rg_rules.proofs.StageLemmas.Booking.{entry_allowed}
use Rattle.rg_stmt.specs.declared.event.Event.TheVariants as events
use Rattle.rg_rules.specs.Tally.Changed.{ChangeCount}
use Rattle.rg_laws_utility.specs.TraceStage.Tending.{FollowsBy, IsSystem, NextBy, Tends, aside_for}
use Rattle.rg_laws_utility.specs.TraceStage.Tending.{is_booked}
use Rattle.rg_laws_utility.specs.TraceStage.Tending.{is_plain, utility_entry}
use Rattle.rg_model.specs.Run.{behind}
use Rattle.rg_laws_utility.proofs.TraceStageLemmas.Kept.{kept_on}
use Rattle.rg_laws_utility.proofs.TraceStageLemmas.Switching.{plain_neither, plain_turn}
use Rattle.rg_laws_utility.proofs.TraceStageLemmas.Tended.{tends_booked, tends_refused}
use Rattle.rg_laws_utility.proofs.TraceStageLemmas.Tended.{tends_started}
use Rattle.rg_laws_crash.specs.PageVersions.Versions.{Epoch}
use Rattle.rg_engine.specs.Bytes.{taken_of}
use Rattle.rg_engine.specs.Engine.{ground_of, seen_in}
use Rattle.rg_desk.specs.Chronicle.{ChronicleState, IsRecorded, logged_after, logged_by}
use Rattle.rg_desk.specs.Desk.{IsBegun, IsDesk, IfStartLogFull, IsStart}
use Rattle.rg_engine.specs.Layouts.{IsLayout}
use Rattle.rg_engine.specs.Utility.{started_count}
use Rattle.rg_model.specs.Utility.{starts_utility}
use Rattle.rg_engine.specs.Flushed.{FlushIs}
use Rattle.rg_page.specs.Content.{Content}
use Rattle.rg_engine.proofs.UtilityShows.{utility_shows}
use Rattle.rg_engine.specs.Left.{LeavesState}
use Rattle.rg_engine.specs.OnVolume.{IsOn, RestsOn, WasAllTidy}
use Rattle.rg_engine.specs.Reopens.{IsCleanIn, PartsReopen}
use Rattle.rg_engine.specs.Shows.{Shows}
use Rattle.rg_engine.specs.Stored.{IsStored}
use Rattle.rg_engine.specs.declared.units.OpenUnit.{OpenUnit}
use Rattle.rg_engine.specs.Utility.{IsNew, SameButUtility, StartIs, StepsOn}
use Rattle.rg_engine.specs.Volume.{IsCount, LeavesIfTidy}
use Rattle.rg_outside.specs.Volume.{VolumeSeen}
use Rattle.rg_engine.specs.declared.engine.Engine.{Engine}
use Rattle.rg_engine.specs.declared.origin.Origin.{Origin}
use Rattle.rg_desk.proofs.DeskGoes.{allowed-push, begun-push, count_is, logged-push}

-- the two ways to turn a trace are one
pub behind_is : (past entries : List Entry) → behind past entries ≡ pushed_behind past entries
behind_is past [] = refl
behind_is past (e ∷ es) = behind_is (e ∷ past) es

-- what is on the volume does not hang on what the log has reserved
on_reserved : (e : Epoch) (copy : ℕ) (log : Listed) (space : Space ListFrames)
    (marks : List (Option Position)) (seen : VolumeSeen) (n : ℕ)
    → IsOn e copy log space marks seen → IsOn e copy (record log { reserved = n }) space marks seen
on_reserved e copy log space marks seen n on = record {
  copy_is = on.copy_is;
  within = on.within;
  capacity = on.capacity;
  begun = on.begun;
  began = record {
    at = on.began.at;
    low = on.began.low;
    forced = on.began.forced;
    empties = on.began.empties;
  };
  newest = on.newest;
  leaves = on.leaves;
  marked = on.marked;
  bases = on.bases;
  counts = on.counts;
  parts = told_weaken (λ t. WasAllTidy seen.capacities t → PartsReopen seen.capacities e log)
      (λ t. WasAllTidy seen.capacities t
      → PartsReopen seen.capacities e (record log { reserved = n })) seen.told
      (λ t h tidy. let parts = h tidy in record { can = parts.can; low = parts.low }) on.parts;
}

left_reserved : (st after : State) (log : Listed) (n : ℕ) → after ≡ st → LeavesState st log
    → LeavesState after (record log { reserved = n })
left_reserved st after log n is left =
    subst (λ (x : State). LeavesState x (record log { reserved = n })) (sym is)
    (record { stored = left.stored })

module _ (d : Engine) (c : ChronicleState) (origin : Origin) (copy : ℕ) (down : Bool)
    (marks : List (Option Position)) (seen : VolumeSeen)
    (desk : IsDesk d c origin copy down marks seen) where
  -- the entry of an event of the utility that touches no row and no record
  pub desk_utility : (event : Event) (answer : Option Answer) (calls : ℕ) (after : State)
      (next : Engine) (new : ChronicleState)
      → next.space ≡ d.space → next.log ≡ record d.log { reserved = next.log.reserved }
      → taken_of next.log ≤ logged_after (logged_by 0 c.trace) event → opens event ≡ false
      → Allows (behind [] c.trace) answer actors.Utility event desk.state after
      → SameButUtility desk.state after → after.copy ≡ desk.state.copy
      → (down ≡ false → Shows after (allowed_of desk.start c.trace) next)
      → (down ≡ true → after ≡ desk.state) → (IsCleanIn d → IsCleanIn next)
      → new.trace ≡ c.trace ++ utility_entry event answer calls ∷ [] → new.calls ≡ calls
      → IsCount seen calls → IsRecorded new.trace new.calls
      → IsDesk next new origin copy down marks seen
  desk_utility event answer calls after next new space log taken other allows same copy_same shown
      down_same clean trace at counted recorded =
      let entry : Entry = utility_entry event answer calls in
      let longer = ap (λ (es : List Entry). length es) trace ∙ length-append c.trace (entry ∷ []) in
      let few = desk.few in
      let records : next.log.records ≡ d.log.records = ap (λ (l : Listed). l.records) log in
      record {
        start = desk.start;
        starts = subst (λ (rs : List Record). IsStored (take origin.records rs) desk.start)
            (sym records) desk.starts;
        within = subst (λ (rs : List Record). origin.records ≤ length rs) (sym records) desk.within;
        state = after;
        begun = subst (IsBegun origin.copy (row_count desk.start)) (sym trace)
            (begun-push origin.copy (row_count desk.start) c.trace entry desk.begun);
        run = subst (λ (es : List Entry). Run [] (at_rest desk.start origin.copy) es after)
            (sym trace)
            (Run-push [] (at_rest desk.start origin.copy) desk.state after c.trace entry desk.run
            (subst (λ (past : List Entry). Allows past answer actors.Utility event desk.state after)
            (behind_is [] c.trace) allows));
        told = ap (state_by [] (first_state desk.start)) trace
            ∙ state_push [] (first_state desk.start) desk.state after c.trace entry desk.told other
            allows;
        is_first = desk.is_first;
        is_copy = desk.is_copy;
        copy_is = copy_same ∙ desk.copy_is;
        down_is = same.down ∙ desk.down_is;
        counted = count_is seen calls new.calls counted at;
        recorded = recorded;
        shown = λ up. subst (λ (n : ℕ). Shows after n next)
            (sym
            (ap (allowed_of desk.start) trace
            ∙ allowed-push desk.start c.trace desk.state entry desk.told)) (shown up);
        left = λ is. subst (LeavesState after) (sym log)
            (left_reserved desk.state after d.log next.log.reserved (down_same is) (desk.left is));
        logged = omega (arith, ap (logged_by 0) trace, logged-push 0 c.trace entry, taken);
        pages = ap (λ (l : Listed). l.pages) log ∙ desk.pages;
        leaves = subst (LeavesIfTidy seen) (sym log) desk.leaves;
        is_on = λ up.
            let on = desk.is_on up in
            record {
              epoch = on.epoch;
              is_on =
                  subst (λ (l : Listed). IsOn on.epoch copy l next.space marks seen) (sym log)
                  (subst
                  (λ (sp : Space ListFrames). IsOn on.epoch copy
                  (record d.log { reserved = next.log.reserved }) sp marks seen) (sym space)
                  (on_reserved on.epoch copy d.log d.space marks seen next.log.reserved on.is_on));
            };
        rests = λ is. subst (λ (st : State). RestsOn st seen) (sym (down_same is)) (desk.rests is);
        clean = λ up. told_weaken (λ t. WasAllTidy seen.capacities t → IsCleanIn d)
            (λ t. WasAllTidy seen.capacities t → IsCleanIn next) seen.told
            (λ t h tidy. clean (h tidy)) (desk.clean up);
        keys = desk.keys;
        among = record {
          present = λ k there. desk.among.present k
              (ap (λ (table : Table). is_present table k) (sym same.table) ∙ there);
          locked = λ k there. desk.among.locked k
              (ap (λ (locks : Locks). map.contains_key locks k) (sym same.locks) ∙ there);
        };
        few = omega (arith, longer, few);
        few_rows = desk.few_rows;
      }

  -- ---- events that change nothing

  same_state : SameButUtility desk.state desk.state
  same_state = record {
    table = refl;
    locks = refl;
    claims = refl;
    down = refl;
    doubt = refl;
    copydoubt = refl;
  }

  -- an entry that leaves the state and the engine as they are
  pub desk_refused : (event : Event) (calls : ℕ) (new : ChronicleState)
      → ((n : ℕ) → logged_after n event ≡ n) → opens event ≡ false
      → Allows (behind [] c.trace) None actors.Utility event desk.state desk.state
      → new.trace ≡ c.trace ++ utility_entry event None calls ∷ [] → new.calls ≡ calls
      → IsCount seen calls → IsRecorded new.trace new.calls
      → IsDesk d new origin copy down marks seen
  desk_refused event calls new logged other allows trace at counted recorded =
      desk_utility event None calls desk.state d new refl refl
      (omega (arith, logged (logged_by 0 c.trace), desk.logged)) other allows same_state refl
      desk.shown (λ is. refl) (λ clean. clean) trace at counted recorded

-- what an entry that changes nothing needs of the state
down_allows : (past : List Entry) (st : State) → st.down ≡ true
    → (Allows past None actors.Utility events.StartDown st st)
    × (Allows past None actors.Utility events.StepDown st st)
down_allows past st down =
    (ap (λ (b : Bool). if_allowed b st) down, ap (λ (b : Bool). if_allowed b st) down)

active_allows : (past : List Entry) (st : State) (u : Utility) → st.down ≡ false
    → st.utility ≡ Some u → Allows past None actors.Utility events.Active st st
active_allows past st u up utility =
    ap (λ (b : Bool). if_allowed (not b && is_some st.utility) st) up
    ∙ ap (λ (o : Option Utility). if_allowed (is_some o) st) utility

none_allows : (past : List Entry) (st : State) → st.down ≡ false → st.utility ≡ None
    → (need left : ℕ)
    → (Allows past None actors.Utility (events.StartLogFull need left) st st)
    × (Allows past None actors.Utility events.StartNoMemory st st)
    × (Allows past None actors.Utility events.Idle st st)
none_allows past st up utility need left =
    let e : if_allowed (not st.down && not (is_some st.utility)) st ≡ Some st =
    ap (λ (b : Bool). if_allowed (not b && not (is_some st.utility)) st) up
    ∙ ap (λ (o : Option Utility). if_allowed (not (is_some o)) st) utility in
    (e, e, e)

start_allows : (past : List Entry) (st : State) (options : Options) (copy pages : ℕ)
    → st.down ≡ false → st.utility ≡ None → st.copy ≡ copy
    → Allows past None actors.Utility (events.Started options copy pages) st
    (start_utility st options pages)
start_allows past st options copy pages up utility same =
    let new : State = start_utility st options pages in
    ap (λ (b : Bool). if_allowed (not b && (not (is_some st.utility) && (copy == st.copy))) new) up
    ∙ ap (λ (o : Option Utility). if_allowed (not (is_some o) && (copy == st.copy)) new) utility
    ∙ ap (λ (n : ℕ). if_allowed (copy == n) new) same
    ∙ ap (λ (b : Bool). if_allowed b new) (nat_itself copy)

-- the state that the trace leads to shows the stage
module _ (d : Engine) (c : ChronicleState) (origin : Origin) (copy : ℕ) (down : Bool)
    (marks : List (Option Position)) (seen : VolumeSeen)
    (desk : IsDesk d c origin copy down marks seen) (stage : Option Stage) (count : ChangeCount)
    (tends : Tends c.trace stage count d.set_aside) where
  pub state_shows : (desk.state.utility ≡ utility_kept stage)
      × (desk.state.drain ≡ drain_kept stage)
  state_shows = tends.shows desk.start origin.copy desk.state desk.run

-- ---- a control statement

-- a desk and what it tends, after an entry
abbrev pub GoesOn : Engine → ChronicleState → Origin → (copy : ℕ) → (down : Bool)
    → List (Option Position) → VolumeSeen → Option Stage → ChangeCount → Type 0
GoesOn d c origin copy down marks seen stage count =
    IsDesk d c origin copy down marks seen × Tends c.trace stage count d.set_aside

module _ (c : ChronicleState) (origin : Origin) (copy : ℕ) (marks : List (Option Position))
    (seen : VolumeSeen) (count : ChangeCount) (calls : ℕ) (new : ChronicleState)
    (at : new.calls ≡ calls) (counted : IsCount seen calls)
    (recorded : IsRecorded new.trace new.calls) where
  -- it was refused
  refused_on : (d : Engine) (down : Bool) (stage : Option Stage) (event : Event)
      (desk : IsDesk d c origin copy down marks seen) → Tends c.trace stage count d.set_aside
      → ((n : ℕ) → logged_after n event ≡ n) → opens event ≡ false
      → Allows (behind [] c.trace) None actors.Utility event desk.state desk.state
      → Tends (c.trace ++ utility_entry event None calls ∷ []) stage count d.set_aside
      → new.trace ≡ c.trace ++ utility_entry event None calls ∷ []
      → GoesOn d new origin copy down marks seen stage count
  refused_on d down stage event desk tends logged other allows after trace = (
    desk_refused d c origin copy down marks seen desk event calls new logged other allows trace at
        counted recorded,
    subst (λ (es : List Entry). Tends es stage count d.set_aside) (sym trace) after,
  )

  pub start_on : (options : Options) (d : Engine) (down : Bool) (stage : Option Stage)
      (event : Event) (next : Option Stage) (after : Engine)
      → IsDesk d c origin copy down marks seen → Tends c.trace stage count d.set_aside
      → StartIs down stage options copy d event next after
      → new.trace ≡ c.trace ++ utility_entry event None calls ∷ []
      → GoesOn after new origin copy down marks seen next
      (started_count (starts_utility event) count)
  start_on options d true stage event next after desk tends is trace =
      let down : Allows (behind [] c.trace) None actors.Utility events.StartDown desk.state
      desk.state = (down_allows (behind [] c.trace) desk.state desk.down_is).0 in
      subst
      (λ (e : Event). GoesOn after new origin copy true marks seen next
      (started_count (starts_utility e) count)) (sym is.0)
      (subst (λ (x : Engine). GoesOn x new origin copy true marks seen next count) (sym is.2)
      (subst (λ (s : Option Stage). GoesOn d new origin copy true marks seen s count) (sym is.1)
      (refused_on d true stage events.StartDown desk tends (λ n. refl) refl down
      (tends_refused c.trace stage count d.set_aside events.StartDown calls tt tends)
      (trace ∙ ap (λ (e : Event). c.trace ++ utility_entry e None calls ∷ []) is.0))))
  start_on options d false (Some s) event next after desk tends is trace =
      let active = active_allows (behind [] c.trace) desk.state (numbers_of s) desk.down_is
      (state_shows d c origin copy false marks seen desk (Some s) count tends).0 in
      subst
      (λ (e : Event). GoesOn after new origin copy false marks seen next
      (started_count (starts_utility e) count)) (sym is.0)
      (subst (λ (x : Engine). GoesOn x new origin copy false marks seen next count) (sym is.2)
      (subst (λ (t : Option Stage). GoesOn d new origin copy false marks seen t count) (sym is.1)
      (refused_on d false (Some s) events.Active desk tends (λ n. refl) refl active
      (tends_refused c.trace (Some s) count d.set_aside events.Active calls tt tends)
      (trace ∙ ap (λ (e : Event). c.trace ++ utility_entry e None calls ∷ []) is.0))))
  start_on options d false None (events.StartLogFull need left) next after desk tends is trace =
      let none =
      (none_allows (behind [] c.trace) desk.state desk.down_is
      (state_shows d c origin copy false marks seen desk None count tends).0 need left).0 in
      subst (λ (x : Engine). GoesOn x new origin copy false marks seen next count) (sym is.4)
      (subst (λ (t : Option Stage). GoesOn d new origin copy false marks seen t count) (sym is.3)
      (refused_on d false None (events.StartLogFull need left) desk tends (λ n. refl) refl none
      (tends_refused c.trace None count d.set_aside (events.StartLogFull need left) calls tt tends)
      trace))
  start_on options d false None events.StartNoMemory next after desk tends is trace =
      let none =
      (none_allows (behind [] c.trace) desk.state desk.down_is
      (state_shows d c origin copy false marks seen desk None count tends).0 0 0).1 in
      subst (λ (x : Engine). GoesOn x new origin copy false marks seen next count) (sym is.1)
      (subst (λ (t : Option Stage). GoesOn d new origin copy false marks seen t count) (sym is.0)
      (refused_on d false None events.StartNoMemory desk tends (λ n. refl) refl none
      (tends_refused c.trace None count d.set_aside events.StartNoMemory calls tt tends) trace))
  start_on options d false None (events.Started given of_copy pages) None after desk tends is
      trace = absurd is.3
  start_on options d false None (events.Started given of_copy pages) (Some s) after desk tends is
      trace =
      let shows = state_shows d c origin copy false marks seen desk None count tends in
      let holds = is.4 in
      let state : State = start_utility desk.state given pages in
      let same : SameButUtility desk.state state = record {
        table = refl;
        locks = refl;
        claims = refl;
        down = refl;
        doubt = refl;
        copydoubt = refl;
      } in
      let log : after.log ≡ record d.log { reserved = after.log.reserved } =
      ap (λ (x : Engine). x.log) holds.same in
      let bytes = ap (λ (l : Listed). taken_of l) log in (
        desk_utility d c origin copy false marks seen desk (events.Started given of_copy pages) None
            calls state after new (ap (λ (x : Engine). x.space) holds.same) log
            (omega (arith, bytes, holds.reserved, desk.logged)) refl
            (start_allows (behind [] c.trace) desk.state given of_copy pages desk.down_is shows.0
            (desk.copy_is ∙ sym is.1)) same refl
            (λ up. utility_shows desk.state state (allowed_of desk.start c.trace) after
            (holds.shows desk.state (allowed_of desk.start c.trace) (desk.shown up)) same
            ((desk.shown up).by.drain ∙ ap (λ (x : Engine). x.claims.drain) (sym holds.same)))
            (λ is. absurd (cc (is))) holds.clean trace at counted recorded,
        subst (λ (es : List Entry). Tends es (Some s) (record count { since = 0 }) after.set_aside)
            (sym trace) (subst
            (λ (n : ℕ).
            Tends (c.trace ++ utility_entry (events.Started given of_copy pages) None calls ∷ [])
            (Some s) (record count { since = 0 }) n)
            (sym (ap (λ (x : Engine). x.set_aside) holds.same))
            (tends_started c.trace count d.set_aside given of_copy pages calls s tends
            (is.3.0 ∙ ap (λ (o : Options). new_utility o pages) (sym is.0)) is.3.1)),
      )
  start_on options d false None event next after desk tends is trace = absurd is

-- the changes that are counted then
pub count_since : (started : Bool) (count : ChangeCount)
    → (started_count started count).since ≡ (if started then 0 else count.since)
count_since true count = refl
count_since false count = refl

-- what callers are told
pub start_made : (down : Bool) (stage : Option Stage) (options : Options) (copy : ℕ) (d : Engine)
    (event : Event) (next : Option Stage) (after : Engine)
    → StartIs down stage options copy d event next after
    → IsStart down stage options copy (length (seen_in d).pages) d.log event next
start_made true stage options copy d event next after is = (is.0, is.1)
start_made false (Some s) options copy d event next after is = (is.0, is.1)
start_made false None options copy d (events.Started given of_copy pages) next after is =
    (is.0, is.1, is.2, subst (λ (n : ℕ). IsNew options n next) is.2 is.3)
start_made false None options copy d (events.StartLogFull need left) next after is =
    (is.0, is.1, is.2, is.3)
start_made false None options copy d events.StartNoMemory next after is = is.0
start_made false None options copy d event next after is = absurd is

refused_full : (event other : Event) (logged pages : ℕ) → event ≡ other
    → IfStartLogFull other logged pages → IfStartLogFull event logged pages
refused_full event other logged pages is full =
    subst (λ (e : Event). IfStartLogFull e logged pages) (sym is) full

pub start_full : (down : Bool) (stage : Option Stage) (options : Options) (copy : ℕ) (d : Engine)
    (event : Event) (next : Option Stage) (after : Engine) (logged : ℕ)
    → StartIs down stage options copy d event next after → taken_of d.log ≤ logged
    → IfStartLogFull event logged d.log.pages
start_full true stage options copy d event next after logged is taken =
    refused_full event events.StartDown logged d.log.pages is.0 tt
start_full false (Some s) options copy d event next after logged is taken =
    refused_full event events.Active logged d.log.pages is.0 tt
start_full false None options copy d (events.Started given of_copy pages) next after logged is
    taken = tt
start_full false None options copy d (events.StartLogFull need left) next after logged is taken =
    omega (arith, is.1, is.2, taken)
start_full false None options copy d events.StartNoMemory next after logged is taken = tt
start_full false None options copy d event next after logged is taken = absurd is

-- the engine holds other bytes of the log, and is as before else
abbrev pub IsAside : Engine → Engine → Type 0
IsAside d after = after
    ≡ record d { log = record d.log { reserved = after.log.reserved }; set_aside = after.set_aside }

same_aside : (d after : Engine) → after ≡ d → IsAside d after
same_aside d after is = subst (λ (x : Engine). IsAside d x) (sym is) refl

same_reserved : (d after : Engine) (stage next : Option Stage) → after ≡ d → next ≡ stage
    → after.log.reserved + aside_for stage ≡ d.log.reserved + aside_for next
same_reserved d after stage next is same = ap (λ (x : Engine). x.log.reserved + aside_for stage) is
    ∙ ap (λ (s : Option Stage). d.log.reserved + aside_for s) (sym same)

pub start_aside : (down : Bool) (stage : Option Stage) (options : Options) (copy : ℕ) (d : Engine)
    (event : Event) (next : Option Stage) (after : Engine)
    → StartIs down stage options copy d event next after → IsAside d after
start_aside true stage options copy d event next after is = same_aside d after is.2
start_aside false (Some s) options copy d event next after is = same_aside d after is.2
start_aside false None options copy d (events.Started given of_copy pages) next after is =
    let same = is.4.same in
    same
    ∙ ap
    (λ (n : ℕ). let x : Engine =
    record d { log = record d.log { reserved = after.log.reserved }; set_aside = n } in x)
    (sym (ap (λ (x : Engine). x.set_aside) same))
start_aside false None options copy d (events.StartLogFull need left) next after is =
    same_aside d after is.4
start_aside false None options copy d events.StartNoMemory next after is = same_aside d after is.1
start_aside false None options copy d event next after is = absurd is

-- what is reserved changes as what is set aside does
pub start_reserved : (down : Bool) (stage : Option Stage) (options : Options) (copy : ℕ)
    (d : Engine) (event : Event) (next : Option Stage) (after : Engine)
    → StartIs down stage options copy d event next after → d.set_aside ≡ aside_for stage
    → after.log.reserved + aside_for stage ≡ d.log.reserved + aside_for next
start_reserved true stage options copy d event next after is aside =
    same_reserved d after stage next is.2 is.1
start_reserved false (Some s) options copy d event next after is aside =
    same_reserved d after (Some s) next is.2 is.1
start_reserved false None options copy d (events.Started given of_copy pages) None after is aside =
    absurd is.3
start_reserved false None options copy d (events.Started given of_copy pages) (Some s) after is
    aside = omega
    (arith, is.4.reserved, aside, ap {B = ℕ} (λ (u : Utility). if u.switched then 0 else 28) is.3.0)
start_reserved false None options copy d (events.StartLogFull need left) next after is aside =
    same_reserved d after None next is.4 is.3
start_reserved false None options copy d events.StartNoMemory next after is aside =
    same_reserved d after None next is.1 is.0
start_reserved false None options copy d event next after is aside = absurd is

-- ---- a step

-- what writes are planned over is as it was, but for what is reserved
pub ground_same : (d after : Engine) → after.space ≡ d.space
    → after.log ≡ record d.log { reserved = after.log.reserved } → after.units ≡ d.units
    → after.top ≡ d.top
    → ground_of after
    ≡ record (ground_of d) { log = record d.log { reserved = after.log.reserved } }
ground_same d after space log units top =
    let at_space : ground_of after ≡ ground_of (record after { space = d.space }) =
    ap (λ sp. ground_of (record after { space = sp })) space in
    let at_units : ground_of (record after { space = d.space })
    ≡ ground_of (record after { space = d.space; units = d.units }) =
    ap (λ (us : List (Option OpenUnit)). ground_of (record after { space = d.space; units = us }))
    units in
    let at_top : ground_of (record after { space = d.space; units = d.units })
    ≡ ground_of (record after { space = d.space; units = d.units; top = d.top }) =
    ap (λ (n : ℕ). ground_of (record after { space = d.space; units = d.units; top = n })) top in
    let at_log : ground_of (record after { space = d.space; units = d.units; top = d.top })
    ≡ ground_of
    (record after {
      space = d.space;
      units = d.units;
      top = d.top;
      log = record d.log { reserved = after.log.reserved };
    }) = ap
    (λ (l : Listed).
    ground_of (record after { space = d.space; units = d.units; top = d.top; log = l })) log in
    at_space ∙ at_units ∙ at_top ∙ at_log

pub booked_logged : (event : Event) (n : ℕ) → is_booked event ≡ true → logged_after n event ≡ n
booked_logged (events.Started options copy pages) n is = absurd (cc (is))
booked_logged (events.Opened copy rows pages used) n is = absurd (cc (is))
booked_logged (events.Said stmt reply) n is = absurd (cc (is))
booked_logged (events.Switched copy sides) n is = absurd (cc (is))
booked_logged event n is = refl

pub booked_late : (event : Event) → is_booked event ≡ true → opens event ≡ false
booked_late (events.Opened copy rows pages used) is = absurd (cc (is))
booked_late event is = refl

pub booked_allows : (past : List Entry) (answer : Answer) (event : Event) (st new : State)
    → next_state past (Some answer) actors.Utility event st ≡ Some new
    → Allows past (Some answer) actors.Utility event st new
booked_allows past answer event st new e = e

module _ (d : Engine) (c : ChronicleState) (origin : Origin) (copy : ℕ)
    (marks : List (Option Position)) (seen : VolumeSeen)
    (desk : IsDesk d c origin copy false marks seen) (s : Stage) (count : ChangeCount)
    (tends : Tends c.trace (Some s) count d.set_aside)
    (answer : Answer) (event : Event) (next : Option Stage) (after : Engine)
    (is : is_plain
    (turn_of count.since (least_holder d.claims.drain d.claims.claims) answer (numbers_of s) s.drain
    event) ≡ true) (quiet : (n : ℕ) → logged_after n event ≡ n) (other : opens event ≡ false)
    (steps : StepsOn d s count.since answer event next after) where
  abbrev past : List Entry
  past = behind [] c.trace

  has : (turn : Turn)
      × (turn_of count.since (least_holder d.claims.drain d.claims.claims) answer (numbers_of s)
      s.drain event ≡ Some turn)
      × (is_plain (Some turn) ≡ true)
  has = plain_turn _ is

  plain : (is_switch_turn has.0 ≡ false) × (is_fall has.0 ≡ false)
  plain = plain_neither has.0 has.2

  followed : Followed has.0 next
  followed = steps.follows (least_holder d.claims.drain d.claims.claims) has.0 has.1

  booked : Booked past answer event desk.state desk.state.copy (is_fall has.0) next
  booked =
      let shows = state_shows d c origin copy false marks seen desk (Some s) count tends in
      let by = (desk.shown refl).by in
      entry_allowed past answer event desk.state s has.0 next
      (record { utility = shows.0; drain = shows.1; up = desk.down_is }) (ap
      (λ (n : ℕ). turn_of n (least_holder desk.state.drain desk.state.claims) answer (numbers_of s)
      s.drain event) (sym tends.counted.since)
      ∙ ap (λ (o : Option Session). turn_of count.since o answer (numbers_of s) s.drain event)
      (ap (λ (drain : DrainState). least_holder drain desk.state.claims) by.drain
      ∙ ap (λ cs. least_holder d.claims.drain cs) by.claims)
      ∙ has.1)
      plain.0 followed

  no_fall : (b : Bool) → (is_fall has.0 || b) ≡ b
  no_fall b = ap (λ (f : Bool). f || b) plain.1

  same : SameButUtility desk.state (booked).after
  same = record {
    table = booked.table;
    locks = booked.locks;
    claims = booked.claims;
    down = booked.down ∙ no_fall desk.state.down;
    doubt = booked.doubt;
    copydoubt = booked.copydoubt ∙ no_fall desk.state.copydoubt;
  }

  pub step_on : (calls : ℕ) (new : ChronicleState)
      → new.trace ≡ c.trace ++ utility_entry event (Some answer) calls ∷ [] → new.calls ≡ calls
      → IsCount seen calls → IsRecorded new.trace new.calls
      → GoesOn after new origin copy false marks seen next count
  step_on calls new trace at counted recorded = (
    desk_utility d c origin copy false marks seen desk event (Some answer) calls (booked).after
        after new steps.engine.space steps.engine.log
        (omega (arith, quiet (logged_by 0 c.trace), steps.engine.taken, desk.logged)) other
        (booked_allows past answer event desk.state (booked).after booked.allowed) same
        booked.copy_is
        (λ up. steps.engine.shows desk.state (booked).after (allowed_of desk.start c.trace)
        (desk.shown up) same booked.drain)
        (λ is. absurd (cc (is))) steps.engine.clean trace at counted recorded,
    subst (λ (es : List Entry). Tends es next count after.set_aside) (sym trace) (subst
        (λ (n : ℕ). Tends (c.trace ++ utility_entry event (Some answer) calls ∷ []) next count n)
        (sym steps.engine.aside_is) (tends_booked c.trace s count d.set_aside answer event calls
        (least_holder d.claims.drain d.claims.claims) has.0 next tends has.1 steps.follows
        (kept_on count.since (length c.trace) s (least_holder d.claims.drain d.claims.claims) answer
        event has.0 next tends.within steps.bounded has.1 followed))),
  )

-- a step that finds no utility, or the desk down
pub idle_on : (d : Engine) (c : ChronicleState) (origin : Origin) (copy : ℕ) (down : Bool)
    (marks : List (Option Position)) (seen : VolumeSeen)
    (desk : IsDesk d c origin copy down marks seen) (stage : Option Stage) (count : ChangeCount)
    (tends : Tends c.trace stage count d.set_aside) (covered : Option Session) (event : Event)
    → NextBy down stage count.since covered None event
    → (calls : ℕ) (new : ChronicleState)
    → new.trace ≡ c.trace ++ utility_entry event None calls ∷ [] → new.calls ≡ calls
    → IsCount seen calls → IsRecorded new.trace new.calls
    → GoesOn d new origin copy down marks seen stage count
idle_on d c origin copy true marks seen desk stage count tends covered events.StepDown is calls new
    trace at counted recorded =
    refused_on c origin copy marks seen count calls new at counted recorded d true stage
    events.StepDown desk tends (λ n. refl) refl
    (down_allows (behind [] c.trace) desk.state desk.down_is).1
    (tends_refused c.trace stage count d.set_aside events.StepDown calls tt tends) trace
idle_on d c origin copy true marks seen desk stage count tends covered event is calls new trace at
    counted recorded = absurd is
idle_on d c origin copy false marks seen desk (Some s) count tends covered event is calls new trace
    at counted recorded = absurd is
idle_on d c origin copy false marks seen desk None count tends covered events.Idle is calls new
    trace at counted recorded =
    refused_on c origin copy marks seen count calls new at counted recorded d false None events.Idle
    desk tends (λ n. refl) refl
    (none_allows (behind [] c.trace) desk.state desk.down_is
    (state_shows d c origin copy false marks seen desk None count tends).0 0 0).2
    (tends_refused c.trace None count d.set_aside events.Idle calls tt tends) trace
idle_on d c origin copy false marks seen desk None count tends covered event is calls new trace at
    counted recorded = absurd is

-- a step without an answer leaves the stage as it was
pub idle_follows :
    (down : Bool) (stage : Option Stage) (changes : ℕ) (covered : Option Session) (event : Event)
    → FollowsBy down stage changes covered None event stage
idle_follows true stage changes covered event = refl
idle_follows false None changes covered event = refl
idle_follows false (Some s) changes covered event = refl

-- ---- layouts and flushes

pub layout_system : (copy : ℕ) (event : Event) → IsLayout copy event → IsSystem event
layout_system copy (events.Layout shown side) is = tt
layout_system copy events.LayoutNoMemory is = tt
layout_system copy events.LayoutDown is = tt
layout_system copy event is = absurd is

pub flush_system : (down : Bool) (copy : ℕ) (contents : List Content)
    (marks later : List (Option Position)) (old new : VolumeSeen) (event : Event)
    → FlushIs down copy contents marks later old new event → IsSystem event
flush_system true copy contents marks later old new event is = subst IsSystem (sym is.0) tt
flush_system false copy contents marks later old new (events.Flush page) is = tt
flush_system false copy contents marks later old new events.Clean is = tt
flush_system false copy contents marks later old new events.FlushDevice is = tt
flush_system false copy contents marks later old new events.FlushNoMemory is = tt
flush_system false copy contents marks later old new event is = absurd is
