-- What the entries before tell a step, over a death of the process.
--
-- 1. An opening ends all units and the utility. So of the entries before, those since the last
--    opening tell which units are open and which keys are locked (`SameUnits`).
-- 2. What was done since a utility started is told by the entries since, and these are younger than
--    the last opening while it runs (`SameSince`).
use Rattle.std.proofs.Common.{◌≡◌, ◌+◌, ◌-◌, ◌==◌, ◌&&◌, not, if◌then◌else◌, ℕ, Bool, true, List}
use Rattle.std.proofs.Common.{[], ◌∷◌, Option, Some, None, refl, sym, ◌∙◌, ap, subst}
use Rattle.std.specs.FinMap as map
use Rattle.std.specs.List.{list_all}
use Rattle.rg_desk.proofs.DeskUtility.{layout_system}
use Rattle.rg_base.specs.declared.control.Answer.{Answer}
use Rattle.rg_base.specs.declared.options.DrainState.TheVariants.{Free}
use Rattle.rg_base.specs.declared.options.Options.{Options}
use Rattle.rg_model.specs.Changes.{changes, changes_after, changes_of, is_rollback, is_unit_end}
use Rattle.rg_model.specs.Changes.{is_write, unit_writes, unit_writes_after}
use Rattle.rg_model.specs.Claims.{least_holder}
use Rattle.rg_model.specs.Layout.{is_right_side}
use Rattle.rg_model.specs.Possible.{next_state, state_after_step}
use Rattle.rg_model.specs.Quiet.{is_among, is_locked_by, is_locked_in, is_quiet, is_quiet_by}
use Rattle.rg_model.specs.Quiet.{is_write_of}
use Rattle.rg_model.specs.Right.{are_clustered, are_quiet_right, is_at_home, is_packed}
use Rattle.rg_model.specs.Right.{is_right_switch, quiet_spots}
use Rattle.rg_model.specs.Run.{Allows}
use Rattle.rg_model.specs.Said.{if_allowed}
use Rattle.rg_model.specs.State.{State, Utility}
use Rattle.rg_model.specs.Turn.{Turn, Runs, Switches, Stops, Falls, turn_of}
use Rattle.rg_model.specs.Utility.{state_by_turn, state_stepped}
use Rattle.rg_stmt.specs.Entries.{opened_entry, said_entry}
use Rattle.rg_stmt.specs.declared.event.Actor.{Actor}
use Rattle.rg_stmt.specs.declared.event.Actor.TheVariants as actors
use Rattle.rg_stmt.specs.declared.event.Entry.{Entry}
use Rattle.rg_stmt.specs.declared.event.Event.{Event}
use Rattle.rg_stmt.specs.declared.event.Event.TheVariants as events
use Rattle.rg_stmt.specs.declared.layout.Sides.{Sides}
use Rattle.rg_stmt.specs.declared.layout.Spot.{Spot}
use Rattle.rg_stmt.specs.declared.line.Line.{Line}
use Rattle.rg_stmt.specs.declared.line.Line.TheVariants.{Death, Flush, Reorg, Said, Show, Step}
use Rattle.rg_phase.specs.Step.{is_made}
use Rattle.rg_laws_utility.specs.TraceStage.Tending.{IsRefusedEvent, IsSystem, utility_entry}
use Rattle.rg_laws_utility.proofs.TraceStageLemmas.Keeping.{refused_is, said_keeps, system_keeps}
use Rattle.rg_run.specs.Played.{EntryOf, IsFlushed, IsOpenedEntry, IsStartEvent, IsStepEvent}

-- ---- what is told

-- the entries before, the newest first, tell the same of open units
pub record SameUnits (past other : List Entry) : Type 0 where
  pub writes : (session : ℕ) → unit_writes session past ≡ unit_writes session other
  pub locked : (key : ℕ) (over : List ℕ) → is_locked_in key over past ≡ is_locked_in key over other

-- and of what was done since a utility started
pub record SameSince (past other : List Entry) : Type 0 where
  pub count : changes past ≡ changes other
  pub quiet : (key : ℕ) → is_quiet key past ≡ is_quiet key other

-- a utility runs, and then this holds
abbrev pub IfRuns : Option Utility → Type 0 → Type 0
IfRuns None P = Unit {0}
IfRuns (Some u) P = P

pub runs_weaken : (o : Option Utility) (P Q : Type 0) → (P → Q) → IfRuns o P → IfRuns o Q
runs_weaken None P Q f p = tt
runs_weaken (Some u) P Q f p = f p

runs_any : (o : Option Utility) (P : Type 0) → P → IfRuns o P
runs_any None P p = tt
runs_any (Some u) P p = p

-- ---- one entry more

locked_by : (key : ℕ) (over : List ℕ) (actor : Actor) (event : Event) (f g : List ℕ → Bool)
    → ((os : List ℕ) → f os ≡ g os)
    → is_locked_by key over actor event f ≡ is_locked_by key over actor event g
locked_by key over actor (events.Opened copy rows pages used) f g same = refl
locked_by key over (actors.Session session) (events.Said stmt reply) f g same =
    ap
    (λ (b : Bool). if is_unit_end stmt reply then b
    else (if is_write_of key stmt reply then not (is_among over session.0) else f over))
    (same (session.0 ∷ over))
    ∙ ap
    (λ (b : Bool). if is_unit_end stmt reply then g (session.0 ∷ over)
    else (if is_write_of key stmt reply then not (is_among over session.0) else b)) (same over)
locked_by key over actor event f g same = same over

pub units_more : (past other : List Entry) (entry : Entry) → SameUnits past other
    → SameUnits (entry ∷ past) (entry ∷ other)
units_more past other entry same = record {
  writes = λ session. ap (unit_writes_after session entry.actor entry.event) (same.writes session);
  locked = λ key over. locked_by key over entry.actor entry.event (λ os. is_locked_in key os past)
      (λ os. is_locked_in key os other) (same.locked key);
}

changes_same : (actor : Actor) (event : Event) (past other : List Entry) → SameUnits past other
    → changes_of actor event past ≡ changes_of actor event other
changes_same (actors.Session session) (events.Said stmt reply) past other units =
    ap (λ (k : ℕ). if is_write stmt reply then 1 else (if is_rollback stmt reply then k else 0))
    (units.writes session.0)
changes_same (actors.Session session) event past other units = refl
changes_same actors.System event past other units = refl
changes_same actors.Utility event past other units = refl

count_more : (actor : Actor) (event : Event) (past other : List Entry) (m n : ℕ)
    → SameUnits past other → m ≡ n
    → changes_after actor event past m ≡ changes_after actor event other n
count_more actor (events.Started options copy pages) past other m n units same = refl
count_more actor event past other m n units same =
    ap (λ (k : ℕ). k + changes_of actor event past) same
    ∙ ap (λ (k : ℕ). n + k) (changes_same actor event past other units)

quiet_more : (key : ℕ) (actor : Actor) (event : Event) (past other : List Entry) (b c : Bool)
    → SameUnits past other → b ≡ c
    → is_quiet_by key actor event past b ≡ is_quiet_by key actor event other c
quiet_more key actor (events.Started options copy pages) past other b c units same =
    ap not (units.locked key [])
quiet_more key (actors.Session session) (events.Said stmt reply) past other b c units same =
    ap (λ (t : Bool). not (is_write_of key stmt reply) && t) same
quiet_more key actor event past other b c units same = same

since_more : (past other : List Entry) (entry : Entry) → SameUnits past other → SameSince past other
    → SameSince (entry ∷ past) (entry ∷ other)
since_more past other entry units same = record {
  count =
      count_more entry.actor entry.event past other (changes past) (changes other) units same.count;
  quiet = λ key. quiet_more key entry.actor entry.event past other (is_quiet key past)
      (is_quiet key other) units (same.quiet key);
}

-- a start begins anew
since_start : (past other : List Entry) (options : Options) (copy pages calls : ℕ)
    → SameUnits past other
    → SameSince (utility_entry (events.Started options copy pages) None calls ∷ past)
    (utility_entry (events.Started options copy pages) None calls ∷ other)
since_start past other options copy pages calls units =
    record { count = refl; quiet = λ key. ap not (units.locked key []) }

-- ---- a step

spots_same : (past other : List Entry) → ((key : ℕ) → is_quiet key past ≡ is_quiet key other)
    → (spots : List Spot) → quiet_spots past spots ≡ quiet_spots other spots
spots_same past other same [] = refl
spots_same past other same (spot ∷ spots) =
    ap (λ (b : Bool). if b then spot ∷ quiet_spots past spots else quiet_spots past spots)
    (same spot.key)
    ∙ ap (λ (xs : List Spot). if is_quiet spot.key other then spot ∷ xs else xs)
    (spots_same past other same spots)

right_same : (past other : List Entry) (st : State) (options : Options) (sides : Sides)
    → SameSince past other
    → is_right_switch past st options sides ≡ is_right_switch other st options sides
right_same past other st options sides same =
    ap
    (λ (b : Bool). is_right_side st.table sides.old
    && (is_right_side st.table sides.new
    && (map.len st.claims == 0
    && (b && (if changes past == 0 then is_packed options st.table sides.new else true)))))
    (ap (λ (spots : List Spot). list_all is_at_home spots && are_clustered spots)
    (spots_same past other same.quiet sides.new.spots))
    ∙ ap
    (λ (n : ℕ). is_right_side st.table sides.old
    && (is_right_side st.table sides.new
    && (map.len st.claims == 0
    && (are_quiet_right other sides.new.spots
    && (if n == 0 then is_packed options st.table sides.new else true))))) same.count

turn_same : (past other : List Entry) (st : State) (u : Utility) (turn : Option Turn)
    → SameSince past other → state_by_turn past st u turn ≡ state_by_turn other st u turn
turn_same past other st u None same = refl
turn_same past other st u (Some (Runs v drain)) same = refl
turn_same past other st u (Some (Switches copy sides v)) same =
    ap
    (λ (b : Bool). if_allowed (copy == 3 - st.copy && (sides.new.pages == u.shadow && b))
    (record st { copy = copy; drain = Free; utility = Some v }))
    (right_same past other st u.options sides same)
turn_same past other st u (Some Stops) same = refl
turn_same past other st u (Some Falls) same = refl

stepped_same :
    (past other : List Entry) (answer : Option Answer) (event : Event) (st : State) (u : Utility)
    → SameSince past other
    → state_stepped past answer event st u ≡ state_stepped other answer event st u
stepped_same past other None event st u same = refl
stepped_same past other (Some answer) event st u same =
    ap
    (λ (n : ℕ). state_by_turn past st u
    (turn_of n (least_holder st.drain st.claims) answer u st.drain event)) same.count
    ∙ turn_same past other st u
    (turn_of (changes other) (least_holder st.drain st.claims) answer u st.drain event) same

-- a step that is allowed finds a utility, and is allowed by the other entries, too
after_same : (past other : List Entry) (answer : Option Answer) (event : Event) (st new : State)
    (o : Option Utility)
    → IfRuns o (SameSince past other) → state_after_step past answer event st o ≡ Some new
    → (state_after_step other answer event st o ≡ Some new) × SameSince past other
after_same past other answer event st new None same is = absurd (cc (is))
after_same past other answer event st new (Some u) same is = (
  sym
      (ap (λ (x : Option State). if st.down then None else x)
      (stepped_same past other answer event st u same)) ∙ is,
  same,
)

-- ---- the entry of a line

flushed_system : (event : Event) → IsFlushed event → IsSystem event
flushed_system (events.Flush page) is = tt
flushed_system events.Clean is = tt
flushed_system events.FlushDevice is = tt
flushed_system events.FlushDown is = tt
flushed_system events.FlushNoMemory is = tt
flushed_system event is = absurd is

system_any : (past other : List Entry) (event : Event) (st new : State) → IsSystem event
    → Allows past None actors.System event st new → Allows other None actors.System event st new
system_any past other (events.Opened copy rows pages used) st new is allows = absurd is
system_any past other event st new is allows = allows

refused_any : (past other : List Entry) (event : Event) (st new : State) → IsRefusedEvent event
    → Allows past None actors.Utility event st new → Allows other None actors.Utility event st new
refused_any past other events.Active st new is allows = allows
refused_any past other (events.StartLogFull need left) st new is allows = allows
refused_any past other events.StartDown st new is allows = allows
refused_any past other events.StartNoMemory st new is allows = allows
refused_any past other events.Idle st new is allows = allows
refused_any past other events.StepDown st new is allows = allows
refused_any past other event st new is allows = absurd is

-- an event of a step is one of the utility that runs
made_step : (past : List Entry) (answer : Option Answer) (event : Event) (st : State)
    → is_made event ≡ true
    → next_state past answer actors.Utility event st
    ≡ state_after_step past answer event st st.utility
made_step past answer (events.Unload page rows) st is = refl
made_step past answer (events.Reload page rows) st is = refl
made_step past answer (events.Sort which) st is = refl
made_step past answer (events.Build which) st is = refl
made_step past answer (events.Log iteration took left verdict) st is = refl
made_step past answer (events.Wait session) st is = refl
made_step past answer (events.Granted drain) st is = refl
made_step past answer (events.GiveUp count) st is = refl
made_step past answer (events.Last took left) st is = refl
made_step past answer (events.Written pages) st is = refl
made_step past answer events.Ended st is = refl
made_step past answer (events.Stop reason) st is = refl
made_step past answer (events.Switched copy sides) st is = refl
made_step past answer event st is = absurd (cc (is))

-- it is allowed by the other entries, and so will be what follows
abbrev pub GoesAlike : (past other : List Entry) → State → State → Entry → Type 0
GoesAlike past other st new entry =
    Allows other entry.answer entry.actor entry.event st new
    × IfRuns new.utility (SameSince (entry ∷ past) (entry ∷ other))

module _ (past other : List Entry) (st new : State) (units : SameUnits past other)
    (since : IfRuns st.utility (SameSince past other)) where
  -- the utility is as before
  kept : (entry : Entry) → new.utility ≡ st.utility
      → IfRuns new.utility (SameSince (entry ∷ past) (entry ∷ other))
  kept entry same =
      subst (λ (o : Option Utility). IfRuns o (SameSince (entry ∷ past) (entry ∷ other))) (sym same)
      (runs_weaken st.utility (SameSince past other) (SameSince (entry ∷ past) (entry ∷ other))
      (since_more past other entry units) since)

  refused : (event : Event) (calls : ℕ) → IsRefusedEvent event
      → Allows past None actors.Utility event st new
      → GoesAlike past other st new (utility_entry event None calls)
  refused event calls is allows = (
    refused_any past other event st new is allows,
    kept (utility_entry event None calls)
        (ap (λ (x : State). x.utility) (refused_is past event st new is allows)),
  )

  started : (options : Options) (event : Event) (calls : ℕ) → IsStartEvent options event
      → Allows past None actors.Utility event st new
      → GoesAlike past other st new (utility_entry event None calls)
  started options (events.Started given copy pages) calls is allows =
      (allows, runs_any new.utility _ (since_start past other given copy pages calls units))
  started options events.Active calls is allows = refused events.Active calls tt allows
  started options (events.StartLogFull need left) calls is allows =
      refused (events.StartLogFull need left) calls tt allows
  started options events.StartDown calls is allows = refused events.StartDown calls tt allows
  started options events.StartNoMemory calls is allows =
      refused events.StartNoMemory calls tt allows
  started options event calls is allows = absurd is

  stepped : (answer : Option Answer) (event : Event) (calls : ℕ) → IsStepEvent answer event
      → Allows past answer actors.Utility event st new
      → GoesAlike past other st new (utility_entry event answer calls)
  stepped None events.Idle calls is allows = refused events.Idle calls tt allows
  stepped None events.StepDown calls is allows = refused events.StepDown calls tt allows
  stepped None event calls is allows = absurd is
  stepped (Some answer) event calls is allows =
      let goes = after_same past other (Some answer) event st new st.utility since
      (sym (made_step past (Some answer) event st is) ∙ allows) in (
        made_step other (Some answer) event st is ∙ goes.0,
        runs_any new.utility _
            (since_more past other (utility_entry event (Some answer) calls) units goes.1),
      )

  pub goes_alike : (line : Line) (entry : Entry) → EntryOf line entry
      → Allows past entry.answer entry.actor entry.event st new → GoesAlike past other st new entry
  goes_alike (Said session stmt) entry of allows =
      subst
      (λ (e : Entry). Allows past e.answer e.actor e.event st new → GoesAlike past other st new e)
      (sym of.1)
      (λ says. (
        says,
        kept (said_entry session stmt of.0 entry.calls)
            (said_keeps st new session stmt of.0 says).0,
      )) allows
  goes_alike (Reorg options) entry of allows =
      subst
      (λ (e : Entry). Allows past e.answer e.actor e.event st new → GoesAlike past other st new e)
      (sym of.1) (started options of.0 entry.calls of.2) allows
  goes_alike Step entry of allows =
      subst
      (λ (e : Entry). Allows past e.answer e.actor e.event st new → GoesAlike past other st new e)
      (sym of.2) (stepped of.0 of.1 entry.calls of.3) allows
  goes_alike Flush entry of allows =
      let system = flushed_system of.0 of.2 in
      subst
      (λ (e : Entry). Allows past e.answer e.actor e.event st new → GoesAlike past other st new e)
      (sym of.1)
      (λ is. (
        system_any past other of.0 st new system is,
        kept (record { actor = actors.System; event = of.0; answer = None; calls = entry.calls })
            (system_keeps past None of.0 st new system is).0,
      )) allows
  goes_alike Show entry of allows =
      let system = layout_system of.0 of.1 of.3 in
      subst
      (λ (e : Entry). Allows past e.answer e.actor e.event st new → GoesAlike past other st new e)
      (sym of.2)
      (λ is. (
        system_any past other of.1 st new system is,
        kept (record { actor = actors.System; event = of.1; answer = None; calls = entry.calls })
            (system_keeps past None of.1 st new system is).0,
      )) allows
  goes_alike Death entry of allows =
      subst
      (λ (e : Entry). Allows past e.answer e.actor e.event st new → GoesAlike past other st new e)
      (sym of.is)
      (λ reopens. (
        reopens,
        subst
            (λ (x : State). IfRuns x.utility
            (SameSince (opened_entry of.copy of.rows of.pages of.used entry.calls ∷ past)
            (opened_entry of.copy of.rows of.pages of.used entry.calls ∷ other)))
            (sym reopens.at_rest) tt,
      )) allows

-- ---- after an opening

pub units_opened : (past other : List Entry) (entry : Entry) → IsOpenedEntry entry
    → SameUnits (entry ∷ past) (entry ∷ other)
units_opened past other entry is = subst (λ (e : Entry). SameUnits (e ∷ past) (e ∷ other))
    (sym is.is) (record { writes = λ session. refl; locked = λ key over. refl })
