-- From the grant of a drain to the switch.
use Rattle.std.proofs.Common.{◌≡◌, ◌+◌, ◌-◌, ◌==◌, ◌&&◌, ℕ, Bool, true, false, not, List, [], ◌∷◌}
use Rattle.std.proofs.Common.{◌++◌, Option, Some, None, is_some, if◌then◌else◌, refl, sym, ◌∙◌, ap}
use Rattle.std.proofs.Common.{subst, arith}
use Rattle.std.specs.FinMap as map
use Rattle.std.specs.List.{AllByRecursion}
use Rattle.std.proofs.lemmas.Bool.{and_parts}
use Rattle.rg_base.specs.declared.control.Answer.{Answer}
use Rattle.rg_base.specs.declared.options.DrainFor.{DrainFor}
use Rattle.rg_base.specs.declared.options.DrainFor.TheVariants as what
use Rattle.rg_base.specs.declared.options.DrainState.{DrainState}
use Rattle.rg_base.specs.declared.options.DrainState.TheVariants as drains
use Rattle.rg_base.specs.declared.session.Class.TheVariants.{Writer}
use Rattle.rg_stmt.specs.declared.event.Actor.{Actor}
use Rattle.rg_stmt.specs.declared.event.Actor.TheVariants as actors
use Rattle.rg_stmt.specs.declared.event.Entry.{Entry}
use Rattle.rg_stmt.specs.declared.event.Event.{Event}
use Rattle.rg_stmt.specs.declared.event.Event.TheVariants as events
use Rattle.rg_stmt.specs.declared.layout.Sides.{Sides}
use Rattle.rg_claim.proofs.Grants.{grant-granted}
use Rattle.rg_model.specs.Changes.{changes, changes_after, changes_of}
use Rattle.rg_model.specs.Claims.{has_class, is_covered, least_holder}
use Rattle.rg_model.specs.Possible.{next_state, state_after_step}
use Rattle.rg_model.specs.Run.{Allows, Run}
use Rattle.rg_model.specs.State.{State, Table, Utility, at_rest}
use Rattle.rg_model.specs.Turn.{Turn, Runs, Switches, Stops, Falls, turn_of}
use Rattle.rg_model.specs.Utility.{start_utility, state_by_turn, state_of_turn, state_stepped}
use Rattle.rg_laws_utility.specs.Course.Switching.{AreCaughtUp, IsCaughtUp, goes_on, last_count}
use Rattle.rg_laws_utility.specs.Course.Switching.{lasts_for, lasts_in, left_after, loads, over_in}
use Rattle.rg_laws_utility.specs.Course.Switching.{taken_in}
use Rattle.rg_model.specs.Run.{behind}
use Rattle.rg_model.proofs.Allowed.{allowed_is, allowed_was, some_is}
use Rattle.rg_laws_utility.proofs.CourseLemmas.Granting.{GrantIf, turn_grants}
use Rattle.rg_laws_utility.proofs.CourseLemmas.Told.{run_parts, run_tells, tells_at_first}
use Rattle.rg_laws_utility.proofs.CourseLemmas.Quieted.{Leaves, NoWriter, said_quiet}
use Rattle.rg_laws_utility.proofs.CourseLemmas.Turning.{IsOnWay, IsTurning, Takes, Asks, Taken}
use Rattle.rg_laws_utility.proofs.CourseLemmas.Turning.{Leads, LeadsIf, way_leads}
use Rattle.rg_laws_utility.proofs.CourseLemmas.Writers.{AreWriters, writers_after, writers_at_rest}

-- how many LAST follow a grant, where the trace has made so many changes
abbrev pub lasts_after : (all : ℕ) → Utility → ℕ
lasts_after all u = if u.last then 0 else lasts_for (all - u.done)

-- what lies between the grant and the switch, by the numbers at the grant
record IsCaught (all : ℕ) (u : Utility) (entries : List Entry) : Type 0 where
  none_loaded : AllByRecursion (λ entry. loads entry.event ≡ false) entries
  lasts : lasts_in entries ≡ lasts_after all u

-- ---- the state under the drain

pub record IsDrained (all : ℕ) (past : List Entry) (st : State) (u : Utility) (n : ℕ) : Type 0 where
  pub utility : st.utility ≡ Some u
  pub free : NoWriter st.claims
  pub counted : changes past ≡ all
  pub writers : AreWriters past st
  pub way : IsOnWay all u st.drain n

covers_writer : (d : DrainFor) → is_covered (drains.Granted d) Writer ≡ true
covers_writer what.Writers = refl
covers_writer what.All = refl

pub covered : (all : ℕ) (u : Utility) (drain : DrainState) (n : ℕ) → IsTurning all u drain n
    → is_covered drain Writer ≡ true
covered all u drain n (Takes d is last at) =
    ap (λ (x : DrainState). is_covered x Writer) is ∙ covers_writer d
covered all u drain n (Asks last is none) = ap (λ (x : DrainState). is_covered x Writer) is
covered all u drain n (Taken d last is none) =
    ap (λ (x : DrainState). is_covered x Writer) is ∙ covers_writer d

-- ---- one entry

-- what an entry leaves that goes on
pub record Next (all : ℕ) (event : Event) (new : State) (n : ℕ) : Type 0 where
  pub loads_not : loads event ≡ false
  pub u : Utility
  pub m : ℕ
  pub fewer : n ≡ last_count event + m
  pub utility : new.utility ≡ Some u
  pub free : NoWriter new.claims
  pub way : IsOnWay all u new.drain m

module _ (all : ℕ) (past : List Entry) (st new : State) (u : Utility) (n : ℕ)
    (is : IsDrained all past st u n) where
  stays : (event : Event) → loads event ≡ false → last_count event ≡ 0 → Leaves st new
      → Next all event new n
  stays event loads_not no_last leaves = record {
    loads_not = loads_not;
    u = u;
    m = n;
    fewer = omega arith;
    utility = leaves.utility ∙ is.utility;
    free = leaves.free;
    way = subst (λ (d : DrainState). IsOnWay all u d n) (sym leaves.drain) is.way;
  }

  same : (event : Event) → loads event ≡ false → last_count event ≡ 0 → new ≡ st
      → Next all event new n
  same event loads_not no_last at = stays event loads_not no_last
      (record {
        utility = ap (λ (s : State). s.utility) at;
        drain = ap (λ (s : State). s.drain) at;
        free = subst (λ (s : State). NoWriter s.claims) (sym at) is.free;
      })

  turned : (event : Event) → goes_on event ≡ true → (turn : Turn) → Leads all n event turn
      → state_of_turn past st u turn ≡ Some new → Next all event new n
  turned event goes (Runs v later) leads e =
      let at : new ≡ record st { drain = later; utility = Some v } =
      some_is (record st { drain = later; utility = Some v }) new e in
      let led = leads.1 goes in
      record {
        loads_not = led.0;
        u = v;
        m = led.1;
        fewer = led.2;
        utility = ap (λ (s : State). s.utility) at;
        free = subst (λ (s : State). NoWriter s.claims) (sym at) is.free;
        way = subst (λ (s : State). IsOnWay all v s.drain led.1) (sym at) led.3;
      }
  turned event goes (Switches copy sides v) leads e = absurd (cc (goes, leads.0))
  turned event goes Stops leads e = absurd (cc (goes, leads.1))
  turned event goes Falls leads e = absurd (cc (goes, leads.1))

  turned_if : (event : Event) → goes_on event ≡ true → (turn : Option Turn)
      → LeadsIf all n event turn → state_by_turn past st u turn ≡ Some new → Next all event new n
  turned_if event goes None leads e = absurd (cc e)
  turned_if event goes (Some turn) leads e = turned event goes turn leads e

  -- a step of the utility that runs
  stepped : (answer : Option Answer) (event : Event) → goes_on event ≡ true
      → state_after_step past answer event st (Some u) ≡ Some new → Next all event new n
  stepped answer event goes e = by_down st.down e
    where
      by_answer : (o : Option Answer) → state_stepped past o event st u ≡ Some new
          → Next all event new n
      by_answer None e = absurd (cc e)
      by_answer (Some answer) e =
          turned_if event goes
          (turn_of (changes past) (least_holder st.drain st.claims) answer u st.drain event)
          (subst
          (λ (k : ℕ). LeadsIf all n event
          (turn_of k (least_holder st.drain st.claims) answer u st.drain event)) (sym is.counted)
          (way_leads all n (least_holder st.drain st.claims) answer event u st.drain is.way)) e

      by_down : (b : Bool) → (if b then None else state_stepped past answer event st u) ≡ Some new
          → Next all event new n
      by_down true e = absurd (cc e)
      by_down false e = by_answer answer e

  utility_next : (answer : Option Answer) (event : Event) → goes_on event ≡ true
      → next_state past answer actors.Utility event st ≡ Some new → Next all event new n
  utility_next answer (events.Started options copy pages) goes e = absurd
      (none st.utility is.utility
      (and_parts (not (is_some st.utility)) (copy == st.copy)
      (and_parts (not st.down) (not (is_some st.utility) && copy == st.copy)
      (allowed_was _ (start_utility st options pages) new e)).1).0)
    where
      none : (o : Option Utility) → o ≡ Some u → not (is_some o) ≡ true → ⊥
      none None e f = absurd (cc e)
      none (Some v) e f = absurd (cc f)
  utility_next answer events.Active goes e = same events.Active refl refl (allowed_is _ st new e)
  utility_next answer (events.StartLogFull need left) goes e =
      same (events.StartLogFull need left) refl refl (allowed_is _ st new e)
  utility_next answer events.StartDown goes e =
      same events.StartDown refl refl (allowed_is _ st new e)
  utility_next answer events.StartNoMemory goes e =
      same events.StartNoMemory refl refl (allowed_is _ st new e)
  utility_next answer events.Idle goes e = same events.Idle refl refl (allowed_is _ st new e)
  utility_next answer events.StepDown goes e =
      same events.StepDown refl refl (allowed_is _ st new e)
  utility_next answer event goes e =
      stepped answer event goes (ap (state_after_step past answer event st) (sym is.utility) ∙ e)

  system_next : (answer : Option Answer) (event : Event) → goes_on event ≡ true
      → Allows past answer actors.System event st new → Next all event new n
  system_next answer (events.Opened copy rows pages used) goes e = absurd (cc goes)
  system_next answer (events.Flush page) goes e =
      same (events.Flush page) refl refl (allowed_is _ st new e)
  system_next answer events.Clean goes e = same events.Clean refl refl (allowed_is _ st new e)
  system_next answer events.FlushDevice goes e =
      same events.FlushDevice refl refl (allowed_is _ st new e)
  system_next answer events.FlushDown goes e =
      same events.FlushDown refl refl (allowed_is _ st new e)
  system_next answer events.FlushNoMemory goes e =
      same events.FlushNoMemory refl refl (allowed_is _ st new e)
  system_next answer (events.Layout copy side) goes e =
      same (events.Layout copy side) refl refl (allowed_is _ st new e)
  system_next answer events.LayoutDevice goes e =
      same events.LayoutDevice refl refl (allowed_is _ st new e)
  system_next answer events.LayoutDown goes e =
      same events.LayoutDown refl refl (allowed_is _ st new e)
  system_next answer events.LayoutNoMemory goes e =
      same events.LayoutNoMemory refl refl (allowed_is _ st new e)
  system_next answer event goes e = absurd (cc e)

  -- an entry counts no change
  abbrev Counts : Actor → Event → Type 0
  Counts actor event = changes_after actor event past (changes past) ≡ all

  plus_none : (n k : ℕ) → k ≡ 0 → n ≡ all → n + k ≡ all
  plus_none n k none at = omega arith

  pub entry_next : (answer : Option Answer) (actor : Actor) (event : Event) → goes_on event ≡ true
      → Allows past answer actor event st new → Next all event new n × Counts actor event
  entry_next answer (actors.Session session) (events.Said stmt reply) goes allowed =
      let quiet = said_quiet st new session is.free (covered all u st.drain n is.way.turning) past
      stmt reply is.writers allowed in (
        stays (events.Said stmt reply) refl refl quiet.1,
        plus_none (changes past) (changes_of (actors.Session session) (events.Said stmt reply) past)
            quiet.0 is.counted,
      )
  entry_next answer (actors.Session session) event goes allowed = absurd (cc allowed)
  entry_next answer actors.System (events.Started options copy pages) goes allowed =
      absurd (cc allowed)
  entry_next answer actors.System event goes allowed =
      (system_next answer event goes allowed, plus_none (changes past) 0 refl is.counted)
  entry_next answer actors.Utility (events.Started options copy pages) goes allowed =
      absurd (none (utility_next answer (events.Started options copy pages) goes allowed))
    where
      none : Next all (events.Started options copy pages) new n → ⊥
      none next = absurd
          (taken st.utility is.utility
          (and_parts (not (is_some st.utility)) (copy == st.copy)
          (and_parts (not st.down) (not (is_some st.utility) && copy == st.copy)
          (allowed_was _ (start_utility st options pages) new allowed)).1).0)
        where
          taken : (o : Option Utility) → o ≡ Some u → not (is_some o) ≡ true → ⊥
          taken None e f = absurd (cc e)
          taken (Some v) e f = absurd (cc f)
  entry_next answer actors.Utility event goes allowed =
      (utility_next answer event goes allowed, plus_none (changes past) 0 refl is.counted)

-- ---- the entries in between

record Between (all : ℕ) (past : List Entry) (entries : List Entry) (new : State) (n : ℕ)
    : Type 0 where
  pub none_loaded : AllByRecursion (λ entry. loads entry.event ≡ false) entries
  pub u : Utility
  pub m : ℕ
  pub fewer : n ≡ lasts_in entries + m
  pub drained : IsDrained all (behind past entries) new u m

between : (all : ℕ) (past entries : List Entry) (st new : State) (u : Utility) (n : ℕ)
    → IsDrained all past st u n → AllByRecursion (λ entry. goes_on entry.event ≡ true) entries
    → Run past st entries new → Between all past entries new n
between all past [] st new u n is goes run = record {
  none_loaded = tt;
  u = u;
  m = n;
  fewer = omega arith;
  drained = subst (λ (s : State). IsDrained all past s u n) (sym run) is;
}
between all past (entry ∷ entries) st new u n is goes run =
    let led =
    entry_next all past st run.0 u n is entry.answer entry.actor entry.event goes.0 run.1 in
    let next = led.0 in
    let rest =
    between all (entry ∷ past) entries run.0 new next.u next.m
    (record {
      utility = next.utility;
      free = next.free;
      counted = led.1;
      writers = writers_after past entry st run.0 run.1 is.writers;
      way = next.way;
    }) goes.1 run.2 in
    let (a, b) : (n ≡ last_count entry.event + next.m) × (next.m ≡ lasts_in entries + rest.m) =
    (next.fewer, rest.fewer) in
    record {
      none_loaded = (next.loads_not, rest.none_loaded);
      u = rest.u;
      m = rest.m;
      fewer = omega arith;
      drained = rest.drained;
    }

-- ---- the switch

module _ (all : ℕ) (past : List Entry) (st new : State) (u : Utility) (n : ℕ)
    (is : IsDrained all past st u n) (copy : ℕ) (sides : Sides) where
  abbrev switched : Event
  switched = events.Switched copy sides

  at_switch : (turn : Option Turn) → LeadsIf all n switched turn
      → state_by_turn past st u turn ≡ Some new → n ≡ 0
  at_switch None leads e = absurd (cc e)
  at_switch (Some (Runs v later)) leads e = absurd (cc (leads.0))
  at_switch (Some (Switches c s v)) leads e = leads.1
  at_switch (Some Stops) leads e = absurd (cc (leads.0))
  at_switch (Some Falls) leads e = absurd (cc (leads.0))

  -- at the switch no LAST is to come
  none_to_come : (answer : Option Answer) (actor : Actor) → Allows past answer actor switched st new
      → n ≡ 0
  none_to_come answer (actors.Session session) allowed = absurd (cc allowed)
  none_to_come answer actors.System allowed = absurd (cc allowed)
  none_to_come answer actors.Utility allowed =
      by_down st.down (ap (state_after_step past answer switched st) (sym is.utility) ∙ allowed)
    where
      by_answer : (o : Option Answer) → state_stepped past o switched st u ≡ Some new → n ≡ 0
      by_answer None e = absurd (cc e)
      by_answer (Some answer) e =
          at_switch
          (turn_of (changes past) (least_holder st.drain st.claims) answer u st.drain switched)
          (subst
          (λ (k : ℕ). LeadsIf all n switched
          (turn_of k (least_holder st.drain st.claims) answer u st.drain switched)) (sym is.counted)
          (way_leads all n (least_holder st.drain st.claims) answer switched u st.drain is.way)) e

      by_down : (b : Bool)
          → (if b then None else state_stepped past answer switched st u) ≡ Some new → n ≡ 0
      by_down true e = absurd (cc e)
      by_down false e = by_answer answer e

-- ---- the grant

writers_run : (past trace : List Entry) (st new : State) → AreWriters past st
    → Run past st trace new → AreWriters (behind past trace) new
writers_run past [] st new writers run = subst (AreWriters past) (sym run) writers
writers_run past (entry ∷ trace) st new writers run = writers_run (entry ∷ past) trace run.0 new
    (writers_after past entry st run.0 run.1 writers) run.2

module _ (past : List Entry) (st new : State) (u : Utility) (at : st.utility ≡ Some u)
    (writers : AreWriters past st) (d : DrainFor) (granted : Entry)
    (event : granted.event ≡ events.Granted d) where
  abbrev all : ℕ
  all = changes past

  begun : (turn : Option Turn) → GrantIf u d st.drain (least_holder st.drain st.claims) turn
      → state_by_turn past st u turn ≡ Some new → AreWriters (granted ∷ past) new
      → changes (granted ∷ past) ≡ all
      → (v : Utility) × IsDrained all (granted ∷ past) new v (lasts_after all u)
  begun None grants e later counted = absurd (cc e)
  begun (Some (Switches copy sides v)) grants e later counted = absurd grants
  begun (Some Stops) grants e later counted = absurd grants
  begun (Some Falls) grants e later counted = absurd grants
  begun (Some (Runs v drain)) grants e later counted =
      let is : new ≡ record st { drain = drain; utility = Some v } =
      some_is (record st { drain = drain; utility = Some v }) new e in (
        v,
        record {
          utility = ap (λ (s : State). s.utility) is;
          free = λ number. subst (λ (s : State). has_class (map.get s.claims number) Writer ≡ false)
              (sym is)
              (grant-granted (record { claims = st.claims; drain = st.drain }) d grants.asked
              (sym grants.nobody) d refl number Writer (covers_writer d));
          counted = counted;
          writers = later;
          way = subst (λ (s : State). IsOnWay all v s.drain (lasts_after all u)) (sym is)
              (record {
                built = grants.built;
                unswitched = grants.unswitched;
                turning = turning u.last refl;
              });
        },
      )
    where
      turning : (b : Bool) → u.last ≡ b
          → IsTurning all v drain (if b then 0 else lasts_for (all - u.done))
      turning true e = Taken d (grants.last ∙ e) grants.granted refl
      turning false e = Takes d grants.granted (grants.last ∙ e)
          (ap (λ (k : ℕ). lasts_for (all - k)) (sym grants.done))

  pub grant_begins : Allows past granted.answer granted.actor granted.event st new
      → (v : Utility) × IsDrained all (granted ∷ past) new v (lasts_after all u)
  grant_begins allowed = by_actor granted.actor refl
      (subst (λ (e : Event). Allows past granted.answer granted.actor e st new) event allowed)
    where
      later : AreWriters (granted ∷ past) new
      later = writers_after past granted st new allowed writers

      counted : granted.actor ≡ actors.Utility → changes (granted ∷ past) ≡ all
      counted by = ap (λ (a : Actor). changes_after a granted.event past (changes past)) by
          ∙ ap (λ (e : Event). changes_after actors.Utility e past (changes past)) event
          ∙ plus (changes past)
        where
          plus : (n : ℕ) → n + 0 ≡ n
          plus n = omega arith

      by_answer : (o : Option Answer) → granted.actor ≡ actors.Utility
          → state_stepped past o (events.Granted d) st u ≡ Some new
          → (v : Utility) × IsDrained all (granted ∷ past) new v (lasts_after all u)
      by_answer None by e = absurd (cc e)
      by_answer (Some answer) by e =
          begun
          (turn_of (changes past) (least_holder st.drain st.claims) answer u st.drain
          (events.Granted d))
          (turn_grants (changes past) (least_holder st.drain st.claims) answer d u st.drain) e later
          (counted by)

      by_down : (b : Bool) → granted.actor ≡ actors.Utility
          → (if b then None else state_stepped past granted.answer (events.Granted d) st u)
          ≡ Some new
          → (v : Utility) × IsDrained all (granted ∷ past) new v (lasts_after all u)
      by_down true by e = absurd (cc e)
      by_down false by e = by_answer granted.answer by e

      by_actor : (actor : Actor) → granted.actor ≡ actor
          → Allows past granted.answer actor (events.Granted d) st new
          → (v : Utility) × IsDrained all (granted ∷ past) new v (lasts_after all u)
      by_actor (actors.Session session) by e = absurd (cc e)
      by_actor actors.System by e = absurd (cc e)
      by_actor actors.Utility by e = by_down st.down by
          (ap (state_after_step past granted.answer (events.Granted d) st) (sym at) ∙ e)

caught_at_switch : (table : Table) (first : ℕ) (before entries : List Entry)
    (granted switched : Entry) (drain : DrainFor) (copy : ℕ) (sides : Sides) (st mid new : State)
    (u : Utility)
    → Run [] (at_rest table first) before st → st.utility ≡ Some u
    → granted.event ≡ events.Granted drain
    → AllByRecursion (λ entry. goes_on entry.event ≡ true) entries
    → Run (behind [] before) st (granted ∷ entries) mid
    → switched.event ≡ events.Switched copy sides
    → Run (behind (granted ∷ behind [] before) entries) mid (switched ∷ []) new
    → IsCaught (changes (behind [] before)) u entries
caught_at_switch table first before entries granted switched drain copy sides st mid new u run
    utility event goes way switch last =
    let past : List Entry = behind [] before in
    let grant = grant_begins past st way.0 u utility
    (writers_run [] before (at_rest table first) st (writers_at_rest table first) run) drain granted
    event way.1 in
    let made = between (changes past) (granted ∷ past) entries way.0 mid grant.0
    (lasts_after (changes past) u) grant.1 goes way.2 in
    let none : made.m ≡ 0 =
    none_to_come (changes past) (behind (granted ∷ past) entries) mid last.0 made.u made.m
    made.drained copy sides switched.answer switched.actor
    (subst
    (λ (e : Event). Allows (behind (granted ∷ past) entries) switched.answer switched.actor e mid
    last.0) switch last.1) in
    let fewer : lasts_after (changes past) u ≡ lasts_in entries + made.m = made.fewer in
    record { none_loaded = made.none_loaded; lasts = omega arith }

-- a drain is granted to a utility that runs
granted_runs :
    (past : List Entry) (st new : State) (d : DrainFor) (answer : Option Answer) (actor : Actor)
    → Allows past answer actor (events.Granted d) st new → (u : Utility) × (st.utility ≡ Some u)
granted_runs past st new d answer (actors.Session session) e = absurd (cc e)
granted_runs past st new d answer actors.System e = absurd (cc e)
granted_runs past st new d answer actors.Utility e = by_utility st.utility refl e
  where
    by_utility : (o : Option Utility) → st.utility ≡ o
        → state_after_step past answer (events.Granted d) st o ≡ Some new
        → (u : Utility) × (st.utility ≡ Some u)
    by_utility None at e = absurd (cc e)
    by_utility (Some u) at e = (u, at)

pub caught_up_at_switch : (table : Table) (copy : ℕ) (trace : List Entry) (last : State)
    → Run [] (at_rest table copy) trace last → AreCaughtUp trace
caught_up_at_switch table first trace final run before entries rest granted switched drain copy
    sides joined event goes switch =
    let whole : Run [] (at_rest table first) (before ++ (granted ∷ entries ++ switched ∷ rest))
    final = subst (λ (es : List Entry). Run [] (at_rest table first) es final) joined run in
    let start =
    run_parts [] before (granted ∷ entries ++ switched ∷ rest) (at_rest table first) final whole in
    let end =
    run_parts (behind [] before) (granted ∷ entries) (switched ∷ rest) start.mid final start.back in
    let runs =
    granted_runs (behind [] before) start.mid end.front.0 drain granted.answer granted.actor
    (subst
    (λ (e : Event). Allows (behind [] before) granted.answer granted.actor e start.mid end.front.0)
    event end.front.1) in
    let u : Utility = runs.0 in
    let is =
    caught_at_switch table first before entries granted switched drain copy sides start.mid end.mid
    end.back.0 u start.front runs.1 event goes end.front switch (end.back.0, end.back.1, refl) in
    let tells = run_tells [] before (at_rest table first) start.mid 0 false
    (tells_at_first table first) start.front u runs.1 in
    record {
      none_loaded = is.none_loaded;
      lasts =
          is.lasts
          ∙ ap (λ (b : Bool). if b then 0 else lasts_for (changes (behind [] before) - u.done))
          tells.1
          ∙ ap
          (λ (n : ℕ). if over_in false before then 0
          else lasts_for (changes (behind [] before) - n)) tells.0;
    }
