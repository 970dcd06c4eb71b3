-- What the entries tell of a utility's numbers is what a state has that they lead to.
use Rattle.std.proofs.Common.{◌≡◌, ℕ, Bool, true, false, List, [], ◌∷◌, ◌++◌, Option, Some, None}
use Rattle.std.proofs.Common.{IfSome, if◌then◌else◌, refl, sym, ◌∙◌, ap, subst}
use Rattle.rg_base.specs.declared.control.Answer.{Answer}
use Rattle.rg_stmt.specs.declared.event.Actor.{Actor}
use Rattle.rg_stmt.specs.declared.event.Actor.TheVariants as actors
use Rattle.rg_stmt.specs.declared.event.Entry.{Entry}
use Rattle.rg_stmt.specs.declared.event.Event.{Event}
use Rattle.rg_stmt.specs.declared.event.Event.TheVariants as events
use Rattle.rg_model.specs.Changes.{changes}
use Rattle.rg_model.specs.Claims.{least_holder}
use Rattle.rg_model.specs.Possible.{state_after_step}
use Rattle.rg_model.specs.Run.{Allows, Run}
use Rattle.rg_model.specs.State.{State, Table, Utility, at_rest}
use Rattle.rg_model.specs.Turn.{Turn, Runs, Switches, Stops, Falls, turn_of}
use Rattle.rg_model.specs.Utility.{new_utility, start_utility, state_by_turn, state_stepped}
use Rattle.rg_model.specs.Utility.{stop_utility}
use Rattle.rg_model.specs.Run.{behind}
use Rattle.rg_model.proofs.Allowed.{allowed_is, some_is}
use Rattle.rg_laws_utility.proofs.TraceStageLemmas.Keeping.{said_keeps}
use Rattle.rg_laws_utility.specs.Course.Switching.{over_after, over_in, taken_after, taken_in}
use Rattle.rg_laws_utility.proofs.CourseLemmas.Taken.{Shows, ShowsTaken, turn_leads}

-- ---- a run in two parts

pub record Parted (past before after : List Entry) (st new : State) : Type 0 where
  pub mid : State
  pub front : Run past st before mid
  pub back : Run (behind past before) mid after new

pub run_parts : (past before after : List Entry) (st new : State)
    → Run past st (before ++ after) new → Parted past before after st new
run_parts past [] after st new run = record { mid = st; front = refl; back = run }
run_parts past (entry ∷ before) after st new run =
    let parts = run_parts (entry ∷ past) before after run.0 new run.2 in
    record { mid = parts.mid; front = (run.0, run.1, parts.front); back = parts.back }

-- ---- the numbers of the utility

-- a utility that runs has taken so many changes, and its LAST is over or not
abbrev pub Tells : (taken : ℕ) → (over : Bool) → State → Type 0
Tells taken over st = (u : Utility) → st.utility ≡ Some u → (u.done ≡ taken) × (u.last ≡ over)

pub one_utility : (o : Option Utility) (u v : Utility) → o ≡ Some u → o ≡ Some v → v ≡ u
one_utility o u v e f = cc (e, f)

pub no_utility : (o : Option Utility) (u : Utility) → o ≡ None → o ≡ Some u → ⊥
no_utility o u e f = absurd (cc (e, f))

module _ (past : List Entry) (st new : State) (taken : ℕ) (over : Bool)
    (tells : Tells taken over st) where
  -- what is told after an event
  abbrev After : Event → Type 0
  After event = Tells (taken_after taken event) (over_after over event) new

  -- no utility runs in the new state
  gone : (event : Event) (other : State) → new ≡ other → other.utility ≡ None → After event
  gone event other at none u is =
      absurd (no_utility new.utility u (ap (λ (s : State). s.utility) at ∙ none) is)

  -- one with these numbers runs in it
  runs : (event : Event) (other : State) (u v : Utility) → st.utility ≡ Some u → Shows u event v
      → new ≡ other → other.utility ≡ Some v → After event
  runs event other u v was shows at is w has =
      let same : w ≡ v = one_utility new.utility v w (ap (λ (s : State). s.utility) at ∙ is) has in
      let before = tells u was in (
        ap (λ (x : Utility). x.done) same ∙ shows.0 ∙ ap (λ (n : ℕ). taken_after n event) before.0,
        ap (λ (x : Utility). x.last) same ∙ shows.1
            ∙ ap (λ (b : Bool). over_after b event) before.1,
      )

  turned : (event : Event) (u : Utility) (turn : Option Turn) → st.utility ≡ Some u
      → IfSome turn (ShowsTaken u event) → state_by_turn past st u turn ≡ Some new → After event
  turned event u None was shows e = absurd (cc e)
  turned event u (Some (Runs v drain)) was shows e =
      runs event _ u v was shows (some_is _ new e) refl
  turned event u (Some (Switches copy sides v)) was shows e =
      runs event _ u v was shows (allowed_is _ _ new e) refl
  turned event u (Some Stops) was shows e =
      gone event (stop_utility st) (some_is (stop_utility st) new e) refl
  turned event u (Some Falls) was shows e =
      gone event (record (stop_utility st) { down = true; copydoubt = true })
      (some_is (record (stop_utility st) { down = true; copydoubt = true }) new e) refl

  stepped : (answer : Option Answer) (event : Event) (o : Option Utility) → st.utility ≡ o
      → state_after_step past answer event st o ≡ Some new → After event
  stepped answer event None was e = absurd (cc e)
  stepped answer event (Some u) was e = by_down st.down e
    where
      by_answer : (o : Option Answer) → state_stepped past o event st u ≡ Some new → After event
      by_answer None e = absurd (cc e)
      by_answer (Some answer) e =
          turned event u
          (turn_of (changes past) (least_holder st.drain st.claims) answer u st.drain event) was
          (turn_leads (changes past) (least_holder st.drain st.claims) answer event u st.drain) e

      by_down : (b : Bool) → (if b then None else state_stepped past answer event st u) ≡ Some new
          → After event
      by_down true e = absurd (cc e)
      by_down false e = by_answer answer e

  -- nothing is taken, and the utility is the same
  kept : new.utility ≡ st.utility → Tells taken over new
  kept at u is = tells u (sym at ∙ is)

  same : new ≡ st → Tells taken over new
  same at = kept (ap (λ (s : State). s.utility) at)

  entry_tells : (answer : Option Answer) (actor : Actor) (event : Event)
      → Allows past answer actor event st new → After event
  entry_tells answer (actors.Session session) (events.Said stmt reply) allowed =
      kept (said_keeps st new session stmt reply allowed).0
  entry_tells answer (actors.Session session) event allowed = absurd (cc allowed)
  entry_tells answer actors.System (events.Opened copy rows pages used) allowed =
      gone (events.Opened copy rows pages used) (at_rest allowed.table copy) allowed.at_rest refl
  entry_tells answer actors.System (events.Flush page) e = same (allowed_is _ st new e)
  entry_tells answer actors.System events.Clean e = same (allowed_is _ st new e)
  entry_tells answer actors.System events.FlushDevice e = same (allowed_is _ st new e)
  entry_tells answer actors.System events.FlushDown e = same (allowed_is _ st new e)
  entry_tells answer actors.System events.FlushNoMemory e = same (allowed_is _ st new e)
  entry_tells answer actors.System (events.Layout copy side) e = same (allowed_is _ st new e)
  entry_tells answer actors.System events.LayoutDevice e = same (allowed_is _ st new e)
  entry_tells answer actors.System events.LayoutDown e = same (allowed_is _ st new e)
  entry_tells answer actors.System events.LayoutNoMemory e = same (allowed_is _ st new e)
  entry_tells answer actors.System event e = absurd (cc e)
  entry_tells answer actors.Utility (events.Started options copy pages) e =
      begun (allowed_is _ (start_utility st options pages) new e)
    where
      begun : new ≡ start_utility st options pages → Tells 0 false new
      begun at w has =
          let is : w ≡ new_utility options pages = one_utility new.utility
          (new_utility options pages) w (ap (λ (s : State). s.utility) at) has in
          (ap (λ (x : Utility). x.done) is, ap (λ (x : Utility). x.last) is)
  entry_tells answer actors.Utility events.Active e = same (allowed_is _ st new e)
  entry_tells answer actors.Utility (events.StartLogFull need left) e = same (allowed_is _ st new e)
  entry_tells answer actors.Utility events.StartDown e = same (allowed_is _ st new e)
  entry_tells answer actors.Utility events.StartNoMemory e = same (allowed_is _ st new e)
  entry_tells answer actors.Utility events.Idle e = same (allowed_is _ st new e)
  entry_tells answer actors.Utility events.StepDown e = same (allowed_is _ st new e)
  entry_tells answer actors.Utility event e = stepped answer event st.utility refl e

pub run_tells : (past trace : List Entry) (st new : State) (taken : ℕ) (over : Bool)
    → Tells taken over st → Run past st trace new
    → Tells (taken_in taken trace) (over_in over trace) new
run_tells past [] st new taken over tells run = subst (Tells taken over) (sym run) tells
run_tells past (entry ∷ trace) st new taken over tells run =
    run_tells (entry ∷ past) trace run.0 new (taken_after taken entry.event)
    (over_after over entry.event)
    (entry_tells past st run.0 taken over tells entry.answer entry.actor entry.event run.1) run.2

-- no utility runs at first
pub tells_at_first : (table : Table) (copy : ℕ) → Tells 0 false (at_rest table copy)
tells_at_first table copy u is = absurd (no_utility None u refl is)
