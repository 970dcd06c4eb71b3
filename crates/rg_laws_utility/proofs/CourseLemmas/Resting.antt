-- Where no utility runs, no drain is in force.
use Rattle.std.proofs.Common.{◌≡◌, ℕ, Bool, true, false, List, [], ◌∷◌, Option, Some, None}
use Rattle.std.proofs.Common.{if◌then◌else◌, refl, sym, ◌∙◌, ap, subst}
use Rattle.rg_base.specs.declared.control.Answer.{Answer}
use Rattle.rg_base.specs.declared.options.DrainState.TheVariants.{Free}
use Rattle.rg_stmt.specs.declared.event.Actor.{Actor}
use Rattle.rg_stmt.specs.declared.event.Actor.TheVariants as actors
use Rattle.rg_stmt.specs.declared.event.Entry.{Entry}
use Rattle.rg_stmt.specs.declared.event.Event.{Event}
use Rattle.rg_stmt.specs.declared.event.Event.TheVariants as events
use Rattle.rg_model.specs.Changes.{changes}
use Rattle.rg_model.specs.Claims.{least_holder}
use Rattle.rg_model.specs.Possible.{state_after_step}
use Rattle.rg_model.specs.Run.{Allows, Run}
use Rattle.rg_model.specs.State.{State, Table, Utility, at_rest}
use Rattle.rg_model.specs.Turn.{Turn, Runs, Switches, Stops, Falls, turn_of}
use Rattle.rg_model.specs.Utility.{start_utility, state_by_turn, state_stepped, stop_utility}
use Rattle.rg_model.proofs.Allowed.{allowed_is, some_is}
use Rattle.rg_laws_utility.proofs.TraceStageLemmas.Keeping.{said_keeps}

abbrev pub IsRest : State → Type 0
IsRest st = st.utility ≡ None → st.drain ≡ Free

module _ (past : List Entry) (st new : State) (rest : IsRest st) where
  same : new ≡ st → IsRest new
  same at = subst IsRest (sym at) rest

  -- the new state is one in which a utility runs
  runs : (other : State) (u : Utility) → new ≡ other → other.utility ≡ Some u → IsRest new
  runs other u at is none = absurd (cc (sym none ∙ ap (λ (s : State). s.utility) at ∙ is))

  turned : (u : Utility) (turn : Option Turn) → state_by_turn past st u turn ≡ Some new → IsRest new
  turned u None e = absurd (cc e)
  turned u (Some (Runs v drain)) e = runs _ v (some_is _ new e) refl
  turned u (Some (Switches copy sides v)) e = runs _ v (allowed_is _ _ new e) refl
  turned u (Some Stops) e = λ none. ap (λ (s : State). s.drain) (some_is (stop_utility st) new e)
  turned u (Some Falls) e = λ none. ap (λ (s : State). s.drain)
      (some_is (record (stop_utility st) { down = true; copydoubt = true }) new e)

  stepped : (answer : Option Answer) (event : Event) (o : Option Utility)
      → state_after_step past answer event st o ≡ Some new → IsRest new
  stepped answer event None e = absurd (cc e)
  stepped answer event (Some u) e = by_down st.down e
    where
      by_answer : (o : Option Answer) → state_stepped past o event st u ≡ Some new → IsRest new
      by_answer None e = absurd (cc e)
      by_answer (Some answer) e = turned u
          (turn_of (changes past) (least_holder st.drain st.claims) answer u st.drain event) e

      by_down : (b : Bool) → (if b then None else state_stepped past answer event st u) ≡ Some new
          → IsRest new
      by_down true e = absurd (cc e)
      by_down false e = by_answer answer e

  pub entry_rests : (answer : Option Answer) (actor : Actor) (event : Event)
      → Allows past answer actor event st new → IsRest new
  entry_rests answer (actors.Session session) (events.Said stmt reply) allowed =
      let keeps = said_keeps st new session stmt reply allowed in
      λ none. keeps.1 ∙ rest (sym keeps.0 ∙ none)
  entry_rests answer (actors.Session session) event allowed = absurd (cc allowed)
  entry_rests answer actors.System (events.Opened copy rows pages used) allowed =
      λ none. ap (λ (s : State). s.drain) allowed.at_rest
  entry_rests answer actors.System (events.Flush page) e = same (allowed_is _ st new e)
  entry_rests answer actors.System events.Clean e = same (allowed_is _ st new e)
  entry_rests answer actors.System events.FlushDevice e = same (allowed_is _ st new e)
  entry_rests answer actors.System events.FlushDown e = same (allowed_is _ st new e)
  entry_rests answer actors.System events.FlushNoMemory e = same (allowed_is _ st new e)
  entry_rests answer actors.System (events.Layout copy side) e = same (allowed_is _ st new e)
  entry_rests answer actors.System events.LayoutDevice e = same (allowed_is _ st new e)
  entry_rests answer actors.System events.LayoutDown e = same (allowed_is _ st new e)
  entry_rests answer actors.System events.LayoutNoMemory e = same (allowed_is _ st new e)
  entry_rests answer actors.System event e = absurd (cc e)
  entry_rests answer actors.Utility (events.Started options copy pages) e =
      runs (start_utility st options pages) _ (allowed_is _ _ new e) refl
  entry_rests answer actors.Utility events.Active e = same (allowed_is _ st new e)
  entry_rests answer actors.Utility (events.StartLogFull need left) e = same (allowed_is _ st new e)
  entry_rests answer actors.Utility events.StartDown e = same (allowed_is _ st new e)
  entry_rests answer actors.Utility events.StartNoMemory e = same (allowed_is _ st new e)
  entry_rests answer actors.Utility events.Idle e = same (allowed_is _ st new e)
  entry_rests answer actors.Utility events.StepDown e = same (allowed_is _ st new e)
  entry_rests answer actors.Utility event e = stepped answer event st.utility e

pub rests : (past trace : List Entry) (st new : State) → IsRest st → Run past st trace new
    → IsRest new
rests past [] st new rest run = subst IsRest (sym run) rest
rests past (entry ∷ trace) st new rest run = rests (entry ∷ past) trace run.0 new
    (entry_rests past st run.0 rest entry.answer entry.actor entry.event run.1) run.2

pub rests_at_first : (table : Table) (copy : ℕ) → IsRest (at_rest table copy)
rests_at_first table copy none = refl
