-- An entry that the stage follows is allowed, and leaves a state that shows the stage.
use Rattle.std.proofs.Common.{◌≡◌, ℕ, ◌&&◌, ◌-◌, Bool, true, false, List, Option, Some, None, refl}
use Rattle.std.proofs.Common.{sym, ◌∙◌, ap, if◌then◌else◌}
use Rattle.std.proofs.lemmas.Bool.{eq-eqb}
use Rattle.rg_base.specs.declared.control.Answer.{Answer}
use Rattle.rg_base.specs.declared.options.DrainState.{DrainState}
use Rattle.rg_base.specs.declared.options.DrainState.TheVariants.{Free}
use Rattle.rg_feed.specs.declared.fold.item.Stage.{Stage}
use Rattle.rg_stmt.specs.declared.event.Actor.TheVariants as actors
use Rattle.rg_stmt.specs.declared.event.Entry.{Entry}
use Rattle.rg_stmt.specs.declared.event.Event.{Event}
use Rattle.rg_stmt.specs.declared.event.Event.TheVariants as events
use Rattle.rg_model.specs.Changes.{changes}
use Rattle.rg_model.specs.Claims.{least_holder}
use Rattle.rg_model.specs.Possible.{next_state, state_after_step}
use Rattle.rg_model.specs.Said.{if_allowed}
use Rattle.rg_model.specs.State.{State}
use Rattle.rg_model.specs.State as model
use Rattle.rg_model.specs.Turn.{Turn, Runs, Switches, Stops, Falls, turn_of}
use Rattle.rg_model.specs.Utility.{state_of_turn, state_by_turn, state_stepped, stop_utility}
use Rattle.rg_rules.specs.Stage.NumbersOf.{numbers_of}
use Rattle.rg_rules.specs.Stage.Followed.{Followed}
use Rattle.rg_rules.specs.Stage.Booked.{Booked, is_fall, is_switch_turn}
use Rattle.rg_rules.specs.Stage.Laws.{Shown, HasTurn, EntryIsAllowed, SwitchIsAllowed}
use Rattle.rg_rules.proofs.StageLemmas.Steps.{is_step, has_step}

of_utility :
    (past : List Entry) (answer : Answer) (st : State) (event : Event)
    → is_step event ≡ true
    → next_state past (Some answer) actors.Utility event st
    ≡ state_after_step past (Some answer) event st st.utility
of_utility past answer st (events.Started options copy pages) e = absurd (cc (e))
of_utility past answer st events.Active e = absurd (cc (e))
of_utility past answer st (events.StartLogFull need left) e = absurd (cc (e))
of_utility past answer st events.StartDown e = absurd (cc (e))
of_utility past answer st events.StartNoMemory e = absurd (cc (e))
of_utility past answer st events.Idle e = absurd (cc (e))
of_utility past answer st events.StepDown e = absurd (cc (e))
of_utility past answer st event e = refl

-- the next state is the turn's
next_is :
    (past : List Entry) (answer : Answer) (st : State) (s : Stage) (event : Event) (turn : Turn)
    → Shown st s → HasTurn past answer st s event turn
    → next_state past (Some answer) actors.Utility event st
    ≡ state_of_turn past st (numbers_of s) turn
next_is past answer st s event turn shown has =
    of_utility past answer st event (has_step _ _ answer (numbers_of s) s.drain event turn has)
    ∙ ap (state_after_step past (Some answer) event st) shown.utility
    ∙ ap (λ (b : Bool). if b then None
    else state_stepped past (Some answer) event st (numbers_of s)) shown.up
    ∙ ap
    (λ (d : DrainState). state_by_turn past st (numbers_of s)
    (turn_of (changes past) (least_holder st.drain st.claims) answer (numbers_of s) d event))
    shown.drain
    ∙ ap (state_by_turn past st (numbers_of s)) has

pub entry_allowed : EntryIsAllowed
entry_allowed past answer event st s turn stage shown has no_switch followed =
    by_turn turn stage (next_is past answer st s event turn shown has) no_switch followed
  where
    by_turn :
        (turn : Turn) (stage : Option Stage)
        → next_state past (Some answer) actors.Utility event st
        ≡ state_of_turn past st (numbers_of s) turn
        → is_switch_turn turn ≡ false → Followed turn stage
        → Booked past answer event st st.copy (is_fall turn) stage
    by_turn (Runs numbers drain) (Some t) e n f = record {
      after = record st { drain = drain; utility = Some numbers };
      allowed = e;
      utility = ap Some (sym f.0);
      drain = sym f.1;
      copy_is = refl;
      table = refl;
      locks = refl;
      claims = refl;
      down = refl;
      doubt = refl;
      copydoubt = refl;
    }
    by_turn (Runs numbers drain) None e n f = absurd f
    by_turn (Switches copy sides numbers) stage e n f = absurd (cc (n))
    by_turn Stops None e n f = record {
      after = stop_utility st;
      allowed = e;
      utility = refl;
      drain = refl;
      copy_is = refl;
      table = refl;
      locks = refl;
      claims = refl;
      down = refl;
      doubt = refl;
      copydoubt = refl;
    }
    by_turn Stops (Some t) e n f = absurd f
    by_turn Falls None e n f = record {
      after = record (stop_utility st) { down = true; copydoubt = true };
      allowed = e;
      utility = refl;
      drain = refl;
      copy_is = refl;
      table = refl;
      locks = refl;
      claims = refl;
      down = refl;
      doubt = refl;
      copydoubt = refl;
    }
    by_turn Falls (Some t) e n f = absurd f

-- the state that a switch leaves
abbrev switched : State → ℕ → model.Utility → State
switched st copy numbers = record st { copy = copy; drain = Free; utility = Some numbers }

all_hold : (a b c : Bool) → a ≡ true → b ≡ true → c ≡ true → (a && (b && c)) ≡ true
all_hold a b c p q r = ap (λ x. x && (b && c)) p ∙ ap (λ x. x && c) q ∙ r

pub switch_allowed : SwitchIsAllowed
switch_allowed past answer event st s copy sides numbers stage shown has other pages right f =
    by_stage stage f
  where
    allowed :
        next_state past (Some answer) actors.Utility event st
        ≡ Some (switched st copy numbers)
    allowed =
        next_is past answer st s event (Switches copy sides numbers) shown has
        ∙ ap (λ (b : Bool). if_allowed b (switched st copy numbers))
        (all_hold _ _ _ (eq-eqb copy (3 - st.copy) other) (eq-eqb sides.new.pages s.shadow pages)
        right)

    by_stage :
        (stage : Option Stage) → Followed (Switches copy sides numbers) stage
        → Booked past answer event st copy false stage
    by_stage (Some t) f = record {
      after = switched st copy numbers;
      allowed = allowed;
      utility = ap Some (sym f.0);
      drain = sym f.1;
      copy_is = refl;
      table = refl;
      locks = refl;
      claims = refl;
      down = refl;
      doubt = refl;
      copydoubt = refl;
    }
    by_stage None f = absurd f
