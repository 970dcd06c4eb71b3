-- The turn of an event, once it is known which step the numbers name.
use Rattle.std.proofs.Common.{◌≡◌, ℕ, Bool, true, false, Option, Some, ap, refl, subst, sym, ◌∙◌}
use Rattle.std.proofs.Common.{if◌then◌else◌}
use Rattle.rg_base.specs.declared.control.Answer.{Answer}
use Rattle.rg_base.specs.declared.options.DrainFor.{DrainFor}
use Rattle.rg_base.specs.declared.options.DrainState.{DrainState}
use Rattle.rg_base.specs.declared.session.Session.{Session}
use Rattle.rg_base.specs.declared.step.Step.{Step}
use Rattle.rg_base.specs.declared.step.Step.TheVariants as steps
use Rattle.rg_stmt.specs.declared.event.Event.{Event}
use Rattle.rg_model.specs.State.{Utility}
use Rattle.rg_model.specs.Turn.{Turn, alter, end_turn, is_term, step_of, term_turn, turn_at}
use Rattle.rg_model.specs.Turn.{turn_of, wait_turn}
use Rattle.rg_model.specs.Verdict.{drain_verdict}

-- a step that looks at the drain
pub wait_is :
    (step : Step) (asked : DrainFor) (all : ℕ) (blocker : Option Session) (answer : Answer)
    (u : Utility) (d : DrainState) (event : Event) (turn : Turn)
    → step ≡ steps.Wait asked → turn_at step all blocker answer u d event ≡ Some turn
    → wait_turn all answer u d asked
    (drain_verdict u.options u.asked u.failed blocker answer.now answer.estimate) event
    ≡ Some turn
wait_is step asked all blocker answer u d event turn is e =
    subst (λ s. turn_at s all blocker answer u d event ≡ Some turn) is e

-- A step of a utility that has not switched, where the operator does not end it: `v` are its
-- numbers with the operator's ALTER.
pub step_is :
    (all : ℕ) (blocker : Option Session) (answer : Answer) (u v : Utility) (d b : DrainState)
    (event : Event)
    → u.switched ≡ false → is_term answer.command ≡ false → v ≡ alter u answer.command → b ≡ d
    → turn_of all blocker answer u d event
    ≡ turn_at (step_of v b) all blocker answer v b event
step_is all blocker answer u v d b event no_switch no_term altered kept =
    by_tests u.switched (is_term answer.command) no_switch no_term
    ∙ ap (λ (w : Utility). turn_at (step_of w d) all blocker answer w d event) (sym altered)
    ∙ ap (λ (c : DrainState). turn_at (step_of v c) all blocker answer v c event) (sym kept)
  where
    by_tests :
        (s t : Bool) → s ≡ false → t ≡ false
        → (if s then end_turn event else (if t then term_turn event
        else turn_at (step_of (alter u answer.command) d) all blocker answer
        (alter u answer.command) d event))
        ≡ turn_at (step_of (alter u answer.command) d) all blocker answer
        (alter u answer.command) d event
    by_tests true t no_switch no_term = absurd (cc (no_switch))
    by_tests false true no_switch no_term = absurd (cc (no_term))
    by_tests false false no_switch no_term = refl
