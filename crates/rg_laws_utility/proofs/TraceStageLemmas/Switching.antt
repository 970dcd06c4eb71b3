-- When a utility switches to the new copy, or brings the engine down: only at its switch, and then
-- under the drain for ALL.
use Rattle.std.proofs.Common.{◌≡◌, if◌then◌else◌, ℕ, Bool, true, false, Option, Some, None, refl}
use Rattle.std.proofs.Common.{sym, ◌∙◌, subst}
use Rattle.rg_base.specs.declared.control.Answer.{Answer}
use Rattle.rg_base.specs.declared.control.Command.{Command}
use Rattle.rg_base.specs.declared.options.DrainFor.{DrainFor}
use Rattle.rg_base.specs.declared.options.DrainFor.TheVariants as what
use Rattle.rg_base.specs.declared.options.DrainState.{DrainState}
use Rattle.rg_base.specs.declared.options.DrainState.TheVariants as drains
use Rattle.rg_base.specs.declared.session.Session.{Session}
use Rattle.rg_base.specs.declared.step.Step.{Step}
use Rattle.rg_base.specs.declared.step.Step.TheVariants as steps
use Rattle.rg_base.specs.declared.verdict.StopReason.TheVariants as reasons
use Rattle.rg_feed.specs.declared.fold.item.Stage.{Stage}
use Rattle.rg_model.specs.State.{Utility}
use Rattle.rg_model.specs.Turn.{Turn, Runs, Switches, Stops, Falls, alter, end_turn, is_term}
use Rattle.rg_model.specs.Turn.{step_of, switch_turn, term_turn, turn_at, turn_of}
use Rattle.rg_rules.specs.Stage.Booked.{is_fall, is_switch_turn}
use Rattle.rg_rules.specs.Stage.NumbersOf.{numbers_of}
use Rattle.rg_stmt.specs.declared.event.Event.{Event}
use Rattle.rg_stmt.specs.declared.event.Event.TheVariants as events
use Rattle.rg_laws_utility.specs.TraceStage.Tending.{IsForAll, IsKeptStage, is_plain}
use Rattle.rg_laws_utility.proofs.TraceStageLemmas.Turning.{IsAt, Leads, LeadsIf, Needs}
use Rattle.rg_laws_utility.proofs.TraceStageLemmas.Turning.{alter_switched, alter_written, at_leads}
use Rattle.rg_laws_utility.proofs.TraceStageLemmas.Turning.{end_leads, step_at, term_leads}

-- a plain turn neither switches nor falls
pub plain_neither : (turn : Turn) → is_plain (Some turn) ≡ true
    → (is_switch_turn turn ≡ false) × (is_fall turn ≡ false)
plain_neither (Runs v drain) plain = (refl, refl)
plain_neither (Switches copy sides v) plain = absurd (cc (plain))
plain_neither Stops plain = (refl, refl)
plain_neither Falls plain = absurd (cc (plain))

-- where the next turn is plain there is one
pub plain_turn : (o : Option Turn) → is_plain o ≡ true
    → (turn : Turn) × (o ≡ Some turn) × (is_plain (Some turn) ≡ true)
plain_turn None plain = absurd (cc (plain))
plain_turn (Some turn) plain = (turn, refl, plain)

-- ---- a turn that is not plain is made at the switch

-- nothing is asked of the numbers and the drain
abbrev Anything : (written switched : Bool) → DrainState → Type 0
Anything written switched drain = Unit {0}

leads_plain : (turn : Turn) → Leads Anything turn → is_plain (Some turn) ≡ true
leads_plain (Runs v drain) leads = refl
leads_plain (Switches copy sides v) leads = absurd leads
leads_plain Stops leads = refl
leads_plain Falls leads = absurd leads

-- so a turn that leads anywhere is plain
none_other : (o : Option Turn) (turn : Turn) → LeadsIf Anything o → o ≡ Some turn
    → is_plain (Some turn) ≡ false → ⊥
none_other o turn leads e other = cc (other, leads_plain turn (subst (LeadsIf Anything) e leads))

module _ (all : ℕ) (blocker : Option Session) (answer : Answer) (u : Utility) (drain : DrainState)
    (event : Event) (turn : Turn) where
  at_other : (step : Step) → turn_at step all blocker answer u drain event ≡ Some turn
      → is_plain (Some turn) ≡ false → Needs Anything step u drain → step ≡ steps.Switch
  at_other step e other needs = absurd
      (none_other _ turn (at_leads Anything step all blocker answer u drain event needs) e other)

  at_switch : (step : Step) → turn_at step all blocker answer u drain event ≡ Some turn
      → is_plain (Some turn) ≡ false → step ≡ steps.Switch
  at_switch steps.Switch e other = refl
  at_switch steps.Log e other = at_other steps.Log e other (λ later. tt)
  at_switch (steps.Wait asked) e other = at_other (steps.Wait asked) e other (tt, tt, tt)
  at_switch (steps.Write what.Writers) e other = at_other (steps.Write what.Writers) e other tt
  at_switch (steps.Write what.All) e other = at_other (steps.Write what.All) e other tt
  at_switch step e other = at_other step e other tt

pub switch_turn_at :
    (all : ℕ) (blocker : Option Session) (answer : Answer) (s : Stage) (event : Event) (turn : Turn)
    → turn_of all blocker answer (numbers_of s) s.drain event ≡ Some turn
    → is_plain (Some turn) ≡ false
    → (s.switched ≡ false) × (step_of (alter (numbers_of s) answer.command) s.drain ≡ steps.Switch)
switch_turn_at all blocker answer s event turn e other = by_switched s.switched refl e
  where
    by_term : (b : Bool)
        → (if b then term_turn event
        else turn_at (step_of (alter (numbers_of s) answer.command) s.drain) all blocker answer
        (alter (numbers_of s) answer.command) s.drain event) ≡ Some turn
        → step_of (alter (numbers_of s) answer.command) s.drain ≡ steps.Switch
    by_term true e = absurd (none_other _ turn (term_leads Anything event) e other)
    by_term false e = at_switch all blocker answer (alter (numbers_of s) answer.command) s.drain
        event turn _ e other

    by_switched : (b : Bool) → s.switched ≡ b
        → (if b then end_turn event else (if is_term answer.command then term_turn event
        else turn_at (step_of (alter (numbers_of s) answer.command) s.drain) all blocker answer
        (alter (numbers_of s) answer.command) s.drain event)) ≡ Some turn
        → (s.switched ≡ false)
        × (step_of (alter (numbers_of s) answer.command) s.drain ≡ steps.Switch)
    by_switched true is e = absurd (none_other _ turn (end_leads Anything event) e other)
    by_switched false is e = (is, by_term (is_term answer.command) e)

-- ---- the switch is under the drain for ALL

for_all_is : (granted : DrainFor) → IsForAll (drains.Granted granted)
    → drains.Granted granted ≡ drains.Granted what.All
for_all_is what.Writers for_all = absurd for_all
for_all_is what.All for_all = refl

pub switch_under_all : (all entries : ℕ) (s : Stage) (command : Command)
    → IsKeptStage all entries (Some s) → s.switched ≡ false
    → step_of (alter (numbers_of s) command) s.drain ≡ steps.Switch
    → s.drain ≡ drains.Granted what.All
switch_under_all all entries s command kept unswitched is =
    let at : IsAt steps.Switch (alter (numbers_of s) command) s.drain =
    subst (λ (step : Step). IsAt step (alter (numbers_of s) command) s.drain) is
    (step_at (alter (numbers_of s) command) s.drain) in
    let written : s.written ≡ true = sym (alter_written (numbers_of s) command) ∙ at.0 in
    let granted = at.1 in
    granted.1 ∙ for_all_is granted.0 (subst IsForAll granted.1 (kept.for_all written unswitched))

-- ---- a utility that goes on has not switched

abbrev Unswitched : (written switched : Bool) → DrainState → Type 0
Unswitched written switched drain = switched ≡ false

abbrev Never : (written switched : Bool) → DrainState → Type 0
Never written switched drain = ⊥

module _ (all : ℕ) (blocker : Option Session) (answer : Answer) (u v : Utility)
    (drain later : DrainState) (event : Event) where
  switch_ends : (event : Event) → switch_turn u event ≡ Some (Runs v later) → ⊥
  switch_ends (events.Switched copy sides) e = absurd (cc (e))
  switch_ends (events.Stop reasons.Device) e = absurd (cc (e))
  switch_ends (events.Stop reasons.NoMemory) e = absurd (cc (e))
  switch_ends event e = absurd (cc (e))

  at_goes : (step : Step) → turn_at step all blocker answer u drain event ≡ Some (Runs v later)
      → Needs Unswitched step u drain → v.switched ≡ false
  at_goes step e needs =
      subst (LeadsIf Unswitched) e (at_leads Unswitched step all blocker answer u drain event needs)

  at_unswitched : (step : Step)
      → turn_at step all blocker answer u drain event ≡ Some (Runs v later) → u.switched ≡ false
      → v.switched ≡ false
  at_unswitched steps.Switch e none = absurd (switch_ends event e)
  at_unswitched steps.End e none = at_goes steps.End e tt
  at_unswitched steps.Log e none = at_goes steps.Log e (λ later. none)
  at_unswitched (steps.Wait asked) e none = at_goes (steps.Wait asked) e (none, none, none)
  at_unswitched (steps.Write what.Writers) e none = at_goes (steps.Write what.Writers) e none
  at_unswitched (steps.Write what.All) e none = at_goes (steps.Write what.All) e none
  at_unswitched step e none = at_goes step e none

pub goes_unswitched : (all : ℕ) (blocker : Option Session) (answer : Answer) (s : Stage)
    (event : Event) (v : Utility) (later : DrainState)
    → turn_of all blocker answer (numbers_of s) s.drain event ≡ Some (Runs v later)
    → (s.switched ≡ false) × (v.switched ≡ false)
goes_unswitched all blocker answer s event v later e = by_switched s.switched refl e
  where
    by_term : (b : Bool) → s.switched ≡ false
        → (if b then term_turn event
        else turn_at (step_of (alter (numbers_of s) answer.command) s.drain) all blocker answer
        (alter (numbers_of s) answer.command) s.drain event) ≡ Some (Runs v later)
        → v.switched ≡ false
    by_term true is e = absurd (subst (LeadsIf Never) e (term_leads Never event))
    by_term false is e =
        at_unswitched all blocker answer (alter (numbers_of s) answer.command) v s.drain later event
        (step_of (alter (numbers_of s) answer.command) s.drain) e
        (alter_switched (numbers_of s) answer.command ∙ is)

    by_switched : (b : Bool) → s.switched ≡ b
        → (if b then end_turn event else (if is_term answer.command then term_turn event
        else turn_at (step_of (alter (numbers_of s) answer.command) s.drain) all blocker answer
        (alter (numbers_of s) answer.command) s.drain event)) ≡ Some (Runs v later)
        → (s.switched ≡ false) × (v.switched ≡ false)
    by_switched true is e = absurd (subst (LeadsIf Never) e (end_leads Never event))
    by_switched false is e = (is, by_term (is_term answer.command) is e)
