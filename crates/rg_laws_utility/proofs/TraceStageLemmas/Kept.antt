-- What is kept of a utility's stage is kept over each of its turns.
--
-- 1. A utility that has not switched asks for the drain for ALL with the writing of the new copy,
-- or
--    has it granted then. A drain that is given up takes the writing back.
-- 2. The switch leaves no drain in force. After it a utility only stops.
use Rattle.std.proofs.Common.{◌≡◌, ◌+◌, if◌then◌else◌, ℕ, Bool, true, false, Option, Some, None}
use Rattle.std.proofs.Common.{refl, sym, ◌∙◌, ap, subst}
use Rattle.rg_base.specs.declared.control.Answer.{Answer}
use Rattle.rg_base.specs.declared.options.DrainFor.{DrainFor}
use Rattle.rg_base.specs.declared.options.DrainFor.TheVariants as what
use Rattle.rg_base.specs.declared.options.DrainState.{DrainState}
use Rattle.rg_base.specs.declared.options.DrainState.TheVariants as drains
use Rattle.rg_base.specs.declared.session.Session.{Session}
use Rattle.rg_base.specs.declared.step.Step.{Step}
use Rattle.rg_base.specs.declared.step.Step.TheVariants as steps
use Rattle.rg_base.specs.declared.verdict.StopReason.TheVariants as reasons
use Rattle.rg_feed.specs.declared.fold.item.Stage.{Stage}
use Rattle.rg_model.specs.State.{Utility}
use Rattle.rg_model.specs.Turn.{Turn, Runs, Switches, Stops, Falls, alter, end_turn, is_term}
use Rattle.rg_model.specs.Turn.{step_of, switch_turn, term_turn, turn_at, turn_of}
use Rattle.rg_rules.specs.Stage.Bounded.{KeepsBounds}
use Rattle.rg_rules.specs.Stage.Followed.{Followed}
use Rattle.rg_rules.specs.Stage.NumbersOf.{numbers_of}
use Rattle.rg_stmt.specs.declared.event.Event.{Event}
use Rattle.rg_stmt.specs.declared.event.Event.TheVariants as events
use Rattle.rg_laws_utility.specs.TraceStage.Tending.{IsForAll, IsKeptStage}
use Rattle.rg_laws_utility.proofs.TraceStageLemmas.Turning.{IsAt, Leads, LeadsIf, Needs}
use Rattle.rg_laws_utility.proofs.TraceStageLemmas.Turning.{alter_switched, alter_written, at_leads}
use Rattle.rg_laws_utility.proofs.TraceStageLemmas.Turning.{end_leads, step_at, term_leads}

-- the drain is as the two flags ask
abbrev pub IsUnder : (written switched : Bool) → DrainState → Type 0
IsUnder written switched drain =
    (written ≡ true → switched ≡ false → IsForAll drain) × (switched ≡ true → drain ≡ drains.Free)

-- so it is after this turn
abbrev pub StaysUnder : Turn → Type 0
StaysUnder (Runs v drain) = IsUnder v.written v.switched drain
StaysUnder (Switches copy sides v) = IsUnder v.written v.switched drains.Free
StaysUnder Stops = Unit {0}
StaysUnder Falls = Unit {0}

abbrev StaysUnderIf : Option Turn → Type 0
StaysUnderIf None = Unit {0}
StaysUnderIf (Some turn) = StaysUnder turn

leads_under : (turn : Turn) → Leads IsUnder turn → StaysUnder turn
leads_under (Runs v drain) leads = leads
leads_under (Switches copy sides v) leads = absurd leads
leads_under Stops leads = tt
leads_under Falls leads = absurd leads

leads_under_if : (o : Option Turn) → LeadsIf IsUnder o → StaysUnderIf o
leads_under_if None leads = tt
leads_under_if (Some turn) leads = leads_under turn leads

-- ---- at each step before the switch

-- where the new copy is not written, any drain will do
unwritten_under : (written switched : Bool) → written ≡ false → switched ≡ false
    → (drain : DrainState) → IsUnder written switched drain
unwritten_under written switched unwritten unswitched drain =
    (λ w n. absurd (cc (w, unwritten)), λ w. absurd (cc (w, unswitched)))

-- under no drain it is not written
is_unwritten : (written switched : Bool) (drain : DrainState) → switched ≡ false
    → IsUnder written switched drain → drain ≡ drains.Free → written ≡ false
is_unwritten true switched drain unswitched under free =
    absurd (subst IsForAll free (under.0 refl unswitched))
is_unwritten false switched drain unswitched under free = refl

granted_for_all : (asked : DrainFor) → IsForAll (drains.Asked asked)
    → IsForAll (drains.Granted asked)
granted_for_all what.Writers for_all = absurd for_all
granted_for_all what.All for_all = tt

module _ (u : Utility) (drain : DrainState) (unswitched : u.switched ≡ false)
    (under : IsUnder u.written u.switched drain) where
  log_under : drain ≡ drains.Free → Needs IsUnder steps.Log u drain
  log_under free = unwritten_under u.written u.switched
      (is_unwritten u.written u.switched drain unswitched under free) unswitched

  wait_under : (asked : DrainFor) → drain ≡ drains.Asked asked
      → Needs IsUnder (steps.Wait asked) u drain
  wait_under asked is = (
    under,
    (
      λ w n. granted_for_all asked (subst IsForAll is (under.0 w n)),
      λ w. absurd (cc (w, unswitched)),
    ),
    unwritten_under false u.switched refl unswitched drains.Free,
  )

  write_under : (granted : DrainFor) → drain ≡ drains.Granted granted
      → Needs IsUnder (steps.Write granted) u drain
  write_under what.Writers is = (λ w n. tt, λ w. absurd (cc (w, unswitched)))
  write_under what.All is = (λ w n. subst IsForAll (sym is) tt, λ w. absurd (cc (w, unswitched)))

  -- the switch leaves none in force
  switch_under : (event : Event) → StaysUnderIf (switch_turn u event)
  switch_under (events.Switched copy sides) = (λ w n. absurd (cc (n)), λ w. refl)
  switch_under (events.Stop reasons.Device) = tt
  switch_under (events.Stop reasons.NoMemory) = tt
  switch_under event = tt

  at_under : (step : Step) (all : ℕ) (blocker : Option Session) (answer : Answer) (event : Event)
      → IsAt step u drain → StaysUnderIf (turn_at step all blocker answer u drain event)
  at_under steps.Log all blocker answer event at =
      leads_under_if _ (at_leads IsUnder steps.Log all blocker answer u drain event (log_under at))
  at_under (steps.Wait asked) all blocker answer event at = leads_under_if _
      (at_leads IsUnder (steps.Wait asked) all blocker answer u drain event (wait_under asked at))
  at_under (steps.Write granted) all blocker answer event at = leads_under_if _
      (at_leads IsUnder (steps.Write granted) all blocker answer u drain event
      (write_under granted at))
  at_under steps.Switch all blocker answer event at = switch_under event
  at_under steps.End all blocker answer event at = absurd at
  at_under step all blocker answer event at =
      leads_under_if _ (at_leads IsUnder step all blocker answer u drain event under)

-- ---- over a turn

pub turn_under : (u : Utility) (drain : DrainState) → IsUnder u.written u.switched drain
    → (all : ℕ) (blocker : Option Session) (answer : Answer) (event : Event)
    → StaysUnderIf (turn_of all blocker answer u drain event)
turn_under u drain under all blocker answer event = by_switched u.switched refl
  where
    altered : IsUnder (alter u answer.command).written (alter u answer.command).switched drain
    altered = subst (λ (b : Bool). IsUnder b (alter u answer.command).switched drain)
        (sym (alter_written u answer.command))
        (subst (λ (b : Bool). IsUnder u.written b drain) (sym (alter_switched u answer.command))
        under)

    by_term : (b : Bool) → u.switched ≡ false
        → StaysUnderIf
        (if b then term_turn event else turn_at (step_of (alter u answer.command) drain) all blocker
        answer (alter u answer.command) drain event)
    by_term true unswitched = leads_under_if _ (term_leads IsUnder event)
    by_term false unswitched =
        at_under (alter u answer.command) drain (alter_switched u answer.command ∙ unswitched)
        altered (step_of (alter u answer.command) drain) all blocker answer event
        (step_at (alter u answer.command) drain)

    by_switched : (b : Bool) → u.switched ≡ b
        → StaysUnderIf
        (if b then end_turn event else (if is_term answer.command then term_turn event
        else turn_at (step_of (alter u answer.command) drain) all blocker answer
        (alter u answer.command) drain event))
    by_switched true is = leads_under_if _ (end_leads IsUnder event)
    by_switched false is = by_term (is_term answer.command) is

-- the stage that follows such a turn is kept
has_kept : (all entries : ℕ) (s t : Stage) (v : Utility) (drain : DrainState)
    → KeepsBounds all s (Some t) → IsKeptStage all entries (Some s)
    → IsUnder v.written v.switched drain → numbers_of t ≡ v → t.drain ≡ drain
    → IsKeptStage all (entries + 1) (Some t)
has_kept all entries s t v drain keeps kept under numbers drained =
    let written : t.written ≡ v.written = ap (λ (u : Utility). u.written) numbers in
    let switched : t.switched ≡ v.switched = ap (λ (u : Utility). u.switched) numbers in
    record {
      bounded = keeps entries kept.bounded;
      for_all = λ w n. subst IsForAll (sym drained) (under.0 (sym written ∙ w) (sym switched ∙ n));
      free = λ w. drained ∙ under.1 (sym switched ∙ w);
    }

kept_after : (all entries : ℕ) (s : Stage) (turn : Turn) (next : Option Stage)
    → IsKeptStage all entries (Some s) → KeepsBounds all s next → StaysUnder turn
    → Followed turn next → IsKeptStage all (entries + 1) next
kept_after all entries s turn None kept keeps under follows = tt
kept_after all entries s (Runs v drain) (Some t) kept keeps under follows =
    has_kept all entries s t v drain keeps kept under follows.0 follows.1
kept_after all entries s (Switches copy sides v) (Some t) kept keeps under follows =
    has_kept all entries s t v drains.Free keeps kept under follows.0 follows.1
kept_after all entries s Stops (Some t) kept keeps under follows = absurd follows
kept_after all entries s Falls (Some t) kept keeps under follows = absurd follows

pub kept_on : (all entries : ℕ) (s : Stage) (blocker : Option Session) (answer : Answer)
    (event : Event) (turn : Turn) (next : Option Stage)
    → IsKeptStage all entries (Some s) → KeepsBounds all s next
    → turn_of all blocker answer (numbers_of s) s.drain event ≡ Some turn → Followed turn next
    → IsKeptStage all (entries + 1) next
kept_on all entries s blocker answer event turn next kept keeps e follows =
    kept_after all entries s turn next kept keeps
    (subst StaysUnderIf e
    (turn_under (numbers_of s) s.drain (λ w n. kept.for_all w n, λ w. kept.free w) all blocker
    answer event)) follows
