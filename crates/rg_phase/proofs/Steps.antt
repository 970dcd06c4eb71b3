-- A step of a desk, put together from its calls.
use Rattle.std.proofs.Common.{◌≡◌, ◌+◌, inl, inr, ℕ, Bool, true, false, Option, Some, None, refl}
use Rattle.std.proofs.Common.{sym, ◌∙◌, ap, subst}
use Rattle.std.specs.Option.{is_some}
use Rattle.std.specs.declared.result.Result.{Result}
use Rattle.rg_base.specs.declared.control.Answer.{Answer}
use Rattle.rg_base.specs.declared.session.Session.{Session}
use Rattle.rg_base.specs.declared.verdict.StopReason.TheVariants as reasons
use Rattle.rg_desk.specs.Desk.{DeskState, IsNextStep}
use Rattle.rg_outside.specs.Volume.{VolumeSeen}
use Rattle.rg_feed.specs.declared.fold.item.Stage.{Stage}
use Rattle.rg_model.specs.Turn.{Turn, turn_of}
use Rattle.rg_shadow.specs.declared.fault.ShadowFault.{ShadowFault}
use Rattle.rg_rules.specs.Stage.Bounded.{KeepsBounds}
use Rattle.rg_rules.specs.Stage.Followed.{Followed}
use Rattle.rg_rules.specs.Stage.NumbersOf.{numbers_of}
use Rattle.rg_stmt.specs.declared.event.Event.{Event}
use Rattle.rg_stmt.specs.declared.event.Event.TheVariants as events
use Rattle.rg_laws_utility.specs.TraceStage.Tending.{IsKeptStage, NextBy, is_booked, is_plain}
use Rattle.rg_laws_utility.proofs.TraceStageLemmas.Kept.{kept_on}
use Rattle.rg_laws_utility.proofs.TraceStageLemmas.Switching.{plain_turn}
use Rattle.rg_phase.specs.Step.{NextMade, is_device_stop, is_made}
use Rattle.rg_phase.specs.Working.{IsEventOrStop, Writes}
use Rattle.rg_phase.proofs.Stops.{space_next, stop_next}

-- ---- the desk that was asked

pub same_room : {V O : Type 0} (old mid : DeskState V O) → mid ≡ record old { spare = mid.spare }
    → old.kept ≡ None → mid ≡ record old { spare = mid.spare; kept = None; operator = mid.operator }
same_room {V} {O} old mid room kept =
    room
    ∙ ap
    (λ (k : Option Answer). let d : DeskState V O = record old { spare = mid.spare; kept = k } in d)
    kept
    ∙ ap
    (λ (o : O).
    let d : DeskState V O = record old { spare = mid.spare; kept = None; operator = o } in d)
    (sym (ap (λ (d : DeskState V O). d.operator) room))

-- ---- the next event

pub next_down : {V O : Type 0} (desk : DeskState V O) → desk.down ≡ true
    → NextMade desk.down desk.stage desk.changes desk.covered None events.StepDown
next_down desk down =
    subst (λ (b : Bool). NextMade b desk.stage desk.changes desk.covered None events.StepDown)
    (sym down) tt

pub next_idle : {V O : Type 0} (desk : DeskState V O) → desk.down ≡ false → desk.stage ≡ None
    → NextMade desk.down desk.stage desk.changes desk.covered None events.Idle
next_idle desk down stage =
    subst (λ (b : Bool). NextMade b desk.stage desk.changes desk.covered None events.Idle)
    (sym down)
    (subst (λ (o : Option Stage). NextMade false o desk.changes desk.covered None events.Idle)
    (sym stage) tt)

pub next_runs : {V O : Type 0} (desk : DeskState V O) (s : Stage) (answer : Answer) (event : Event)
    → desk.down ≡ false → desk.stage ≡ Some s
    → is_booked event ≡ true
    → is_plain (turn_of desk.changes desk.covered answer (numbers_of s) s.drain event) ≡ true
    → IsNextStep desk (Some answer) event
next_runs desk s answer event down stage booked next =
    subst (λ (b : Bool). NextBy b desk.stage desk.changes desk.covered (Some answer) event)
    (sym down)
    (subst (λ (o : Option Stage). NextBy false o desk.changes desk.covered (Some answer) event)
    (sym stage) (booked, next))

pub made_runs : {V O : Type 0} (desk : DeskState V O) (s : Stage) (answer : Answer) (event : Event)
    → desk.down ≡ false → desk.stage ≡ Some s
    → is_made event ≡ true
    → is_some (turn_of desk.changes desk.covered answer (numbers_of s) s.drain event) ≡ true
    → NextMade desk.down desk.stage desk.changes desk.covered (Some answer) event
made_runs desk s answer event down stage made next =
    subst (λ (b : Bool). NextMade b desk.stage desk.changes desk.covered (Some answer) event)
    (sym down)
    (subst (λ (o : Option Stage). NextMade false o desk.changes desk.covered (Some answer) event)
    (sym stage) (made, next))

-- the next event is the same, where the desk differs in what a step makes before it
pub next_same : {V O : Type 0} (look : V → VolumeSeen) (old mid : DeskState V O) (answer : Answer)
    (event : Event)
    → Writes look old mid → IsNextStep old (Some answer) event → IsNextStep mid (Some answer) event
next_same {V} {O} look old mid answer event wrote next =
    subst (λ (d : DeskState V O). IsNextStep d (Some answer) event) (sym wrote.same) next

pub runs_some : {V O : Type 0} (desk : DeskState V O) (s : Stage) → desk.stage ≡ Some s
    → is_some desk.stage ≡ true
runs_some desk s stage = ap (λ (o : Option Stage). is_some o) stage

-- the event, or the stop that stands in its place, is the next one
pub or_stop_next : {V O : Type 0} (desk : DeskState V O) (s : Stage) (answer : Answer)
    (event : Event) (made : Result Unit ShadowFault) (result : Event)
    → desk.down ≡ false → desk.stage ≡ Some s → s.switched ≡ false
    → is_booked event ≡ true → is_device_stop event ≡ false
    → is_plain (turn_of desk.changes desk.covered answer (numbers_of s) s.drain event) ≡ true
    → IsEventOrStop event made result
    → (is_booked result ≡ true) × (is_device_stop result ≡ false)
    × IsNextStep desk (Some answer) result
or_stop_next desk s answer event made result down stage unswitched booked quiet next (inl is) =
    subst
    (λ (e : Event). (is_booked e ≡ true) × (is_device_stop e ≡ false)
    × IsNextStep desk (Some answer) e) (sym is.0)
    (booked, quiet, next_runs desk s answer event down stage booked next)
or_stop_next desk s answer event made result down stage unswitched booked quiet next
    (inr (inl is)) =
    subst
    (λ (e : Event). (is_booked e ≡ true) × (is_device_stop e ≡ false)
    × IsNextStep desk (Some answer) e) (sym is.0) (
      refl,
      refl,
      next_runs desk s answer (events.Stop reasons.NoMemory) down stage refl
          (stop_next s desk.changes desk.covered answer),
    )
or_stop_next desk s answer event made result down stage unswitched booked quiet next
    (inr (inr is)) =
    subst
    (λ (e : Event). (is_booked e ≡ true) × (is_device_stop e ≡ false)
    × IsNextStep desk (Some answer) e) (sym is.0) (
      refl,
      refl,
      next_runs desk s answer (events.Stop reasons.NoSpace) down stage refl
          (space_next s desk.changes desk.covered answer event is.1 unswitched next),
    )

-- ---- the numbers after it

pub stays_within : (all entries n : ℕ) (s t : Stage) (answer : Answer) (holder : Option Session)
    (event : Event) (next : Option Stage) → IsKeptStage all entries (Some s)
    → is_plain (turn_of all holder answer (numbers_of s) s.drain event) ≡ true
    → ((covered : Option Session) (turn : Turn)
    → turn_of all covered answer (numbers_of s) s.drain event ≡ Some turn → Followed turn next)
    → KeepsBounds all s next → next ≡ Some t → n ≡ entries + 1 → IsKeptStage all n (Some t)
stays_within all entries n s t answer holder event next within plain followed bounded next_is n_is =
    let has = plain_turn _ plain in
    subst (λ (k : ℕ). IsKeptStage all k (Some t)) (sym n_is)
    (subst (IsKeptStage all (entries + 1)) next_is
    (kept_on all entries s holder answer event has.0 next within bounded has.1
    (followed holder has.0 has.1)))
