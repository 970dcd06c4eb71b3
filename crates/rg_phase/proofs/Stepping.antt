-- Which events of a step are the next one.
use Rattle.std.proofs.Common.{◌≡◌, ◌+◌, nat_le, nat_lt, ℕ, Bool, true, false, Option, Some, None}
use Rattle.std.proofs.Common.{if◌then◌else◌, refl}
use Rattle.std.specs.Option.{is_some}
use Rattle.rg_base.specs.declared.control.Answer.{Answer}
use Rattle.rg_base.specs.declared.options.DrainFor.{DrainFor}
use Rattle.rg_base.specs.declared.options.DrainState.{DrainState}
use Rattle.rg_base.specs.declared.options.Options.{Options}
use Rattle.rg_base.specs.declared.session.Session.{Session}
use Rattle.rg_base.specs.declared.step.Step.{Step}
use Rattle.rg_base.specs.declared.verdict.DrainVerdict.{DrainVerdict}
use Rattle.rg_base.specs.declared.verdict.DrainVerdict.TheVariants as waits
use Rattle.rg_base.specs.declared.verdict.StopReason.TheVariants as reasons
use Rattle.rg_model.specs.State.{Utility}
use Rattle.rg_model.specs.Turn.{Turn, Runs, Switches, Stops, Falls, turn_at}
use Rattle.rg_model.specs.Verdict.{drain_verdict, is_late, retry_verdict, wait_verdict}
use Rattle.rg_rules.specs.Stage.Events.{drain_event}
use Rattle.rg_stmt.specs.declared.event.Event.{Event}
use Rattle.rg_laws_utility.specs.TraceStage.Tending.{is_booked, is_plain}
use Rattle.rg_laws_utility.proofs.TraceStageLemmas.Turning.{LeadsIf, Needs, at_leads}
use Rattle.rg_phase.specs.Step.{is_device_stop}
use Rattle.rg_phase.specs.Working.{is_filling}

-- a turn of a step that is no switch is plain

abbrev Anything : (written switched : Bool) → DrainState → Type 0
Anything written switched drain = Unit {0}

leads_plain : (o : Option Turn) → LeadsIf Anything o → is_some o ≡ true → is_plain o ≡ true
leads_plain None leads some = absurd (cc (some))
leads_plain (Some (Runs u drain)) leads some = refl
leads_plain (Some (Switches copy sides u)) leads some = absurd leads
leads_plain (Some Stops) leads some = refl
leads_plain (Some Falls) leads some = absurd leads

pub plain_at : (step : Step) (all : ℕ) (blocker : Option Session) (answer : Answer) (u : Utility)
    (d : DrainState) (event : Event)
    → Needs Anything step u d → is_some (turn_at step all blocker answer u d event) ≡ true
    → is_plain (turn_at step all blocker answer u d event) ≡ true
plain_at step all blocker answer u d event needs some =
    leads_plain _ (at_leads Anything step all blocker answer u d event needs) some

-- whatever becomes of the drain is booked, and no call failed for it

pub drain_booked : (what : DrainFor) (failed : ℕ) (verdict : DrainVerdict)
    → is_booked (drain_event what failed verdict) ≡ true
drain_booked what failed (waits.Wait session) = refl
drain_booked what failed waits.Granted = refl
drain_booked what failed waits.GiveUp = refl
drain_booked what failed (waits.Stop reason) = refl

by_test : (what : DrainFor) (failed : ℕ) (b : Bool) (one other : DrainVerdict)
    → is_device_stop (drain_event what failed one) ≡ false
    → is_device_stop (drain_event what failed other) ≡ false
    → is_device_stop (drain_event what failed (if b then one else other)) ≡ false
by_test what failed true one other y n = y
by_test what failed false one other y n = n

wait_quiet :
    (options : Options) (what : DrainFor) (asked failed : ℕ) (blocker : Option Session) (now : ℕ)
    → is_device_stop (drain_event what failed (wait_verdict options asked failed blocker now))
    ≡ false
wait_quiet options what asked failed None now = refl
wait_quiet options what asked failed (Some session) now =
    by_test what failed (nat_le (asked + options.wait) now) (retry_verdict options failed)
    (waits.Wait session)
    (by_test what failed (nat_lt options.retry (failed + 1)) (waits.Stop reasons.Drain) waits.GiveUp
    refl refl) refl

pub drain_quiet : (options : Options) (what : DrainFor) (asked failed : ℕ)
    (blocker : Option Session) (now estimate : ℕ)
    → is_device_stop
    (drain_event what failed (drain_verdict options asked failed blocker now estimate)) ≡ false
drain_quiet options what asked failed blocker now estimate =
    by_test what failed (is_late options.deadline now estimate) (waits.Stop reasons.Deadline)
    (wait_verdict options asked failed blocker now) refl
    (wait_quiet options what asked failed blocker now)

-- nor was a page to be filled

unfilled_test : (what : DrainFor) (failed : ℕ) (b : Bool) (one other : DrainVerdict)
    → is_filling (drain_event what failed one) ≡ false
    → is_filling (drain_event what failed other) ≡ false
    → is_filling (drain_event what failed (if b then one else other)) ≡ false
unfilled_test what failed true one other y n = y
unfilled_test what failed false one other y n = n

wait_unfilled :
    (options : Options) (what : DrainFor) (asked failed : ℕ) (blocker : Option Session) (now : ℕ)
    → is_filling (drain_event what failed (wait_verdict options asked failed blocker now)) ≡ false
wait_unfilled options what asked failed None now = refl
wait_unfilled options what asked failed (Some session) now =
    unfilled_test what failed (nat_le (asked + options.wait) now) (retry_verdict options failed)
    (waits.Wait session)
    (unfilled_test what failed (nat_lt options.retry (failed + 1)) (waits.Stop reasons.Drain)
    waits.GiveUp refl refl) refl

pub drain_unfilled : (options : Options) (what : DrainFor) (asked failed : ℕ)
    (blocker : Option Session) (now estimate : ℕ)
    → is_filling (drain_event what failed (drain_verdict options asked failed blocker now estimate))
    ≡ false
drain_unfilled options what asked failed blocker now estimate =
    unfilled_test what failed (is_late options.deadline now estimate) (waits.Stop reasons.Deadline)
    (wait_verdict options asked failed blocker now) refl
    (wait_unfilled options what asked failed blocker now)
