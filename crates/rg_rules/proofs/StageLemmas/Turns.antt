-- What follows of an event that has a turn.
use Rattle.std.proofs.Common.{◌≡◌, ◌≤◌, ◌+◌, ℕ, Bool, true, false, Option, Some, None, refl, sym}
use Rattle.std.proofs.Common.{subst, ◌&&◌, nat_lt, nat_le, if◌then◌else◌}
use Rattle.std.specs.Prelude.{is_some}
use Rattle.std.proofs.lemmas.Bool.{eqb-true, ltb-false}
use Rattle.rg_base.specs.declared.control.Answer.{Answer}
use Rattle.rg_base.specs.declared.options.DrainFor.{DrainFor}
use Rattle.rg_base.specs.declared.options.DrainState.{DrainState}
use Rattle.rg_base.specs.declared.options.Options.{Options}
use Rattle.rg_base.specs.declared.session.Session.{Session}
use Rattle.rg_base.specs.declared.verdict.DrainVerdict.{DrainVerdict}
use Rattle.rg_base.specs.declared.verdict.DrainVerdict.TheVariants as waits
use Rattle.rg_base.specs.declared.verdict.StopReason.TheVariants as reasons
use Rattle.rg_base.specs.declared.verdict.Verdict.{Verdict}
use Rattle.rg_stmt.specs.declared.event.Event.{Event}
use Rattle.rg_stmt.specs.declared.event.Event.TheVariants as events
use Rattle.rg_feed.specs.declared.fold.item.Stage.{Stage}
use Rattle.rg_model.specs.Packed.{page_at}
use Rattle.rg_model.specs.Same.{same_reason}
use Rattle.rg_model.specs.State.{Utility}
use Rattle.rg_model.specs.Turn.{Turn, Stops, turn_if, early_stop, reload_turn, log_turn, wait_turn}
use Rattle.rg_model.specs.Turn.{verdict_turn}
use Rattle.rg_model.specs.Verdict.{drain_verdict, wait_verdict, retry_verdict, is_late, is_slow}
use Rattle.rg_rules.specs.Stage.Followed.{Followed}
use Rattle.rg_rules.proofs.StageLemmas.Pages.{page_at-least}

passed : (a b : Bool) (t : Turn) → is_some (turn_if (a && b) t) ≡ true → a ≡ true
passed true b t e = refl
passed false b t e = absurd (cc (e))

-- a page that is filled is no less than the pages filled with it
pub page_filled :
    (u : Utility) (d : DrainState) (page rows : ℕ)
    → is_some (reload_turn u d (events.Reload page rows)) ≡ true → u.filled + 1 ≤ page
page_filled u d page rows e =
    subst (λ n. u.filled + 1 ≤ n)
    (sym (eqb-true page (page_at u.options.freepage (u.filled + 1)) (passed _ _ _ e)))
    (page_at-least u.options.freepage (u.filled + 1))

some_is : (a b : Turn) → Some a ≡ Some b → a ≡ b
some_is a b e = cc (e)

turn_is : (b : Bool) (t turn : Turn) → turn_if b t ≡ Some turn → t ≡ turn
turn_is true t turn e = some_is t turn e
turn_is false t turn e = absurd (cc (e))

-- the turn of an entry of LOG is its verdict's
pub log_followed :
    (turn : Turn) (all : ℕ) (answer : Answer) (u : Utility) (d : DrainState)
    (iteration took left : ℕ) (verdict : Verdict) (slow : Bool) (taken : ℕ)
    (result : Option Stage)
    → slow ≡ is_slow left u.size → taken ≡ took
    → Followed
    (verdict_turn all answer.now slow (record u { done = u.done + taken }) d verdict) result
    → log_turn all answer u d (events.Log iteration took left verdict) ≡ Some turn
    → Followed turn result
log_followed turn all answer u d iteration took left verdict slow taken result s t f e =
    subst (λ x. Followed x result) (turn_is _ _ _ e) (rw t at (rw s at f))

stops : (turn : Turn) → Some Stops ≡ Some turn → Followed turn None
stops turn e = subst (λ t. Followed t None) (some_is Stops turn e) tt

stopped_early : (event : Event) (turn : Turn) → early_stop event ≡ Some turn → Followed turn None
stopped_early (events.Stop reasons.Device) turn e = stops turn e
stopped_early (events.Stop reasons.NoMemory) turn e = stops turn e
stopped_early event turn e = absurd (cc (e))

-- an entry that leaves the drain as it is, or grants it, or gives it up, is not the end; any other
-- is
pub wait_over :
    (turn : Turn) (all : ℕ) (answer : Answer) (u : Utility) (d : DrainState) (asked : DrainFor)
    (verdict : DrainVerdict) (event : Event)
    → ((named : Session) → event ≡ events.Wait named → ⊥)
    → ((named : DrainFor) → event ≡ events.Granted named → ⊥)
    → ((count : ℕ) → event ≡ events.GiveUp count → ⊥)
    → wait_turn all answer u d asked verdict event ≡ Some turn → Followed turn None
wait_over turn all answer u d asked (waits.Wait session) (events.Wait named) w g c e =
    absurd (w named refl)
wait_over turn all answer u d asked waits.Granted (events.Granted named) w g c e =
    absurd (g named refl)
wait_over turn all answer u d asked waits.GiveUp (events.GiveUp count) w g c e =
    absurd (c count refl)
wait_over turn all answer u d asked (waits.Stop reason) (events.Stop named) w g c e =
    by_test (same_reason named reason) e
  where
    by_test :
        (b : Bool) → (if b then Some Stops else early_stop (events.Stop named)) ≡ Some turn
        → Followed turn None
    by_test true e = stops turn e
    by_test false e = stopped_early (events.Stop named) turn e
wait_over turn all answer u d asked verdict event w g c e = stopped_early event turn e

-- a try that is given up is one that RETRY allows
retried :
    (o : Options) (failed : ℕ) → retry_verdict o failed ≡ waits.GiveUp → failed + 1 ≤ o.retry
retried o failed e = by_test (nat_lt o.retry (failed + 1)) refl e
  where
    by_test :
        (b : Bool) → nat_lt o.retry (failed + 1) ≡ b
        → (if b then waits.Stop reasons.Drain else waits.GiveUp) ≡ waits.GiveUp
        → failed + 1 ≤ o.retry
    by_test true t e = absurd (cc (e))
    by_test false t e = ltb-false o.retry (failed + 1) t

waited :
    (o : Options) (asked failed : ℕ) (blocker : Option Session) (now : ℕ)
    → wait_verdict o asked failed blocker now ≡ waits.GiveUp → failed + 1 ≤ o.retry
waited o asked failed None now e = absurd (cc (e))
waited o asked failed (Some session) now e = by_test (nat_le (asked + o.wait) now) e
  where
    by_test :
        (b : Bool) → (if b then retry_verdict o failed else waits.Wait session) ≡ waits.GiveUp
        → failed + 1 ≤ o.retry
    by_test true e = retried o failed e
    by_test false e = absurd (cc (e))

pub given_up :
    (o : Options) (asked failed : ℕ) (blocker : Option Session) (now estimate : ℕ)
    → drain_verdict o asked failed blocker now estimate ≡ waits.GiveUp → failed + 1 ≤ o.retry
given_up o asked failed blocker now estimate e = by_test (is_late o.deadline now estimate) e
  where
    by_test :
        (b : Bool)
        → (if b then waits.Stop reasons.Deadline else wait_verdict o asked failed blocker now)
        ≡ waits.GiveUp
        → failed + 1 ≤ o.retry
    by_test true e = absurd (cc (e))
    by_test false e = waited o asked failed blocker now e

counted :
    (all : ℕ) (answer : Answer) (u : Utility) (d : DrainState) (asked : DrainFor)
    (verdict : DrainVerdict) (count : ℕ)
    → is_some (wait_turn all answer u d asked verdict (events.GiveUp count)) ≡ true
    → verdict ≡ waits.GiveUp
counted all answer u d asked waits.GiveUp count e = refl
counted all answer u d asked (waits.Wait session) count e = absurd (cc (e))
counted all answer u d asked waits.Granted count e = absurd (cc (e))
counted all answer u d asked (waits.Stop reason) count e = absurd (cc (e))

-- an entry of GIVEUP comes where RETRY allows one more
pub give_up_allowed :
    (all : ℕ) (answer : Answer) (u : Utility) (d : DrainState) (asked : DrainFor)
    (blocker : Option Session) (count : ℕ)
    → is_some
    (wait_turn all answer u d asked
    (drain_verdict u.options u.asked u.failed blocker answer.now answer.estimate)
    (events.GiveUp count)) ≡ true
    → u.failed + 1 ≤ u.options.retry
give_up_allowed all answer u d asked blocker count e =
    given_up u.options u.asked u.failed blocker answer.now answer.estimate
    (counted all answer u d asked _ count e)
