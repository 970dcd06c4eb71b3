-- The room of the other copy, and how far it is filled, over a step.
use Rattle.std.proofs.Common.{◌≡◌, ◌≤◌, ◌<◌, ◌*◌, ◌+◌, ◌-◌, ◌==◌, ◌&&◌, nat_le, ℕ, Bool, true}
use Rattle.std.proofs.Common.{false, not, Option, Some, None}
use Rattle.std.proofs.Common.{IfSome, nat_lt, if◌then◌else◌, refl, sym, ◌∙◌, ap, subst, arith, inl}
use Rattle.std.proofs.Common.{inr}
use Rattle.std.proofs.lemmas.Bool.Decides.{nat_tests}
use Rattle.std.specs.Option.{is_some}
use Rattle.std.specs.Prelude.{IfErr, Ok, Err}
use Rattle.std.specs.declared.result.Result.{Result}
use Rattle.rg_base.specs.declared.control.Answer.{Answer}
use Rattle.rg_base.specs.declared.control.Command.{Command}
use Rattle.rg_base.specs.declared.control.Command.TheVariants as commands
use Rattle.rg_base.specs.declared.options.DrainFor.{DrainFor}
use Rattle.rg_base.specs.declared.options.DrainState.{DrainState}
use Rattle.rg_base.specs.declared.options.DrainState.TheVariants as drains
use Rattle.rg_base.specs.declared.session.Session.{Session}
use Rattle.rg_base.specs.declared.step.Step.{Step}
use Rattle.rg_base.specs.declared.step.Step.TheVariants as steps
use Rattle.rg_base.specs.declared.verdict.StopReason.TheVariants as reasons
use Rattle.rg_laws_utility.specs.Course.Loading.{IsLoaded, IsLoadedAfter, Loading, ShowsFilled}
use Rattle.rg_laws_utility.specs.Course.Loading.{loading_after, loading_of}
use Rattle.rg_laws_utility.proofs.CourseLemmas.Loaded.{loaded_goes_on}
use Rattle.rg_laws_utility.proofs.CourseLemmas.Loads.{loading_goes_on}
use Rattle.rg_feed.specs.declared.fold.item.Stage.{Stage}
use Rattle.rg_model.specs.State.{Utility}
use Rattle.rg_model.specs.Turn.{Turn, Runs, Switches, Stops, Falls, alter, end_turn, is_term}
use Rattle.rg_model.specs.Turn.{step_by_drain, step_of, term_turn, turn_at, turn_if, turn_of}
use Rattle.rg_base.proofs.Small.{nat_itself}
use Rattle.rg_base.specs.declared.options.Options.{Options}
use Rattle.rg_model.specs.Packed.{page_at}
use Rattle.rg_reload.specs.declared.fault.ReloadFault.{ReloadFault}
use Rattle.rg_reload.specs.declared.fault.ReloadFault.TheVariants as reloads
use Rattle.rg_reload.specs.declared.packer.Filled.{Filled}
use Rattle.rg_phase.proofs.Due.{altered as now_altered}
use Rattle.rg_shadow.specs.declared.fault.ShadowFault.{ShadowFault}
use Rattle.rg_rules.specs.Stage.Followed.{Followed}
use Rattle.rg_rules.specs.Stage.NumbersOf.{numbers_of}
use Rattle.rg_stmt.specs.declared.event.Event.{Event}
use Rattle.rg_stmt.specs.declared.event.Event.TheVariants as events
use Rattle.rg_laws_utility.specs.TraceStage.Tending.{FollowsBy, is_plain}
use Rattle.rg_phase.specs.Drafted.{IsFullOf}
use Rattle.rg_phase.specs.Step.{HasPagesFor, NextMade}
use Rattle.rg_phase.specs.Working.{IsEventOrStop, IsNextPage, IsPageOf, IsReloadEvent, MakesStep}
use Rattle.rg_phase.specs.Working.{is_filling, reload_of, takes}

-- ---- room

-- no page is filled
pub space_unfilled : (capacity weight : ℕ) (s : Stage) (event : Event) → is_filling event ≡ false
    → HasPagesFor capacity weight s event
space_unfilled capacity weight s (events.Reload page rows) is = absurd (cc (is))
space_unfilled capacity weight s (events.Stop reasons.NoSpace) is = absurd (cc (is))
space_unfilled capacity weight s event is = tt

-- RELOAD comes where rows are left to be reloaded

rows_left : (u : Utility) (d : DrainState) → step_of u d ≡ steps.Reload → u.reloaded < u.unloaded
rows_left u d is = grind (
  arith,
  nat_tests,
  go (nat_lt u.copied u.pages) (nat_lt u.reloaded u.unloaded) (nat_lt u.sorted 3) (nat_lt u.built 3)
      is,
)
  where
    under : (a b : Bool) (granted : DrainFor)
        → (if a then steps.Last else (if b then steps.Write granted else steps.Switch))
        ≡ steps.Reload
        → ⊥
    under true b granted is = absurd (cc (is))
    under false true granted is = absurd (cc (is))
    under false false granted is = absurd (cc (is))

    by_drain : (d : DrainState) → step_by_drain u d ≡ steps.Reload → ⊥
    by_drain drains.Free is = absurd (cc (is))
    by_drain (drains.Asked asked) is = absurd (cc (is))
    by_drain (drains.Granted granted) is = under (not u.last) (not u.written) granted is

    go : (a b c e : Bool)
        → (if a then steps.Unload else (if b then steps.Reload
        else (if c then steps.Sort else (if e then steps.Build else step_by_drain u d))))
        ≡ steps.Reload
        → b ≡ true
    go true b c e is = absurd (cc (is))
    go false true c e is = refl
    go false false true e is = absurd (cc (is))
    go false false false true is = absurd (cc (is))
    go false false false false is = absurd (by_drain d is)

reload_altered : (u : Utility) (command : Command)
    → ((alter u command).reloaded ≡ u.reloaded) × ((alter u command).unloaded ≡ u.unloaded)
reload_altered u (commands.Alter a) = (refl, refl)
reload_altered u command = (refl, refl)

pub reload_left : (s : Stage) (answer : Answer) → MakesStep s answer steps.Reload
    → s.reloaded < s.unloaded
reload_left s answer makes =
    let same = reload_altered (numbers_of s) answer.command in
    omega
    (arith, rows_left (alter (numbers_of s) answer.command) s.drain makes.step_is, same.0, same.1)

-- changes are taken once the lists are sorted
first_steps : (u : Utility) (d : DrainState) → u.sorted ≡ 0 → (step : Step) → step_of u d ≡ step
    → (P : Step → Type 0) → P steps.Unload → P steps.Reload → P steps.Sort → P step
first_steps u d none step is P unload reload sort = subst P is
    (go (nat_lt u.copied u.pages) (nat_lt u.reloaded u.unloaded) (nat_lt u.sorted 3)
    (nat_lt u.built 3) below)
  where
    below : nat_lt u.sorted 3 ≡ true
    below = grind (arith, nat_tests, none)

    go : (a b c d2 : Bool) → c ≡ true
        → P
        (if a then steps.Unload else (if b then steps.Reload
        else (if c then steps.Sort else (if d2 then steps.Build else step_by_drain u d))))
    go true b c e below = unload
    go false true c e below = reload
    go false false true e below = sort
    go false false false e below = absurd (cc (below))

module _ (all : ℕ) (blocker : Option Session) (answer : Answer) where
  -- such an event is the next one of no earlier step
  abbrev TakesNever : Utility → DrainState → Event → Step → Type 0
  TakesNever u d event step = is_plain (turn_at step all blocker answer u d event) ≡ true → ⊥

  never_first : (u : Utility) (d : DrainState) (event : Event) → takes event ≡ true → u.sorted ≡ 0
      → TakesNever u d event (step_of u d)
  never_first u d (events.Log iteration took left verdict) is none =
      first_steps u d none (step_of u d) refl
      (TakesNever u d (events.Log iteration took left verdict)) (λ plain. absurd (cc (plain)))
      (λ plain. absurd (cc (plain))) (λ plain. absurd (cc (plain)))
  never_first u d (events.Last took left) is none =
      first_steps u d none (step_of u d) refl (TakesNever u d (events.Last took left))
      (λ plain. absurd (cc (plain))) (λ plain. absurd (cc (plain))) (λ plain. absurd (cc (plain)))
  never_first u d event is none = absurd (cc (is))

  altered : (u : Utility) (command : Command) → (alter u command).sorted ≡ u.sorted
  altered u (commands.Alter a) = refl
  altered u command = refl

  some_sorted : (s : Stage) (event : Event) → takes event ≡ true → s.switched ≡ false
      → is_plain (turn_of all blocker answer (numbers_of s) s.drain event) ≡ true → s.sorted ≡ 0 → ⊥
  some_sorted s event is unswitched plain none =
      by_term (is_term answer.command) event is (ap is_plain (sym opened) ∙ plain)
    where
      u : Utility
      u = alter (numbers_of s) answer.command

      opened : turn_of all blocker answer (numbers_of s) s.drain event
          ≡ (if is_term answer.command then term_turn event
          else turn_at (step_of u s.drain) all blocker answer u s.drain event)
      opened = ap
          (λ (b : Bool). if b then end_turn event else (if is_term answer.command
          then term_turn event else turn_at (step_of u s.drain) all blocker answer u s.drain event))
          unswitched

      by_term : (b : Bool) (event : Event) → takes event ≡ true
          → is_plain
          (if b then term_turn event
          else turn_at (step_of u s.drain) all blocker answer u s.drain event) ≡ true
          → ⊥
      by_term true (events.Log iteration took left verdict) is plain = absurd (cc (plain))
      by_term true (events.Last took left) is plain = absurd (cc (plain))
      by_term true event is plain = absurd (cc (is))
      by_term false event is plain =
          never_first u s.drain event is (altered (numbers_of s) answer.command ∙ none) plain

  -- the event that is no RELOAD, or the stop that stands in its place
  pub space_or_stop : (capacity weight : ℕ) (s : Stage) (event : Event)
      (made : Result Unit ShadowFault) (result : Event)
      → is_filling event ≡ false → s.switched ≡ false
      → is_plain (turn_of all blocker answer (numbers_of s) s.drain event) ≡ true
      → IfErr made (IsFullOf capacity weight) → IsEventOrStop event made result
      → HasPagesFor capacity weight s result
  space_or_stop capacity weight s event made result unfilled unswitched plain full (inl is) =
      subst (HasPagesFor capacity weight s) (sym is.0)
      (space_unfilled capacity weight s event unfilled)
  space_or_stop capacity weight s event made result unfilled unswitched plain full (inr (inl is)) =
      subst (HasPagesFor capacity weight s) (sym is.0) tt
  space_or_stop capacity weight s event made result unfilled unswitched plain full (inr (inr is)) =
      let bound : 3221 * capacity ≤ weight =
      subst (λ (m : Result Unit ShadowFault). IfErr m (IsFullOf capacity weight)) is.2 full in
      subst (HasPagesFor capacity weight s) (sym is.0) (
        unswitched,
        (λ none. absurd (some_sorted s event is.1 unswitched plain none)),
        λ loaded. bound,
      )

-- of the stage of a desk
pub space_at : (o : Option Stage) (s : Stage) (capacity weight : ℕ) (event : Event) → o ≡ Some s
    → HasPagesFor capacity weight s event → IfSome o (λ s. HasPagesFor capacity weight s event)
space_at o s capacity weight event is space =
    subst (λ (o : Option Stage). IfSome o (λ s. HasPagesFor capacity weight s event)) (sym is) space

pub space_any : (o : Option Stage) (capacity weight : ℕ) (event : Event)
    → ((s : Stage) → HasPagesFor capacity weight s event)
    → IfSome o (λ s. HasPagesFor capacity weight s event)
space_any None capacity weight event space = tt
space_any (Some s) capacity weight event space = space s

-- ---- how far it is filled

some_is : (a b : Turn) → Some a ≡ Some b → b ≡ a
some_is a b e = cc (e)

some_turn : (o : Option Turn) → is_some o ≡ true → (turn : Turn) × (o ≡ Some turn)
some_turn None some = absurd (cc (some))
some_turn (Some turn) some = (turn, refl)

-- a utility that has switched does not go on
never_on : (event : Event) (turn : Turn) (t : Stage) → end_turn event ≡ Some turn
    → Followed turn (Some t) → ⊥
never_on events.Ended turn t is followed =
    subst (λ (x : Turn). Followed x (Some t)) (some_is Stops turn is) followed
never_on (events.Stop reasons.Device) turn t is followed =
    subst (λ (x : Turn). Followed x (Some t)) (some_is Stops turn is) followed
never_on (events.Stop reasons.NoMemory) turn t is followed =
    subst (λ (x : Turn). Followed x (Some t)) (some_is Stops turn is) followed
never_on event turn t is followed = absurd (cc (is))

unswitched_before : (b : Bool) (on : Option Turn) (event : Event) (turn : Turn) (t : Stage)
    → (if b then end_turn event else on) ≡ Some turn → Followed turn (Some t) → b ≡ false
unswitched_before true on event turn t is followed = absurd (never_on event turn t is followed)
unswitched_before false on event turn t is followed = refl

module _ (copy later : ℕ) (same : later ≡ copy) (event : Event) (s t : Stage) where
  by_turn : (turn : Turn) → ShowsFilled copy (numbers_of s) event turn → Followed turn (Some t)
      → loading_of later (numbers_of t) ≡ loading_after (loading_of copy (numbers_of s)) event
  by_turn (Runs numbers drain) shows followed =
      ap (λ (n : ℕ). loading_of n (numbers_of t)) same ∙ ap (loading_of copy) followed.0 ∙ shows
  by_turn (Switches other sides numbers) shows followed =
      ap (loading_of later) followed.0 ∙ shows later
  by_turn Stops shows followed = absurd followed
  by_turn Falls shows followed = absurd followed

  loaded_by : (turn : Turn) → IsLoadedAfter turn → Followed turn (Some t) → IsLoaded (numbers_of t)
  loaded_by (Runs numbers drain) loaded followed = subst IsLoaded (sym followed.0) loaded
  loaded_by (Switches other sides numbers) loaded followed = subst IsLoaded (sym followed.0) loaded
  loaded_by Stops loaded followed = absurd followed
  loaded_by Falls loaded followed = absurd followed

-- where the utility goes on, and has not switched, its numbers show what the event tells
abbrev pub IsShown : Option Stage → Option Stage → (copy later : ℕ) → Event → Type 0
IsShown stage next copy later event =
    IfSome stage
    (λ s. IfSome next
    (λ t. t.switched ≡ false
    → (s.switched ≡ false)
    × (loading_of later (numbers_of t) ≡ loading_after (loading_of copy (numbers_of s)) event)
    × (IsLoaded (numbers_of s) → IsLoaded (numbers_of t))))

pub shows_step : (down : Bool) (stage next : Option Stage) (changes : ℕ) (covered : Option Session)
    (answer : Answer) (event : Event) (copy later : ℕ)
    → later ≡ copy → NextMade down stage changes covered (Some answer) event
    → FollowsBy down stage changes covered (Some answer) event next
    → IsShown stage next copy later event
shows_step true stage next changes covered answer event copy later same made follows = absurd made
shows_step false None next changes covered answer event copy later same made follows = tt
shows_step false (Some s) None changes covered answer event copy later same made follows = tt
shows_step false (Some s) (Some t) changes covered answer event copy later same made follows =
    let has = some_turn (turn_of changes covered answer (numbers_of s) s.drain event) made.1 in
    let followed = follows has.0 has.1 in
    λ unswitched. (
      unswitched_before s.switched _ event has.0 t has.1 followed,
      by_turn copy later same event s t has.0
          (loading_goes_on copy changes covered answer (numbers_of s) s.drain event has.0 has.1)
          followed,
      λ loaded. loaded_by copy later same event s t has.0
          (loaded_goes_on changes covered answer (numbers_of s) s.drain event has.0 loaded has.1)
          followed,
    )

-- the stage is as it was, and the event tells nothing
pub shows_same : (stage next : Option Stage) (event : Event) (copy later : ℕ) → later ≡ copy
    → next ≡ stage → ((l : Option Loading) → loading_after l event ≡ l)
    → IsShown stage next copy later event
shows_same stage next event copy later same is tells =
    subst (λ (o : Option Stage). IsShown stage o copy later event) (sym is) (of_stage stage)
  where
    of_stage : (o : Option Stage) → IsShown o o copy later event
    of_stage None = tt
    of_stage (Some s) = λ unswitched. (
      unswitched,
      ap (λ (n : ℕ). loading_of n (numbers_of s)) same
          ∙ sym (tells (loading_of copy (numbers_of s))),
      λ loaded. loaded,
    )

-- after the switch nothing is asked, nor where no utility runs
pub shows_switched : (stage next : Option Stage) (t : Stage) (event : Event) (copy later : ℕ)
    → next ≡ Some t → t.switched ≡ true → IsShown stage next copy later event
shows_switched stage next t event copy later is switched =
    subst (λ (o : Option Stage). IsShown stage o copy later event) (sym is) (of_stage stage)
  where
    of_stage : (o : Option Stage) → IsShown o (Some t) copy later event
    of_stage None = tt
    of_stage (Some s) = λ unswitched. absurd (cc (switched, unswitched))

pub shows_none : (stage next : Option Stage) (event : Event) (copy later : ℕ) → next ≡ None
    → IsShown stage next copy later event
shows_none stage next event copy later is =
    subst (λ (o : Option Stage). IsShown stage o copy later event) (sym is) (of_stage stage)
  where
    of_stage : (o : Option Stage) → IsShown o None copy later event
    of_stage None = tt
    of_stage (Some s) = tt

-- ---- the page that was filled

plain_if : (b : Bool) (u : Utility) (d : DrainState) → b ≡ true
    → is_plain (turn_if b (Runs u d)) ≡ true
plain_if true u d is = refl
plain_if false u d is = absurd (cc is)

all_three : (a b c : Bool) → a ≡ true → b ≡ true → c ≡ true → (a && (b && c)) ≡ true
all_three true true true p q r = refl
all_three false b c p q r = absurd (cc p)
all_three true false c p q r = absurd (cc q)
all_three true true false p q r = absurd (cc r)

-- it may be the next event of RELOAD
pub reload_may : (s : Stage) (capacity : ℕ) (made : Result Filled ReloadFault)
    → IsNextPage s capacity made → IsReloadEvent s (reload_of made)
reload_may s capacity (Ok filled) is = record {
  booked = refl;
  device = refl;
  next = λ all covered answer.
      let now = now_altered (numbers_of s) answer.command in
      subst
      (λ (v : Utility). is_plain
      (turn_at steps.Reload all covered answer v s.drain
      (events.Reload filled.page filled.rows)) ≡ true)
      (sym now.same)
      (plain_if
      (filled.page == page_at now.options.freepage (s.filled + 1)
      && (nat_le 1 filled.rows && nat_le filled.rows (s.unloaded - s.reloaded))) _ s.drain
      (all_three (filled.page == page_at now.options.freepage (s.filled + 1))
      (nat_le 1 filled.rows) (nat_le filled.rows (s.unloaded - s.reloaded))
      (subst
      (λ (n : ℕ). (n == page_at now.options.freepage (s.filled + 1)) ≡ true)
      (sym (is.0 ∙ ap (λ (f : ℕ). page_at f (s.filled + 1)) now.alike.freepage))
      (nat_itself (page_at now.options.freepage (s.filled + 1))))
      (grind (arith, nat_tests, is.1)) (grind (arith, nat_tests, is.2))));
}
reload_may s capacity (Err (reloads.NoSpace pages)) is =
    record { booked = refl; device = refl; next = λ all covered answer. refl }
reload_may s capacity (Err reloads.NoMemory) is =
    record { booked = refl; device = refl; next = λ all covered answer. refl }

-- the other copy has room for it, or has not where it stops so
pub reload_room : (s : Stage) (capacity weight : ℕ) (made : Result Filled ReloadFault)
    → s.switched ≡ false → s.reloaded < s.unloaded → IsNextPage s capacity made
    → HasPagesFor capacity weight s (reload_of made)
reload_room s capacity weight (Ok filled) unswitched left is = (unswitched, is.3)
reload_room s capacity weight (Err (reloads.NoSpace pages)) unswitched left is =
    (unswitched, λ none. is, λ all. absurd (omega (arith, left, all)))
reload_room s capacity weight (Err reloads.NoMemory) unswitched left is = tt

-- it tells what was filled
pub reload_tells : (made : Result Filled ReloadFault) → IsPageOf made (reload_of made)
reload_tells (Ok filled) = (refl, refl)
reload_tells (Err (reloads.NoSpace pages)) = tt
reload_tells (Err reloads.NoMemory) = tt
