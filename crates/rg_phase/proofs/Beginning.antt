-- A step, put together from how it begins and what is made then.
use Rattle.std.proofs.Common.{◌≡◌, ◌⊎◌, inl, inr, ℕ, Bool, true, false, List, [], Option, Some}
use Rattle.std.proofs.Common.{None}
use Rattle.std.proofs.Common.{refl, sym, ◌∙◌, ap, subst, append-nil}
use Rattle.rg_base.specs.declared.control.Answer.{Answer}
use Rattle.rg_base.specs.Copies.{other_of}
use Rattle.rg_base.specs.declared.session.Session.{Session}
use Rattle.rg_image.specs.Rules.{copy_capacity}
use Rattle.rg_laws_utility.specs.TraceStage.Tending.{FollowsBy}
use Rattle.rg_desk.specs.Desk.{AsksStep, DeskState, FeedIs, MadeStep, RefusesStep}
use Rattle.rg_desk.specs.declared.task.Task.{Task}
use Rattle.rg_engine.specs.Prepared.{PreparedSeen, while_running}
use Rattle.rg_feed.specs.Ends.{Grew, Received, SameReceived}
use Rattle.rg_feed.specs.declared.fold.item.Stage.{Stage}
use Rattle.rg_laws_utility.specs.Course.Loading.{Loading, loading_after}
use Rattle.rg_outside.specs.Volume.{VolumeSeen}
use Rattle.rg_stmt.specs.declared.event.Event.{Event}
use Rattle.rg_stmt.specs.declared.event.Event.TheVariants as events
use Rattle.rg_phase.specs.Made.{Hears, IsAsMade, Works}
use Rattle.rg_phase.specs.Step.{Acts, HasPagesFor, IsSwitchFrom, NextMade, StepCalls, Stepped}
use Rattle.rg_phase.specs.Step.{TellsCopy, copy_left, is_device_stop}
use Rattle.rg_phase.specs.declared.made.Made.{Made}
use Rattle.rg_phase.proofs.Making.{loads_asked, loads_refused, makes_refused}
use Rattle.rg_phase.proofs.Receiving.{works_heard, works_moved, works_same, works_while}
use Rattle.rg_phase.proofs.Steps.{next_down, next_idle, same_room}

-- a step that was refused leaves the stage as it was
stayed : (down : Bool) (o : Option Stage) (changes : ℕ) (covered : Option Session) (event : Event)
    (new : Option Stage) → FollowsBy down o changes covered None event new → new ≡ o
stayed true o changes covered event new follows = follows
stayed false None changes covered event new follows = follows
stayed false (Some s) changes covered event new follows = follows

module _ {V O : Type 0} (look : V → VolumeSeen) (answers : O → Option (List Answer))
    (last : O → Option ℕ) (old : DeskState V O) (made_of : Made) where
  -- no utility runs, or the desk is down
  pub stepped_refused : (new : DeskState V O) (taken : ℕ) → old.kept ≡ None
      → (old.down ≡ false → FeedIs old) → RefusesStep look old new
      → Stepped look answers last old made_of taken new
  stepped_refused new taken kept feed refuses = elim refuses.is [
    | inl is ↦ by_event events.StepDown is.1 (next_down old is.0) refl tt refl tt (λ l. refl)
        (λ n w s. tt) tt
    | inr is ↦ by_event events.Idle is.2 (next_idle old is.0 is.1) refl tt refl tt (λ l. refl)
        (λ n w s. tt) tt
  ]
    where
      by_event : (event : Event) → refuses.event ≡ event
          → NextMade old.down old.stage old.changes old.covered None event
          → copy_left refuses.roomy.copy event ≡ refuses.roomy.copy
          → IsSwitchFrom refuses.roomy.copy event → is_device_stop event ≡ false
          → TellsCopy look refuses.roomy new event
          → ((l : Option Loading) → loading_after l event ≡ l)
          → ((capacity weight : ℕ) (s : Stage) → HasPagesFor capacity weight s event)
          → IsAsMade made_of old.stage taken event
          → Stepped look answers last old made_of taken new
      by_event event is next left from quiet copy tells space told =
          let mid = refuses.roomy in
          let made : MadeStep look mid None event [] new =
          subst (λ (e : Event). MadeStep look mid None e [] new) is refuses.made in
          record {
            answer = None;
            event = event;
            told = told;
            next = next;
            asked = mid;
            same = same_room old mid refuses.same kept;
            operator = ap (λ d. d.operator) refuses.same;
            made = makes_refused look mid new event left from quiet copy made;
            loads = loads_refused look old mid new event tells space
                (ap (λ d. d.copy) refuses.same) (ap (λ d. d.stage) refuses.same) made.follows
                made.stays.copy;
            only = made.volume ∙ ap (λ d. d.volume) refuses.same;
            feed = feed;
          }

  -- what was sent is received, and nothing more was made
  pub works_refused : (new : DeskState V O) (inlet later : Received) → Grew inlet later
      → later.items ≡ old.feed → RefusesStep look old new → Works look made_of inlet old
      → Works look made_of later new
  works_refused new inlet later grew all refuses works =
      let mid = refuses.roomy in
      let made = refuses.made in
      let stage : new.stage ≡ old.stage =
      stayed mid.down mid.stage mid.changes mid.covered refuses.event new.stage made.follows
      ∙ ap (λ d. d.stage) refuses.same in
      let asked : DeskState V O = record old { shadow = while_running old.stage old.shadow } in
      works_moved look made_of later asked new stage
      (made.stays.copy ∙ ap (λ d. d.copy) refuses.same)
      (ap (λ (v : V). (look v).capacities) (made.volume ∙ ap (λ d. d.volume) refuses.same))
      (made.shadow ∙ ap (λ (o : Option Stage). while_running o mid.shadow) stage
      ∙ ap (λ (k : Option PreparedSeen). while_running old.stage k)
      (ap (λ d. d.shadow) refuses.same))
      (made.feed ∙ append-nil mid.feed ∙ ap (λ d. d.feed) refuses.same)
      (works_while old.stage (other_of old.copy)
      (copy_capacity (look old.volume).capacities (other_of old.copy)) made_of old.shadow later
      old.feed
      (works_heard old.stage (other_of old.copy)
      (copy_capacity (look old.volume).capacities (other_of old.copy)) made_of old.shadow inlet
      later old.feed grew all works))

  -- where there was no memory, what was sent is received or none of it is
  pub works_begun : (inlet later : Received) → Grew inlet later
      → SameReceived inlet later ⊎ (later.items ≡ old.feed)
      → Works look made_of inlet old → Works look made_of later old
  works_begun inlet later grew (inl same) works =
      works_same old.stage (other_of old.copy)
      (copy_capacity (look old.volume).capacities (other_of old.copy)) made_of old.shadow inlet
      later old.feed same works
  works_begun inlet later grew (inr all) works =
      works_heard old.stage (other_of old.copy)
      (copy_capacity (look old.volume).capacities (other_of old.copy)) made_of old.shadow inlet
      later old.feed grew all works

  module _ (task : Task) (asked : DeskState V O) (asks : AsksStep look answers last old task asked)
      (feed : old.down ≡ false → FeedIs old) where
    -- the operator was asked, and the step's entry made with the answer
    pub stepped_asked : (new : DeskState V O) (taken : ℕ)
        → Acts look asked task.answer made_of taken new
        → Stepped look answers last old made_of taken new
    stepped_asked new taken acts = record {
      answer = Some task.answer;
      event = acts.event;
      told = subst (λ d. IsAsMade made_of d.stage taken acts.event) asks.same acts.told;
      next =
          subst (λ d. NextMade d.down d.stage d.changes d.covered (Some task.answer) acts.event)
          asks.same acts.next;
      asked = asked;
      same = asks.same;
      operator = (asks.answered, asks.handed);
      made = acts.made;
      loads = loads_asked look old asked new task.answer acts.event asks.same acts.loads;
      only = subst (λ d. StepCalls look d (Some task.answer) new) asks.same acts.only;
      feed = feed;
    }

    pub works_asked : (inlet later : Received) → Grew inlet later → later.items ≡ old.feed
        → Works look made_of inlet old → Works look made_of later asked
    works_asked inlet later grew all works =
        subst (λ (d : DeskState V O). Works look made_of later d) (sym asks.same)
        (works_heard old.stage (other_of old.copy)
        (copy_capacity (look old.volume).capacities (other_of old.copy)) made_of old.shadow inlet
        later old.feed grew all works)

    pub hears_asked : (later : Received) → later.items ≡ old.feed → Hears asked later
    hears_asked later all =
        let is = feed (sym (ap (λ d. d.down) asks.same) ∙ asks.begun.up) in
        subst (λ (d : DeskState V O). Hears d later) (sym asks.same) (record {
          items = all;
          feed = record {
            counted = is.counted;
            copies = is.copies;
            keeps = is.keeps;
            reaches = is.reaches;
          };
        })
