-- What is made when a step begins, and what is made once its entry is.
use Rattle.std.proofs.Common.{◌≡◌, ◌≤◌, ◌<◌, ◌+◌, ◌++◌, ◌∷◌, inl, inr, ℕ, List, [], Bool, true}
use Rattle.std.proofs.Common.{false, Option, Some}
use Rattle.std.proofs.Common.{None, refl, sym, ◌∙◌, ap, subst, append-nil, arith}
use Rattle.rg_base.specs.Copies.{other_of}
use Rattle.rg_base.specs.declared.control.Answer.{Answer}
use Rattle.rg_base.specs.declared.options.DrainState.{DrainState}
use Rattle.rg_base.specs.declared.session.Session.{Session}
use Rattle.rg_desk.specs.Desk.{DeskState, IsNextStep, IsTask, MadeCopy, MadeFall, MadeStep}
use Rattle.rg_desk.specs.Desk.{MadeSwitch}
use Rattle.rg_desk.specs.declared.task.Task.{Task}
use Rattle.rg_engine.specs.Prepared.{PreparedSeen, while_running}
use Rattle.rg_feed.specs.Ends.{Received}
use Rattle.rg_feed.specs.declared.fold.item.Item.{Item}
use Rattle.rg_feed.specs.declared.fold.item.Stage.{Stage}
use Rattle.rg_image.specs.Rules.{copy_capacity}
use Rattle.rg_laws_utility.specs.TraceStage.Tending.{FollowsBy, NextBy, is_plain}
use Rattle.rg_laws_utility.proofs.TraceStageLemmas.Switching.{plain_turn}
use Rattle.rg_model.specs.State.{Utility}
use Rattle.rg_model.specs.Turn.{Turn, Runs, Switches, Stops, Falls, turn_of}
use Rattle.rg_outside.specs.Volume.{VolumeSeen}
use Rattle.rg_rules.specs.Stage.Followed.{Followed}
use Rattle.rg_rules.specs.Stage.NumbersOf.{numbers_of}
use Rattle.rg_stmt.specs.declared.event.Event.{Event}
use Rattle.rg_stmt.specs.declared.event.Event.TheVariants as events
use Rattle.rg_stmt.specs.declared.layout.Sides.{Sides}
use Rattle.rg_base.specs.declared.place.Place.{Place}
use Rattle.rg_base.specs.declared.position.Position.{Position}
use Rattle.rg_base.specs.declared.row.Row.{Row}
use Rattle.rg_base.specs.declared.step.Step.TheVariants as steps
use Rattle.rg_feed.specs.declared.fold.item.Item.TheVariants.{PageCopy}
use Rattle.rg_phase.proofs.Making.{writes_none}
use Rattle.rg_phase.proofs.Stops.{turn_is, unload_more, unload_next}
use Rattle.rg_phase.proofs.Turned.{if_some}
use Rattle.rg_phase.specs.Made.{EventMakes, HasMade, Hears, IsBehind, IsMadeAt, IsUnfilled}
use Rattle.rg_phase.specs.Made.{MakesCopy, StepMakes, TaskMakes}
use Rattle.rg_phase.specs.Drafted.{IsReady}
use Rattle.rg_phase.specs.Made.{Drafts, TurnMakes, Works, numbers_in}
use Rattle.rg_phase.specs.Working.{IsIndexed, MakesStep, Writes}
use Rattle.rg_shadow.specs.Shade.{Shade}
use Rattle.rg_base.specs.declared.options.Options.{Options}
use Rattle.rg_phase.proofs.Due.{altered}
use Rattle.rg_phase.proofs.Indexing.{all_built}
use Rattle.rg_phase.specs.declared.made.Made.{Made}
use Rattle.rg_phase.specs.declared.made.Made.TheVariants.{Nothing, Packing, Drafted, Written}
use Rattle.rg_phase.proofs.Moving.{SameMaking, same_altered, step_moved}
use Rattle.rg_phase.proofs.Receiving.{added_all, all_taken_by, behind_all, has_all}

-- ---- before the step

stage_makes : (s : Stage) (copy capacity : ℕ) (made : Made) (kept : Option PreparedSeen)
    (inlet : Received) (feed : List Item) → inlet.items ≡ feed
    → MakesCopy s copy capacity made kept inlet feed
    → StepMakes (numbers_of s) s.drain copy capacity made kept inlet
stage_makes s copy capacity made kept inlet feed is makes = record {
  unswitched = makes.unswitched;
  copied = makes.copied;
  made_is = makes.made_is;
  taken = all_taken_by inlet feed s.done is makes.heard;
}

at_makes : (o : Option Stage) (s : Stage) (copy capacity : ℕ) (made : Made)
    (kept : Option PreparedSeen) (inlet : Received) (feed : List Item) → o ≡ Some s
    → s.switched ≡ false → IsMadeAt o copy capacity made kept inlet feed
    → MakesCopy s copy capacity made kept inlet feed
at_makes o s copy capacity made kept inlet feed is unswitched works =
    elim (subst (λ (x : Option Stage). IsMadeAt x copy capacity made kept inlet feed) is works) [
      | inl makes ↦ makes
      | inr over ↦ absurd (cc (over.switched, unswitched))
    ]

pub task_makes : {V O : Type 0} (look : V → VolumeSeen) (desk : DeskState V O) (task : Task)
    (made : Made) (inlet : Received) → IsTask look desk task → Hears desk inlet
    → task.stage.switched ≡ false → Works look made inlet desk
    → TaskMakes task made desk.shadow inlet
task_makes look desk task made inlet begun hears unswitched works =
    let s = task.stage in
    let is = at_makes desk.stage s (other_of desk.copy)
    (copy_capacity (look desk.volume).capacities (other_of desk.copy)) made desk.shadow inlet
    desk.feed begun.stage unswitched works in
    let at = stage_makes s (other_of desk.copy)
    (copy_capacity (look desk.volume).capacities (other_of desk.copy)) made desk.shadow inlet
    desk.feed hears.items is in
    step_moved (numbers_of s) s.drain _ s.drain
    (same_altered (numbers_of s) s.drain task.answer.command) task.copy task.capacity made
    desk.shadow inlet
    (subst
    (λ (n : ℕ). StepMakes (numbers_of s) s.drain n task.capacity made desk.shadow inlet)
    (sym begun.copy)
    (subst
    (λ (n : ℕ). StepMakes (numbers_of s) s.drain (other_of desk.copy) n made desk.shadow inlet)
    (sym begun.capacity) at))

-- ---- after it

turn_works : (turn : Turn) (next : Option Stage) (copy capacity : ℕ) (made : Made)
    (kept : Option PreparedSeen) (inlet : Received) (feed : List Item)
    → is_plain (Some turn) ≡ true → inlet.items ≡ feed
    → TurnMakes turn copy capacity made kept inlet → Followed turn next
    → IsMadeAt next copy capacity made (while_running next kept) inlet feed
turn_works (Runs u d) None copy capacity made kept inlet feed plain is makes followed =
    absurd followed
turn_works (Runs u d) (Some t) copy capacity made kept inlet feed plain is makes followed =
    let at = subst (λ (v : Utility). StepMakes v t.drain copy capacity made kept inlet)
    (sym followed.0)
    (subst (λ (e : DrainState). StepMakes u e copy capacity made kept inlet) (sym followed.1)
    makes) in
    inl
    (record {
      unswitched = at.unswitched;
      copied = at.copied;
      made_is = at.made_is;
      added = added_all made inlet.items feed is;
      heard = has_all inlet feed t.done is at.taken;
    })
turn_works (Switches to sides u) next copy capacity made kept inlet feed plain is makes followed =
    absurd (cc (plain))
turn_works Stops None copy capacity made kept inlet feed plain is makes followed =
    (refl, behind_all inlet.items feed is)
turn_works Stops (Some t) copy capacity made kept inlet feed plain is makes followed =
    absurd followed
turn_works Falls next copy capacity made kept inlet feed plain is makes followed =
    absurd (cc (plain))

module _ {V O : Type 0} (look : V → VolumeSeen) (old mid new : DeskState V O) (task : Task) where
  -- the stage follows the event
  pub follows_task : (event : Event) (items : List Item) → IsTask look old task
      → Writes look old mid → MadeStep look mid (Some task.answer) event items new
      → FollowsBy false (Some task.stage) task.changes task.holder (Some task.answer) event
      new.stage
  follows_task event items begun wrote made =
      let at = subst
      (λ (d : DeskState V O). FollowsBy d.down d.stage d.changes d.covered (Some task.answer) event
      new.stage) wrote.same made.follows in
      subst
      (λ (h : Option Session). FollowsBy false (Some task.stage) task.changes h
      (Some task.answer) event new.stage) (sym begun.holder)
      (subst
      (λ (n : ℕ). FollowsBy false (Some task.stage) n old.covered (Some task.answer) event
      new.stage) (sym begun.changes)
      (subst
      (λ (o : Option Stage). FollowsBy false o old.changes old.covered (Some task.answer) event
      new.stage) begun.stage
      (subst
      (λ (b : Bool). FollowsBy b old.stage old.changes old.covered (Some task.answer) event
      new.stage) begun.up at)))

  plain_in : (event : Event) → IsTask look old task → IsNextStep old (Some task.answer) event
      → is_plain
      (turn_of task.changes task.holder task.answer (numbers_of task.stage) task.stage.drain event)
      ≡ true
  plain_in event begun next =
      let at = subst
      (λ (o : Option Stage). NextBy false o old.changes old.covered (Some task.answer) event)
      begun.stage
      (subst
      (λ (b : Bool). NextBy b old.stage old.changes old.covered (Some task.answer) event)
      begun.up next) in
      (subst
      (λ (h : Option Session). NextBy false (Some task.stage) task.changes h (Some task.answer)
      event) (sym begun.holder)
      (subst
      (λ (n : ℕ). NextBy false (Some task.stage) n old.covered (Some task.answer) event)
      (sym begun.changes) at)).1

  pub works_booked : (event : Event) (made : Made) (inlet : Received) → IsTask look old task
      → inlet.items ≡ old.feed → Writes look old mid
      → MadeStep look mid (Some task.answer) event [] new
      → IsNextStep old (Some task.answer) event
      → EventMakes task event made mid.shadow inlet → Works look made inlet new
  works_booked event made inlet begun is wrote step next makes =
      let plain = plain_in event begun next in
      let has = plain_turn _ plain in
      let followed = follows_task event [] begun wrote step has.0 has.1 in
      let feed : new.feed ≡ old.feed =
      step.feed ∙ append-nil mid.feed ∙ ap (λ (d : DeskState V O). d.feed) wrote.same in
      let copy : other_of new.copy ≡ task.copy =
      ap other_of (step.stays.copy ∙ ap (λ (d : DeskState V O). d.copy) wrote.same)
      ∙ sym begun.copy in
      let capacity : copy_capacity (look new.volume).capacities (other_of new.copy)
      ≡ task.capacity =
      ap (λ (n : ℕ). copy_capacity (look new.volume).capacities n) (copy ∙ begun.copy)
      ∙ ap (λ (v : V). copy_capacity (look v).capacities (other_of old.copy)) step.volume
      ∙ ap (λ x. copy_capacity x (other_of old.copy)) wrote.calls.capacities
      ∙ sym begun.capacity in
      let at = turn_works has.0 new.stage task.copy task.capacity made mid.shadow inlet old.feed
      (subst (λ (o : Option Turn). is_plain o ≡ true) has.1 plain) is (makes has.0 has.1)
      followed in
      subst
      (λ (n : ℕ). IsMadeAt new.stage n
      (copy_capacity (look new.volume).capacities (other_of new.copy)) made new.shadow inlet
      new.feed) (sym copy)
      (subst
      (λ (n : ℕ). IsMadeAt new.stage task.copy n made new.shadow inlet new.feed) (sym capacity)
      (subst
      (λ (k : Option PreparedSeen). IsMadeAt new.stage task.copy task.capacity made k inlet
      new.feed) (sym step.shadow)
      (subst
      (λ (xs : List Item). IsMadeAt new.stage task.copy task.capacity made
      (while_running new.stage mid.shadow) inlet xs) (sym feed) at)))

-- ---- at the write and the switch

pub unswitched_in : (task : Task) → (numbers_in task).switched ≡ false → task.stage.switched ≡ false
unswitched_in task is =
    sym
    (ap (λ (v : Utility). v.switched)
    (altered (numbers_of task.stage) task.answer.command).same)
    ∙ is

pub copied_all : (task : Task) → (numbers_in task).copied ≤ (numbers_in task).pages
    → (numbers_in task).pages ≤ (numbers_in task).copied → task.stage.copied ≡ task.stage.pages
copied_all task few all =
    let same = (altered (numbers_of task.stage) task.answer.command).same in
    omega (
      arith,
      few,
      all,
      ap (λ (v : Utility). v.copied) same,
      ap (λ (v : Utility). v.pages) same,
    )

-- it is the other copy, of as many pages as that may have, and its indexes are built
pub draft_ready : {V O : Type 0} (look : V → VolumeSeen) (desk : DeskState V O) (task : Task)
    (s : Shade) (options : Options) → IsTask look desk task
    → Drafts (numbers_in task) task.copy task.capacity options s → IsIndexed (numbers_in task)
    → IsReady (other_of desk.copy)
    (copy_capacity (look desk.volume).capacities (other_of desk.copy)) s
draft_ready look desk task s options begun drafts indexed = record {
  copy_is = drafts.copy_is ∙ begun.copy;
  capacity_is = drafts.capacity_is ∙ begun.capacity;
  built = λ which.
      drafts.stages which
      ∙ all_built (numbers_in task).sorted (numbers_in task).built indexed.built which;
}

-- ---- the switch

module _ {V O : Type 0} (look : V → VolumeSeen) (old new : DeskState V O) (answer : Answer)
    (inlet : Received) (heard : inlet.items ≡ old.feed) where
  pub works_switched : (sides : Sides) → MadeSwitch look old answer sides new
      → Works look Nothing inlet new
  works_switched sides made =
      subst
      (λ (o : Option Stage). IsMadeAt o (other_of new.copy)
      (copy_capacity (look new.volume).capacities (other_of new.copy)) Nothing new.shadow inlet
      new.feed) (sym made.stage_is)
      (inr
      (record {
        switched = made.switched;
        made_is = refl;
        none = made.stays.shadow;
        behind = behind_all inlet.items new.feed (heard ∙ sym made.stays.feed);
      }))

  pub works_fallen : MadeFall look old answer new → Works look Nothing inlet new
  works_fallen made =
      subst
      (λ (o : Option Stage). IsMadeAt o (other_of new.copy)
      (copy_capacity (look new.volume).capacities (other_of new.copy)) Nothing new.shadow inlet
      new.feed) (sym made.stage)
      (made.stays.shadow, behind_all inlet.items new.feed (heard ∙ sym made.stays.feed))

-- ---- no utility is left

pub works_none : {V O : Type 0} (look : V → VolumeSeen) (made : Made) (inlet : Received)
    (desk : DeskState V O) → desk.stage ≡ None → desk.shadow ≡ None
    → IsBehind inlet.items desk.feed → Works look made inlet desk
works_none look made inlet desk stage shadow behind =
    subst
    (λ (o : Option Stage). IsMadeAt o (other_of desk.copy)
    (copy_capacity (look desk.volume).capacities (other_of desk.copy)) made desk.shadow inlet
    desk.feed) (sym stage) (shadow, behind)

-- ---- UNLOAD

-- nothing is made while pages are left to be copied
nothing_yet : (s : Stage) (copy capacity : ℕ) (made : Made) (kept : Option PreparedSeen)
    (inlet : Received) → s.copied < s.pages
    → HasMade (numbers_of s) s.drain copy capacity made kept inlet → made ≡ Nothing
nothing_yet s copy capacity Nothing kept inlet more h = refl
nothing_yet s copy capacity (Packing p) kept inlet more h =
    absurd (omega (arith, more, h.2.copied))
nothing_yet s copy capacity (Drafted d) kept inlet more h =
    absurd (omega (arith, more, h.2.copied))
nothing_yet s copy capacity (Written options) None inlet more h = absurd h
nothing_yet s copy capacity (Written options) (Some p) inlet more h =
    absurd (omega (arith, more, h.0.copied))

unfilled_on : (s : Stage) (t : Stage) (u : Utility) (page rows : ℕ)
    → SameMaking (numbers_of s) s.drain u s.drain
    → numbers_of t ≡ record u { copied = page; unloaded = rows } → IsUnfilled (numbers_of s)
    → IsUnfilled (numbers_of t)
unfilled_on s t u page rows same is h = record {
  filled = ap (λ (v : Utility). v.filled) is ∙ same.filled ∙ h.filled;
  reloaded = ap (λ (v : Utility). v.reloaded) is ∙ same.reloaded ∙ h.reloaded;
  sorted = ap (λ (v : Utility). v.sorted) is ∙ same.sorted ∙ h.sorted;
  built = ap (λ (v : Utility). v.built) is ∙ same.built ∙ h.built;
  done = ap (λ (v : Utility). v.done) is ∙ same.done ∙ h.done;
  unwritten = ap (λ (v : Utility). v.written) is ∙ same.written ∙ h.unwritten;
}

module _ {V O : Type 0} (look : V → VolumeSeen) (old new : DeskState V O) (task : Task)
    (inlet : Received) where
  -- where the copy of a page was sent
  copied_at : (page rows : ℕ) (o : Option Stage) (feed : List Item) (position : Position)
      (copied : List (Place × Row))
      → MakesCopy task.stage (other_of old.copy)
      (copy_capacity (look old.volume).capacities (other_of old.copy)) Nothing old.shadow inlet
      old.feed
      → inlet.items ≡ old.feed → page ≤ task.stage.pages
      → feed ≡ old.feed ++ PageCopy page position copied ∷ []
      → Followed
      (Runs
      (record (numbers_in task) {
        copied = page;
        unloaded = (numbers_in task).unloaded + rows;
      }) task.stage.drain) o
      → (copy capacity : ℕ)
      → IsMadeAt o copy capacity Nothing (while_running o old.shadow) inlet feed
  copied_at page rows None feed position copied makes is within sent followed copy capacity =
      absurd followed
  copied_at page rows (Some t) feed position copied makes is within sent followed copy capacity =
      let s = task.stage in
      let same = same_altered (numbers_of s) s.drain task.answer.command in
      let taken = all_taken_by inlet old.feed s.done is makes.heard in
      let numbers = followed.0 in
      inl
      (record {
        unswitched =
            ap (λ (v : Utility). v.switched) numbers ∙ same.switched ∙ makes.unswitched;
        copied =
            omega (
              arith,
              within,
              ap (λ (v : Utility). v.copied) numbers,
              ap (λ (v : Utility). v.pages) numbers,
              same.pages,
            );
        made_is = (
          makes.made_is.0,
          unfilled_on s t (numbers_in task) page ((numbers_in task).unloaded + rows) same numbers
              makes.made_is.1,
        );
        added = tt;
        heard = record {
          more = PageCopy page position copied ∷ [];
          items =
              sent
              ∙ ap (λ (xs : List Item). xs ++ PageCopy page position copied ∷ []) (sym is);
          taken = taken ∙ sym (ap (λ (v : Utility). v.done) numbers ∙ same.done);
        };
      })

  pub works_copied : (made : Made) (page rows : ℕ) → IsTask look old task
      → MakesStep task.stage task.answer steps.Unload → Hears old inlet
      → page ≡ task.stage.copied + 1 → MadeCopy look old task.answer page rows new
      → Works look made inlet old → Works look made inlet new
  works_copied made page rows begun step hears next sent works =
      let s = task.stage in
      let c = other_of old.copy in
      let n = copy_capacity (look old.volume).capacities (other_of old.copy) in
      let more = unload_more s task.answer step in
      let makes = at_makes old.stage s c n made old.shadow inlet old.feed begun.stage
      step.unswitched works in
      let none = nothing_yet s c n made old.shadow inlet more makes.made_is in
      let nothing = subst (λ (m : Made). MakesCopy s c n m old.shadow inlet old.feed) none
      makes in
      let plain = unload_next s task.answer step page next rows sent.few task.changes task.holder
      in
      let has = plain_turn _ plain in
      let event = events.Unload page rows in
      let followed = follows_task look old old new task event
      (PageCopy page sent.position sent.copied ∷ []) begun (writes_none look old)
      sent.made has.0 has.1 in
      let turn = if_some _ _ has.0
      (sym (turn_is s task.answer steps.Unload step task.changes task.holder event) ∙ has.1) in
      let at = copied_at page rows new.stage new.feed sent.position sent.copied nothing
      hears.items (omega (arith, next, more)) sent.made.feed
      (subst (λ (x : Turn). Followed x new.stage) turn.1 followed)
      (other_of new.copy) (copy_capacity (look new.volume).capacities (other_of new.copy)) in
      subst
      (λ (m : Made). IsMadeAt new.stage (other_of new.copy)
      (copy_capacity (look new.volume).capacities (other_of new.copy)) m new.shadow inlet
      new.feed) (sym none)
      (subst
      (λ (k : Option PreparedSeen). IsMadeAt new.stage (other_of new.copy)
      (copy_capacity (look new.volume).capacities (other_of new.copy)) Nothing k inlet new.feed)
      (sym sent.made.shadow) at)
