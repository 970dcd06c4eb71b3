-- What an event tells of the new copy is what is made of it.
use Rattle.std.proofs.Common.{◌≡◌, inl, inr, ◌⊎◌, ℕ, Bool, true, false, Option, Some, None}
use Rattle.std.proofs.Common.{if◌then◌else◌, [], length, refl, sym, ◌∙◌, ap, subst}
use Rattle.std.specs.Prelude.{IfOk, IfSome, OnOk, Ok, Err}
use Rattle.std.specs.declared.result.Result.{Result}
use Rattle.rg_base.specs.declared.control.Answer.{Answer}
use Rattle.rg_base.specs.declared.options.DrainFor.{DrainFor}
use Rattle.rg_base.specs.declared.options.DrainFor.TheVariants as what
use Rattle.rg_base.specs.declared.session.Session.{Session}
use Rattle.rg_base.specs.declared.step.Step.TheVariants as steps
use Rattle.rg_desk.specs.Desk.{DeskState, HasWritten, MadeStep, TellsWritten}
use Rattle.rg_engine.specs.Room.{Ground}
use Rattle.rg_base.specs.Copies.{other_of, set_of}
use Rattle.rg_engine.specs.Flushed.{ReadsAll}
use Rattle.rg_engine.specs.Prepared.{while_running}
use Rattle.rg_outside.specs.Moments.{IfTold}
use Rattle.rg_feed.specs.declared.fold.item.Stage.{Stage}
use Rattle.rg_model.specs.State.{Utility}
use Rattle.rg_model.specs.Turn.{Turn, alter, drain_after_write, is_term, turn_of}
use Rattle.rg_outside.specs.Volume.{VolumeSeen}
use Rattle.rg_reload.specs.declared.fault.ReloadFault.{ReloadFault}
use Rattle.rg_reload.specs.declared.packer.Filled.{Filled}
use Rattle.rg_shadow.specs.declared.fault.ShadowFault.{ShadowFault}
use Rattle.rg_rules.specs.Stage.Followed.{Followed}
use Rattle.rg_rules.specs.Stage.NumbersOf.{numbers_of}
use Rattle.rg_stmt.specs.declared.event.Event.{Event}
use Rattle.rg_stmt.specs.declared.event.Event.TheVariants as events
use Rattle.rg_laws_utility.specs.TraceStage.Tending.{FollowsBy, is_booked, is_plain}
use Rattle.rg_phase.specs.Made.{IsAsMade, IsFilled}
use Rattle.rg_phase.specs.Step.{KeepsWritten, TellsCopy}
use Rattle.rg_phase.specs.Working.{IsEventOrStop, IsOver, IsPageOf, MakesStep, Writes, is_filling}
use Rattle.rg_phase.specs.declared.made.Made.{Made}
use Rattle.rg_phase.proofs.Stops.{turn_is}

-- what was made goes with the event; a stop tells nothing
pub told_or_stop : (m : Made) (o : Option Stage) (s : Stage) (taken : ℕ) (event : Event)
    (made : Result Unit ShadowFault) (result : Event)
    → o ≡ Some s → OnOk made (IsAsMade m (Some s) taken event) → IsEventOrStop event made result
    → IsAsMade m o taken result
told_or_stop m o s taken event (Ok x) result stage told (inl is) = subst (IsAsMade m o taken)
    (sym is.0) (subst (λ (o : Option Stage). IsAsMade m o taken event) (sym stage) told)
told_or_stop m o s taken event (Err fault) result stage told (inl is) = absurd (cc (is.1))
told_or_stop m o s taken event made result stage told (inr (inl is)) =
    subst (IsAsMade m o taken) (sym is.0) tt
told_or_stop m o s taken event made result stage told (inr (inr is)) =
    subst (IsAsMade m o taken) (sym is.0) tt

-- the page was filled
pub told_page :
    (m : Made) (o : Option Stage) (s : Stage) (taken : ℕ) (made : Result Filled ReloadFault)
    (event : Event) → o ≡ Some s
    → IfOk made (λ filled. IsFilled s.options m filled.page filled.rows) → IsPageOf made event
    → IsAsMade m o taken event
told_page m o s taken (Ok filled) (events.Reload page rows) stage fills is =
    subst (λ (x : Option Stage). IfSome x (λ t. IsFilled t.options m page rows)) (sym stage)
    (subst (λ (p : ℕ). IsFilled s.options m p rows) (sym is.0)
    (subst (λ (r : ℕ). IsFilled s.options m filled.page r) (sym is.1) fills))
told_page m o s taken (Err fault) (events.Reload page rows) stage fills is = absurd is
told_page m o s taken (Ok filled) (events.Stop reason) stage fills is = tt
told_page m o s taken (Err fault) (events.Stop reason) stage fills is = tt
told_page m o s taken (Ok filled) event stage fills is = absurd is
told_page m o s taken (Err fault) event stage fills is = absurd is

-- where the utility is over, it makes nothing more of the new copy

never : (b t : Bool) (next : Option Turn) → (b ≡ true) ⊎ (t ≡ true)
    → is_plain (if b then None else (if t then None else next)) ≡ true → ⊥
never true t next over plain = absurd (cc (plain))
never false true next over plain = absurd (cc (plain))
never false false next (inl over) plain = absurd (cc (over))
never false false next (inr over) plain = absurd (cc (over))

pub told_over : (m : Made) (o : Option Stage) (taken all : ℕ) (covered : Option Session)
    (answer : Answer) (s : Stage) (event : Event)
    → IsOver s answer → is_plain (turn_of all covered answer (numbers_of s) s.drain event) ≡ true
    → IsAsMade m o taken event
told_over m o taken all covered answer s (events.Reload page rows) over plain =
    absurd (never s.switched (is_term answer.command) _ over plain)
told_over m o taken all covered answer s (events.Sort which) over plain =
    absurd (never s.switched (is_term answer.command) _ over plain)
told_over m o taken all covered answer s (events.Build which) over plain =
    absurd (never s.switched (is_term answer.command) _ over plain)
told_over m o taken all covered answer s (events.Log iteration took left verdict) over plain =
    absurd (never s.switched (is_term answer.command) _ over plain)
told_over m o taken all covered answer s (events.Last took left) over plain =
    absurd (never s.switched (is_term answer.command) _ over plain)
told_over m o taken all covered answer s event over plain = tt

-- ---- the new copy that is kept

-- an event with which nothing is written and no copy switched tells nothing of it
pub tells_unfilled : {V O : Type 0} (look : V → VolumeSeen) (old new : DeskState V O)
    (event : Event) → is_booked event ≡ true → is_filling event ≡ false
    → TellsCopy look old new event
tells_unfilled look old new (events.Written pages) booked unfilled = absurd (cc (unfilled))
tells_unfilled look old new (events.Switched to sides) booked unfilled = absurd (cc (booked))
tells_unfilled look old new event booked unfilled = tt

-- nor does the stop that stands in its place
pub tells_or_stop : {V O : Type 0} (look : V → VolumeSeen) (old new : DeskState V O)
    (event : Event) (made : Result Unit ShadowFault) (result : Event) → is_booked event ≡ true
    → is_filling event ≡ false → IsEventOrStop event made result → TellsCopy look old new result
tells_or_stop look old new event made result booked unfilled (inl is) =
    subst (TellsCopy look old new) (sym is.0)
    (tells_unfilled look old new event booked unfilled)
tells_or_stop look old new event made result booked unfilled (inr (inl is)) =
    subst (TellsCopy look old new) (sym is.0) tt
tells_or_stop look old new event made result booked unfilled (inr (inr is)) =
    subst (TellsCopy look old new) (sym is.0) tt

pub tells_page : {V O : Type 0} (look : V → VolumeSeen) (old new : DeskState V O)
    (made : Result Filled ReloadFault) (event : Event) → IsPageOf made event
    → TellsCopy look old new event
tells_page look old new (Ok filled) (events.Written pages) is = absurd is
tells_page look old new (Err fault) (events.Written pages) is = absurd is
tells_page look old new (Ok filled) (events.Switched to sides) is = absurd is
tells_page look old new (Err fault) (events.Switched to sides) is = absurd is
tells_page look old new made event is = tt

-- ---- WRITTEN alone tells what was written

-- another event asks for no new copy
pub unwritten : {V O : Type 0} (desk : DeskState V O) (event : Event) → is_filling event ≡ false
    → TellsWritten desk event
unwritten desk (events.Written pages) unfilled = absurd (cc (unfilled))
unwritten desk event unfilled = tt

-- nor does the stop that stands in its place
pub unwritten_or_stop : {V O : Type 0} (desk : DeskState V O) (event : Event)
    (made : Result Unit ShadowFault) (result : Event) → is_filling event ≡ false
    → IsEventOrStop event made result → TellsWritten desk result
unwritten_or_stop desk event made result unfilled (inl is) =
    subst (TellsWritten desk) (sym is.0) (unwritten desk event unfilled)
unwritten_or_stop desk event made result unfilled (inr (inl is)) =
    subst (TellsWritten desk) (sym is.0) tt
unwritten_or_stop desk event made result unfilled (inr (inr is)) =
    subst (TellsWritten desk) (sym is.0) tt

-- nor does that of a page
pub unwritten_page : {V O : Type 0} (desk : DeskState V O) (made : Result Filled ReloadFault)
    (event : Event) → IsPageOf made event → TellsWritten desk event
unwritten_page desk (Ok filled) (events.Written pages) is = absurd is
unwritten_page desk (Err fault) (events.Written pages) is = absurd is
unwritten_page desk made event is = tt

pub tells_written : {V O : Type 0} (look : V → VolumeSeen) (desk : DeskState V O) (pages : ℕ)
    → KeepsWritten look pages desk → HasWritten desk pages
tells_written look desk pages keeps = record {
  shadow = keeps.shadow;
  shadow_is = keeps.shadow_is;
  current = keeps.current;
  pages_are = keeps.pages_are;
}

-- the new copy that was written is kept on
pub written_kept : {V O : Type 0} (look : V → VolumeSeen) (old mid new : DeskState V O) (s : Stage)
    (answer : Answer) (granted : DrainFor) (pages : ℕ) → MakesStep s answer (steps.Write granted)
    → old.down ≡ false → old.stage ≡ Some s → Writes look old mid → KeepsWritten look pages mid
    → MadeStep look mid (Some answer) (events.Written pages) [] new
    → KeepsWritten look pages new
written_kept {V} {O} look old mid new s answer granted pages makes up stage wrote keeps made =
    let runs = some granted (alter (numbers_of s) answer.command) new.stage
    (follows (drain_after_write answer.now
    (record (alter (numbers_of s) answer.command) { written = true; shadow = pages }) s.drain
    granted) (turn_is s answer (steps.Write granted) makes old.changes old.covered
    (events.Written pages))) in
    record {
      shadow = keeps.shadow;
      shadow_is =
          made.shadow ∙ ap (λ (o : Option Stage). while_running o mid.shadow) runs.1
          ∙ keeps.shadow_is;
      current =
          keeps.current ∙ ap (λ (g : Ground). length g.log.records) (sym made.ground.ground);
      pages_are = keeps.pages_are;
      reads =
          subst
          (λ (v : V). IfTold (look v).told
          (ReadsAll (set_of (other_of new.copy)) keeps.shadow.shade.pages)) (sym made.volume)
          (subst
          (λ (n : ℕ). IfTold (look mid.volume).told
          (ReadsAll (set_of (other_of n)) keeps.shadow.shade.pages)) (sym made.stays.copy)
          keeps.reads);
    }
  where
    follows : FollowsBy false (Some s) old.changes old.covered (Some answer)
        (events.Written pages) new.stage
    follows =
        subst
        (λ (o : Option Stage). FollowsBy false o old.changes old.covered (Some answer)
        (events.Written pages) new.stage) stage
        (subst
        (λ (b : Bool). FollowsBy b old.stage old.changes old.covered (Some answer)
        (events.Written pages) new.stage) up
        (subst
        (λ (d : DeskState V O). FollowsBy d.down d.stage d.changes d.covered (Some answer)
        (events.Written pages) new.stage) wrote.same made.follows))

    some : (g : DrainFor) (u : Utility) (o : Option Stage)
        → Followed
        (drain_after_write answer.now (record u { written = true; shadow = pages }) s.drain g) o
        → (t : Stage) × (o ≡ Some t)
    some what.Writers u None followed = absurd followed
    some what.All u None followed = absurd followed
    some g u (Some t) followed = (t, refl)
