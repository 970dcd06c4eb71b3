use Rattle.std.proofs.Common.{ℕ, length, Option, sym, ◌∙◌, ap, subst, arith}
use Rattle.rg_desk.specs.Desk.{CanPrepare}
use Rattle.rg_engine.proofs.CopyPagesLemmas.Stamping.{length-stamped_first}
use Rattle.rg_engine.specs.CopyPages.Stamped.{stamped_all}
use Rattle.rg_engine.specs.Prepared.{PreparedSeen}
use Rattle.rg_engine.specs.Room.{Ground}
use Rattle.rg_base.specs.Copies.{other_of, set_of}
use Rattle.rg_engine.specs.Flushed.{ReadsAll}
use Rattle.rg_outside.specs.Moments.{IfTold}
use Rattle.rg_phase.specs.Made.{StepMakes, after_write, numbers_in}
use Rattle.rg_phase.specs.declared.made.Made.{Made}
use Rattle.rg_phase.specs.declared.made.Made.TheVariants.{Drafted, Written}
use Rattle.rg_phase.proofs.Booking.{copied_all, draft_ready, unswitched_in}
use Rattle.rg_phase.proofs.Switchable.{can_prepare, caught_up, draft_stamped}
use Rattle.rg_phase.proofs.Worked.{makes_written}
use Rattle.rg_phase.proofs.step.Reorg.put.Goals as goal

pub prepare_switch-requires-clause-can : goal.prepare_switch-requires-clause-can
prepare_switch-requires-clause-can g c =
    let look = g.V.Volume.seen in
    let desk = c.args.desk.now in
    let inlet = c.args.inlet.now in
    let task = c.args.task.now in
    let s = task.stage in
    let x = c.in-Drafted.draft in
    let makes = subst
    (λ (m : Made). StepMakes (numbers_in task) s.drain task.copy task.capacity m desk.shadow inlet)
    (sym c.replace.ensures.value ∙ c.in-Drafted.is) c.requires.made in
    can_prepare look desk inlet s x.options x.shadow
    (record {
      stage = s;
      stage_is = c.requires.begun.stage;
      granted = c.args.granted;
      drain = c.requires.due.1;
    })
    c.requires.hears c.requires.begun.stage (unswitched_in task makes.unswitched)
    (copied_all task makes.copied c.requires.due.0.copied) makes.made_is.3
    (caught_up look desk inlet task c.requires.begun c.requires.hears makes.unswitched
    c.requires.due.2 makes.taken makes.made_is.3.within)
    (draft_ready look desk task x.shadow x.options c.requires.begun makes.made_is.2
    c.requires.due.0)

pub returns-in-Ok-clause-made : goal.returns-in-Ok-clause-made
returns-in-Ok-clause-made g c =
    let desk = c.args.desk.now in
    let inlet = c.args.inlet.now in
    let task = c.args.task.now in
    let s = task.stage in
    let u = numbers_in task in
    let x = c.in-Drafted.draft in
    let at = length desk.ground.log.records in
    let makes = subst
    (λ (m : Made). StepMakes u s.drain task.copy task.capacity m desk.shadow inlet)
    (sym c.replace.ensures.value ∙ c.in-Drafted.is) c.requires.made in
    let none = subst
    (λ (k : Option PreparedSeen). StepMakes u s.drain task.copy task.capacity (Drafted x) k inlet)
    makes.made_is.0 makes in
    λ drain all.
    subst
    (λ (k : Option PreparedSeen). StepMakes (after_write c.count-pages.result u) drain task.copy
    task.capacity (Written x.options) k inlet)
    (sym (ap (λ d. d.shadow) c.in-Ok.ensures.ok.same))
    (makes_written u s.drain task.copy task.capacity x
    (record {
      shade = record x.shadow { pages = stamped_all at x.shadow.pages };
      records = at;
    })
    inlet c.count-pages.result drain c.requires.due.0 c.requires.due.2 none
    (draft_stamped x.options x.shadow inlet.items inlet.taken at makes.made_is.3)
    (length-stamped_first at (length x.shadow.pages) x.shadow.pages ∙ sym c.count-pages.ensures)
    all)

pub returns-in-Ok-clause-kept : goal.returns-in-Ok-clause-kept
returns-in-Ok-clause-kept g c =
    let at = length c.args.desk.now.ground.log.records in
    let shade = c.in-Drafted.draft.shadow in
    record {
      shadow = record { shade = record shade { pages = stamped_all at shade.pages }; records = at };
      shadow_is = ap (λ d. d.shadow) c.in-Ok.ensures.ok.same;
      current = ap (λ (x : Ground). length x.log.records) (sym c.in-Ok.ensures.ok.ground);
      pages_are =
          length-stamped_first at (length shade.pages) shade.pages ∙ sym c.count-pages.ensures;
      reads =
          subst
          (λ (n : ℕ). IfTold (g.V.Volume.seen c.prepare_switch.new.self.volume).told
          (ReadsAll (set_of (other_of n)) (stamped_all at shade.pages)))
          (sym (ap (λ d. d.copy) c.in-Ok.ensures.ok.same)) c.in-Ok.ensures.ok.reads;
    }
