use Rattle.std.proofs.Common.{ℕ, Option, Some, refl, ap, sym, subst}
use Rattle.rg_desk.specs.Desk.{HasTaken}
use Rattle.rg_engine.specs.Prepared.{PreparedSeen}
use Rattle.rg_laws_utility.specs.TraceStage.Tending.{IsForAll}
use Rattle.rg_stmt.specs.declared.event.Event.{Event}
use Rattle.rg_phase.specs.Made.{EventMakes, StepMakes, after_back, after_take, numbers_in}
use Rattle.rg_phase.proofs.Eventful.{IsNext, back_makes, kept_none, last_due, last_makes, log_due}
use Rattle.rg_phase.proofs.Eventful.{log_makes, quiet_makes, quiet_told}
use Rattle.rg_phase.proofs.Worked.{on_ok}
use Rattle.rg_phase.proofs.step.Reorg.make.Goals as goal

pub returns-in-Log-clause-made : goal.returns-in-Log-clause-made
returns-in-Log-clause-made g c =
    let task = c.args.task.now in
    let kept = c.args.desk.now.shadow in
    let made = c.take.new.self.made in
    let later = c.take.new.inlet in
    let l = c.in-Log in
    let due = log_due task c.requires.unswitched l.iteration l.took l.left l.verdict
    (subst (λ (n : ℕ). HasTaken n task.stage) (sym c.requires.begun.changes)
    c.requires.begun.taken)
    (subst (IsNext task c.requires.unswitched) l.is c.requires.next) in
    let none = kept_none task c.requires.unswitched c.args.self.now.made kept c.args.inlet.now
    (λ o p keeps. subst IsForAll due.1 keeps.for_all) c.requires.made in
    on_ok c.take.result
    (λ makes.
    subst (λ (e : Event). EventMakes task e made kept later) (sym l.is)
    (log_makes task c.requires.unswitched l.iteration l.took l.left l.verdict made kept later due.1
    (subst
    (λ (k : Option PreparedSeen). StepMakes (after_take l.took (numbers_in task)) task.stage.drain
    task.copy task.capacity made k later) (sym none) makes)))
    c.take.ensures.made

pub returns-in-Last-clause-made : goal.returns-in-Last-clause-made
returns-in-Last-clause-made g c =
    let task = c.args.task.now in
    let kept = c.args.desk.now.shadow in
    let made = c.take-in-Last.new.self.made in
    let later = c.take-in-Last.new.inlet in
    let l = c.in-Last in
    let due = last_due task c.requires.unswitched l.took l.left
    (subst (λ (n : ℕ). HasTaken n task.stage) (sym c.requires.begun.changes)
    c.requires.begun.taken)
    (subst (IsNext task c.requires.unswitched) l.is c.requires.next) in
    let none = kept_none task c.requires.unswitched c.args.self.now.made kept c.args.inlet.now
    (λ o p keeps. cc (keeps.last, due.1)) c.requires.made in
    on_ok c.take-in-Last.result
    (λ makes.
    subst (λ (e : Event). EventMakes task e made kept later) (sym l.is)
    (last_makes task c.requires.unswitched l.took l.left made kept later due.1
    (subst
    (λ (k : Option PreparedSeen). StepMakes (after_take l.took (numbers_in task)) task.stage.drain
    task.copy task.capacity made k later) (sym none) makes)))
    c.take-in-Last.ensures.made

pub returns-in-GiveUp-clause-made : goal.returns-in-GiveUp-clause-made
returns-in-GiveUp-clause-made g c =
    let task = c.args.task.now in
    let made = c.take_back.new.self.made in
    let inlet = c.args.inlet.now in
    let new = c.take_back.new.desk in
    subst (λ (e : Event). EventMakes task e made new.shadow inlet) (sym c.in-GiveUp.is)
    (back_makes task c.requires.unswitched c.in-GiveUp.field-0 made new.shadow inlet
    (subst
    (λ (k : Option PreparedSeen). StepMakes (after_back (numbers_in task)) task.stage.drain
    task.copy task.capacity made k inlet) (sym (ap (λ d. d.shadow) c.take_back.ensures.desk))
    c.take_back.ensures.made))

pub returns-in_default : goal.returns-in_default
returns-in_default g c =
    let task = c.args.task.now in
    let made = c.args.self.now.made in
    let inlet = c.args.inlet.now in
    let kept = c.args.desk.now.shadow in
    let other = c.in_default in
    record {
      desk = refl;
      ring = refl;
      items = refl;
      made =
          quiet_makes task c.requires.unswitched c.args.event.now c.requires.booked
          c.requires.unfilled other.not-Sort other.not-Build other.not-Log other.not-Last
          other.not-GiveUp made
          kept inlet c.requires.made;
      told =
          quiet_told task c.requires.unswitched c.args.event.now c.requires.booked
          c.requires.unfilled other.not-Sort other.not-Build other.not-Log other.not-Last
          other.not-GiveUp made
          (Some task.stage) inlet.taken;
      full = tt;
      space = λ is. absurd (cc is);
    }
