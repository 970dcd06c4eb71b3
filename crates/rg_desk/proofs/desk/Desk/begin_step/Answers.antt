use Rattle.std.proofs.Common.{◌≤◌, inl, inr, ℕ, Option, Some, length, refl, sym, ◌∙◌, ap, subst}
use Rattle.rg_base.specs.Copies.{other_of}
use Rattle.rg_desk.specs.Desk.{HasTaken, IsAsWritten, left_by_stage}
use Rattle.rg_feed.specs.declared.fold.item.Stage.{Stage}
use Rattle.rg_image.specs.Rules.{copy_capacity}
use Rattle.rg_outside.specs.Told.{AddsAnswer, HandsOver}
use Rattle.rg_stmt.specs.declared.event.Event.TheVariants as events
use Rattle.rg_desk.proofs.Asking.{same_asked, same_roomy}
use Rattle.rg_desk.proofs.desk.Desk.begin_step.Goals as goal

pub returns-then-down-clause-begins : goal.returns-then-down-clause-begins
returns-then-down-clause-begins g c =
    let room = same_roomy c.args.self.now c.hand_over.new.self c.make_room.new.self
    c.hand_over.ensures.same c.make_room.ensures.same in
    record {
      roomy = c.make_room.new.self;
      same = room;
      event = events.StepDown;
      is = inl (sym (ap (λ d. d.down) room) ∙ sym c.down.ensures.is ∙ c.if-down.true, refl);
      made = c.book.ensures;
    }

pub returns-in_default-clause-begins : goal.returns-in_default-clause-begins
returns-in_default-clause-begins g c =
    let room = same_roomy c.args.self.now c.hand_over.new.self c.make_room.new.self
    c.hand_over.ensures.same c.make_room.ensures.same in
    record {
      roomy = c.make_room.new.self;
      same = room;
      event = events.Idle;
      is = inr (
        sym (ap (λ d. d.down) room) ∙ sym c.down.ensures.is ∙ c.if-down.false,
        sym (ap (λ d. d.stage) room) ∙ sym c.stage.ensures.stage ∙ c.in_default.is,
        refl,
      );
      made = c.book-in_default.ensures;
    }

pub returns-clause-begins : goal.returns-clause-begins
returns-clause-begins g c =
    let look = g.V.Volume.seen in
    let answers = g.O.Operator.answers in
    let mid = c.make_room.new.self in
    let asked = c.ask_operator-answer.new.self in
    let answer = c.ask_operator-answer.result in
    let same = c.ask_operator-answer.ensures.same in
    let room = same_roomy c.args.self.now c.hand_over.new.self mid c.hand_over.ensures.same
    c.make_room.ensures.same in
    record {
      begun = record {
        up = ap (λ d. d.down) same ∙ sym c.down.ensures.is ∙ c.if-down.false;
        stage = ap (λ d. d.stage) same ∙ sym c.stage.ensures.stage ∙ c.in-Some.is;
        taken = subst (λ (n : ℕ). HasTaken n c.in-Some.stage) (sym (ap (λ d. d.changes) same))
            c.in-Some.ensures.taken;
        kept = ap (λ d. d.kept) same;
        room = subst (λ (n : ℕ). 1 ≤ n) (sym (ap (λ d. d.spare) same)) c.in_ok-make_room.ensures.ok;
        changes = c.changes-changes.ensures ∙ sym (ap (λ d. d.changes) same);
        holder = c.holder-holder.ensures ∙ sym (ap (λ d. d.covered) same);
        copy = c.other-copy.ensures.copy ∙ ap other_of (sym (ap (λ d. d.copy) same));
        capacity = c.other-copy.ensures.capacity
            ∙ ap (λ d. copy_capacity (look d.volume).capacities (other_of d.copy)) (sym same);
        caught = λ last unswitched.
            subst (λ (n : ℕ). n ≤ c.in-Some.stage.done)
            (sym c.changes-changes.ensures)
            (c.in-Some.ensures.caught last unswitched);
        current =
            subst (λ d. IsAsWritten d.stage d.shadow (length d.ground.log.records)) (sym same)
            c.stage.ensures.current;
      };
      same = same_asked c.args.self.now mid asked answer room same;
      answered = subst (λ o. AddsAnswer (answers o) answer (answers asked.operator))
          (ap (λ d. d.operator) room) c.ask_operator-answer.ensures.answered;
      handed =
          subst (λ (n : ℕ). HandsOver n (answers asked.operator) (g.O.Operator.last asked.operator))
          (ap (λ (n : ℕ). left_by_stage n (Some c.in-Some.stage))
          (c.changes-changes.ensures ∙ ap (λ d. d.changes) room)
          ∙ ap (λ (o : Option Stage). left_by_stage c.args.self.now.changes o)
          (sym c.in-Some.is ∙ c.stage.ensures.stage ∙ ap (λ d. d.stage) room))
          c.ask_operator-answer.ensures.handed;
    }
