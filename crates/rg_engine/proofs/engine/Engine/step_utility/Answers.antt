use Rattle.std.proofs.Common.{sym, ◌∙◌, ap, subst}
use Rattle.std.specs.Option.{is_some}
use Rattle.rg_base.specs.declared.options.DrainState.{DrainState}
use Rattle.rg_model.specs.Claims.{least_holder}
use Rattle.rg_rules.specs.Stage.Followed.{Followed}
use Rattle.rg_rules.specs.Stage.NumbersOf.{numbers_of}
use Rattle.rg_laws_utility.specs.TraceStage.Tending.{MayDrain}
use Rattle.rg_laws_utility.proofs.TraceStageLemmas.Granting.{drain_granted}
use Rattle.rg_laws_utility.proofs.TraceStageLemmas.Switching.{plain_turn}
use Rattle.rg_engine.specs.Shows.{IsShown}
use Rattle.rg_engine.proofs.UtilityShows.{drained_shown, none_is, step_goes, step_over, still_aside}
use Rattle.rg_engine.proofs.engine.Engine.step_utility.Goals as goal

pub drain_to-requires : goal.drain_to-requires
drain_to-requires c =
    let d = c.args.self.now in
    let s = c.args.stage.now in
    let blocker = least_holder d.claims.drain d.claims.claims in
    let has = plain_turn _ c.requires.next in
    subst (λ (x : DrainState). MayDrain x blocker c.drain_of.result) (sym c.requires.drain)
    (subst (λ (x : DrainState). MayDrain s.drain blocker x) (sym c.drain_of.ensures)
    (drain_granted (numbers_of s) c.args.changes blocker c.args.answer.now s.drain c.args.event.now
    has.0 c.next_stage-next.result has.1 (c.next_stage-next.ensures.followed blocker has.0 has.1)))

pub next_stage-next-requires-clause-next : goal.next_stage-next-requires-clause-next
next_stage-next-requires-clause-next c =
    let has = plain_turn _ c.requires.next in
    (least_holder c.args.self.now.claims.drain c.args.self.now.claims.claims, ap is_some has.1)

pub give_back_aside-requires : goal.give_back_aside-requires
give_back_aside-requires c = record {
  shown = subst IsShown (sym c.drain_to.ensures)
      (drained_shown c.args.self.now c.drain_of.result c.requires.shown);
}

pub returns-then-is_none : goal.returns-then-is_none
returns-then-is_none c = record {
  follows = c.next_stage-next.ensures.followed;
  bounded = c.next_stage-next.ensures.bounded;
  engine = step_over c.args.self.now c.drain_of.result c.drain_to.new.self
      c.give_back_aside.new.self c.next_stage-next.result c.drain_to.ensures c.drain_of.ensures
      (none_is c.next_stage-next.result c.is_none.result c.is_none.ensures c.if-is_none.true)
      c.give_back_aside.ensures;
}

pub returns-else-is_none : goal.returns-else-is_none
returns-else-is_none c =
    let d = c.args.self.now in
    let s = c.args.stage.now in
    let blocker = least_holder d.claims.drain d.claims.claims in
    let has = plain_turn _ c.requires.next in
    record {
      follows = c.next_stage-next.ensures.followed;
      bounded = c.next_stage-next.ensures.bounded;
      engine = step_goes c.args.self.now c.drain_of.result c.drain_to.new.self
          c.next_stage-next.result c.is_none.result c.drain_to.ensures c.drain_of.ensures
          c.is_none.ensures c.if-is_none.false (λ t is. c.requires.set_aside
          ∙ still_aside c.args.changes blocker c.args.answer.now s t c.args.event.now has.0 has.1
          has.2
          (subst (Followed has.0) is (c.next_stage-next.ensures.followed blocker has.0 has.1)));
    }
