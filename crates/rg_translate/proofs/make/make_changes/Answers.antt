use Rattle.std.proofs.Common.{ap, arith, length}
use Rattle.std.proofs.lemmas.Result.{err_from_is_err_and}
use Rattle.rg_translate.proofs.Making.{behind_more, copy_more, made_more, stays_more, unmoved_more}
use Rattle.rg_translate.proofs.Weighing.{claims_more, full_more}
use Rattle.rg_translate.proofs.make.make_changes.Goals as goal

pub loop-change-preserved : goal.loop-change-preserved
loop-change-preserved c =
    let i = c.loop-change.invariant in
    let cs = c.args.changes.now in
    let change = c.change-item.result in
    let start = c.args.shadow.now in
    let old = c.loop-change.shadow in
    let new = c.apply.new.self in
    let applies = c.in_ok-apply.ensures.applies in record {
      rows = made_more cs c.loop-change.change-index change _ start old new c.loop-change-test.true
          c.change-item.is c.as_ref.ensures.value i.rows applies;
      unmoved = unmoved_more cs c.loop-change.change-index change _ start old new
          c.loop-change-test.true c.change-item.is i.unmoved applies;
      behind = behind_more cs c.loop-change.change-index change _ start old new
          c.loop-change-test.true c.change-item.is i.behind applies;
      stays = stays_more cs c.loop-change.change-index change _ start old new
          c.loop-change-test.true c.change-item.is i.behind i.stays applies;
      copy = copy_more start old new change.home _ i.copy applies;
      claims = claims_more cs c.loop-change.change-index change _ start old new
          c.loop-change-test.true c.change-item.is c.as_ref.ensures.value i.claims applies;
      idle = λ none. absurd (omega (arith, c.loop-change-test.true, ap length none));
    }

pub returns-in_err-apply-clause-full : goal.returns-in_err-apply-clause-full
returns-in_err-apply-clause-full c =
    let i = c.loop-change.invariant in
    let p = err_from_is_err_and c.from_residual.result c.from_residual.ensures.1 in
    rw (p.1, p.2)
    (full_more c.args.changes.now c.loop-change.change-index c.args.shadow.now c.loop-change.shadow
    _ _ _ i.copy i.claims c.in_err-apply.ensures.refuses)
