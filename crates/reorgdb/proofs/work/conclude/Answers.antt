use Rattle.reorgdb.proofs.Deals.{tells_down, tells_whole}
use Rattle.reorgdb.proofs.work.conclude.Goals as goal

pub returns-in-Down-clause-deals : goal.returns-in-Down-clause-deals
returns-in-Down-clause-deals c = λ before after lines ends is_end told.
    let made = c.with_text-in-Down in
    tells_down c.args.tells before after lines c.args.trace.now c.args.end c.args.verdict
    c.run_text-text-in-Down.result made.result.outcome made.result.text c.in-Down.is
    c.run_text-text-in-Down.ensures made.ensures.ok made.ensures.err ends told

pub returns-in-Whole-clause-deals : goal.returns-in-Whole-clause-deals
returns-in-Whole-clause-deals c = λ before after lines ends is_end told.
    let made = c.with_text-in-Whole in
    tells_whole c.args.tells before after lines c.args.trace.now c.in-Whole.rows c.args.end
    c.args.verdict c.run_text-text-in-Whole.result made.result.outcome made.result.text
    c.in-Whole.is c.run_text-text-in-Whole.ensures made.ensures.ok made.ensures.err ends told
