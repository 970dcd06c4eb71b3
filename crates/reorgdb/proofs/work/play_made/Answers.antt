use Rattle.std.proofs.Common.{List, sym, subst}
use Rattle.std.specs.List.{AllByRecursion}
use Rattle.rg_run.specs.Played.{IsPlayed}
use Rattle.rg_stmt.specs.declared.line.Line.{Line}
use Rattle.reorgdb.specs.Answer.{DealsWithLines}
use Rattle.reorgdb.specs.declared.telling.Tells.TheVariants.{Summary}
use Rattle.reorgdb.proofs.Asked.{none_asked}
use Rattle.reorgdb.proofs.Deals.{made_played}
use Rattle.reorgdb.proofs.Traces.{none_traced}
use Rattle.reorgdb.proofs.work.play_made.Goals as goal

pub play_lines-requires : goal.play_lines-requires
play_lines-requires g c = subst (λ (ls : List Line). AllByRecursion IsPlayed ls)
    (sym c.in-Ok.ensures) (made_played c.args.seed c.args.rows)

pub returns-in-Ok-clause-deals : goal.returns-in-Ok-clause-deals
returns-in-Ok-clause-deals g c =
    let look = g.V.Volume.seen in
    let made = c.play_lines.result in
    subst
    (λ (ls : List Line). DealsWithLines (Summary c.args.seed c.args.rows) (look c.args.volume)
    (look made.volume) ls made.end.outcome made.trace.items made.end.text) c.in-Ok.ensures
    c.play_lines.ensures.deals

pub returns-in-Err-clause-asked : goal.returns-in-Err-clause-asked
returns-in-Err-clause-asked g c = none_asked g.O.Operator.answers c.args.operator
    c.bare.result.operator c.bare.result.trace.items c.bare.ensures.operator c.bare.ensures.trace

pub returns-in-Err-clause-traced : goal.returns-in-Err-clause-traced
returns-in-Err-clause-traced g c =
    none_traced g.V.Volume.seen c.args.volume
    c.bare.result.volume c.bare.result.trace.items c.bare.ensures.volume c.bare.ensures.trace
