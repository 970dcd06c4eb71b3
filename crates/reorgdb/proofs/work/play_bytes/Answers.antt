use Rattle.reorgdb.proofs.Asked.{none_asked}
use Rattle.reorgdb.proofs.Deals.{DealsWithBytes-lines, all_played}
use Rattle.reorgdb.proofs.Traces.{none_traced}
use Rattle.reorgdb.proofs.work.play_bytes.Goals as goal

pub play_lines-requires : goal.play_lines-requires
play_lines-requires g c = all_played c.in-Ok.lines.items c.in-Ok.ensures.lines.each

pub returns-in-Ok-clause-deals : goal.returns-in-Ok-clause-deals
returns-in-Ok-clause-deals g c =
    let look = g.V.Volume.seen in
    let made = c.play_lines.result in
    DealsWithBytes-lines c.args.tells (look c.args.volume) (look made.volume) made.end.outcome
    c.args.bytes.now c.in-Ok.lines.items made.trace.items made.end.text c.in-Ok.ensures.lines
    c.play_lines.ensures.deals

pub returns-in-Err-Line-clause-asked : goal.returns-in-Err-Line-clause-asked
returns-in-Err-Line-clause-asked g c =
    none_asked g.O.Operator.answers c.args.operator c.refuse_line.result.operator
    c.refuse_line.result.trace.items c.refuse_line.ensures.operator c.refuse_line.ensures.trace

pub returns-in-Err-NoMemory-clause-asked : goal.returns-in-Err-NoMemory-clause-asked
returns-in-Err-NoMemory-clause-asked g c = none_asked g.O.Operator.answers c.args.operator
    c.bare.result.operator c.bare.result.trace.items c.bare.ensures.operator c.bare.ensures.trace

pub returns-in-Err-Line-clause-traced : goal.returns-in-Err-Line-clause-traced
returns-in-Err-Line-clause-traced g c =
    none_traced g.V.Volume.seen c.args.volume
    c.refuse_line.result.volume c.refuse_line.result.trace.items c.refuse_line.ensures.volume
    c.refuse_line.ensures.trace

pub returns-in-Err-NoMemory-clause-traced : goal.returns-in-Err-NoMemory-clause-traced
returns-in-Err-NoMemory-clause-traced g c =
    none_traced g.V.Volume.seen c.args.volume
    c.bare.result.volume c.bare.result.trace.items c.bare.ensures.volume c.bare.ensures.trace
