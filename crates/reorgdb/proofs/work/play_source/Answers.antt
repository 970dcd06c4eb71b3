use Rattle.std.proofs.Common.{ℕ, List, subst}
use Rattle.reorgdb.specs.Answer.{DealsWithBytes, seen}
use Rattle.reorgdb.proofs.Asked.{none_asked}
use Rattle.reorgdb.proofs.Deals.{plays_read}
use Rattle.reorgdb.proofs.Traces.{none_traced}
use Rattle.reorgdb.proofs.work.play_source.Goals as goal

pub returns-in-Ok-clause-plays : goal.returns-in-Ok-clause-plays
returns-in-Ok-clause-plays g c words asked =
    let look = g.V.Volume.seen in
    let made = c.play_bytes.result in
    plays_read made.end.outcome c.args.tells words
    (seen g.S.Source.left g.S.Source.faults c.args.source.now)
    (seen g.S.Source.left g.S.Source.faults c.read_source.new.source) (look c.args.volume)
    (look made.volume) c.in-Ok.bytes.items made.trace.items made.end.text asked
    (record {
      short = c.in-Ok.ensures.short;
      taken = c.in-Ok.ensures.read;
      end = c.in-Ok.ensures.end;
    })
    (subst
    (λ (bytes : List ℕ). DealsWithBytes c.args.tells (look c.args.volume) (look made.volume) bytes
    made.end.outcome made.trace.items made.end.text) c.deref.ensures.value
    c.play_bytes.ensures.deals)

pub returns-in-Err-Failed-clause-asked : goal.returns-in-Err-Failed-clause-asked
returns-in-Err-Failed-clause-asked g c = none_asked g.O.Operator.answers c.args.operator
    c.bare.result.operator c.bare.result.trace.items c.bare.ensures.operator c.bare.ensures.trace

pub returns-in-Err-Long-clause-asked : goal.returns-in-Err-Long-clause-asked
returns-in-Err-Long-clause-asked g c = none_asked g.O.Operator.answers c.args.operator
    c.bare-in-Err-Long.result.operator c.bare-in-Err-Long.result.trace.items
    c.bare-in-Err-Long.ensures.operator c.bare-in-Err-Long.ensures.trace

pub returns-in-Err-NoMemory-clause-asked : goal.returns-in-Err-NoMemory-clause-asked
returns-in-Err-NoMemory-clause-asked g c = none_asked g.O.Operator.answers c.args.operator
    c.bare-in-Err-NoMemory.result.operator c.bare-in-Err-NoMemory.result.trace.items
    c.bare-in-Err-NoMemory.ensures.operator c.bare-in-Err-NoMemory.ensures.trace

pub returns-in-Err-Failed-clause-traced : goal.returns-in-Err-Failed-clause-traced
returns-in-Err-Failed-clause-traced g c =
    none_traced g.V.Volume.seen c.args.volume
    c.bare.result.volume c.bare.result.trace.items c.bare.ensures.volume c.bare.ensures.trace

pub returns-in-Err-Long-clause-traced : goal.returns-in-Err-Long-clause-traced
returns-in-Err-Long-clause-traced g c =
    none_traced g.V.Volume.seen c.args.volume
    c.bare-in-Err-Long.result.volume c.bare-in-Err-Long.result.trace.items
    c.bare-in-Err-Long.ensures.volume c.bare-in-Err-Long.ensures.trace

pub returns-in-Err-NoMemory-clause-traced : goal.returns-in-Err-NoMemory-clause-traced
returns-in-Err-NoMemory-clause-traced g c =
    none_traced g.V.Volume.seen c.args.volume
    c.bare-in-Err-NoMemory.result.volume c.bare-in-Err-NoMemory.result.trace.items
    c.bare-in-Err-NoMemory.ensures.volume c.bare-in-Err-NoMemory.ensures.trace
