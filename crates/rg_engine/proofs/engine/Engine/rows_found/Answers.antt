use Rattle.std.proofs.Common.{◌+◌, List, [], ◌∷◌, ◌++◌, Option, sym, ◌∙◌, subst, arith}
use Rattle.rg_base.specs.declared.row.Row.{Row}
use Rattle.rg_engine.proofs.Readying.{Found, back_is, before_is, found_ends, found_next, no_other}
use Rattle.rg_engine.proofs.engine.Engine.rows_found.Goals as goal

pub record_at-requires : goal.record_at-requires
record_at-requires c =
    let w = c.requires.writes in
    (found_next c.args.self.now.log.records c.args.unit w.writes c.loop.at.0 c.loop.counter
    c.loop.rows.items (c.loop.invariant w.writes w.walks w.count) c.loop-test.true).low

pub unreachable-requires : goal.unreachable-requires
unreachable-requires c =
    let w = c.requires.writes in
    let n = found_next c.args.self.now.log.records c.args.unit w.writes c.loop.at.0 c.loop.counter
    c.loop.rows.items (c.loop.invariant w.writes w.walks w.count) c.loop-test.true in
    absurd (cc (c.in_default.ensures, n.there))

pub unreachable-requires-in_default-2 : goal.unreachable-requires-in_default-2
unreachable-requires-in_default-2 c =
    let w = c.requires.writes in
    let n = found_next c.args.self.now.log.records c.args.unit w.writes c.loop.at.0 c.loop.counter
    c.loop.rows.items (c.loop.invariant w.writes w.walks w.count) c.loop-test.true in
    no_other c.loop.at.0 c.args.unit.tran.0 n.back n.write c.in-Some.entry.now
    (c.in-Some.ensures ∙ n.there) (sym c.in_default-2.is ∙ c.in_ok-before.ensures)

pub loop-preserved : goal.loop-preserved
loop-preserved c = λ ws walks count.
    let records = c.args.self.now.log.records in
    let unit = c.args.unit in
    let i = c.loop.counter in
    let n = found_next records unit ws c.loop.at.0 i c.loop.rows.items
    (c.loop.invariant ws walks count) c.loop-test.true in
    let there = c.in-Some.ensures ∙ n.there in
    let is = before_is c.loop.at.0 unit.tran.0 n.back n.write c.in-Some.entry.now c.in-Some-2.before
    there (sym c.in-Some-2.is ∙ c.in_ok-before.ensures) in
    let back = back_is c.loop.at.0 unit.tran.0 n.back n.write c.in-Some.entry.now there in
    subst
    (λ (rows : List (Option Row)). Found records unit ws c.in-Some.entry.now.back.0 (i + 1) rows)
    (sym c.in_ok-push_back.ensures.items)
    (subst (λ at. Found records unit ws at (i + 1) (c.loop.rows.items ++ c.in-Some-2.before ∷ []))
    (sym back)
    (subst (λ (o : Option Row). Found records unit ws n.back (i + 1) (c.loop.rows.items ++ o ∷ []))
    (sym is) n.then_found))

pub returns : goal.returns
returns c = λ ws walks count. found_ends c.args.self.now.log.records c.args.unit ws c.loop.at.0
    c.loop.counter c.loop.rows.items (c.loop.invariant ws walks count)
    (omega (arith, c.loop-test.false))
