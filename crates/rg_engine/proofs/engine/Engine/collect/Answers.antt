use Rattle.std.proofs.Common.{◌+◌, List, [], ◌∷◌, ◌++◌, sym, ◌∙◌, subst}
use Rattle.rg_record.specs.declared.record.Record.{Record}
use Rattle.rg_engine.specs.Undoing.{Collected}
use Rattle.rg_engine.proofs.Collecting.{collect_next, copied_is, not_change}
use Rattle.rg_engine.proofs.engine.Engine.collect.Goals as goal

pub record_at-requires : goal.record_at-requires
record_at-requires c =
    let w = c.requires.writes in
    (collect_next c.args.self.now.log.records c.args.unit w.writes c.loop.at.0 c.loop.counter
    c.loop.changes.items (c.loop.invariant w.writes w.walks w.count) c.loop-test.true).low

pub unreachable-requires : goal.unreachable-requires
unreachable-requires c =
    let w = c.requires.writes in
    let n = collect_next c.args.self.now.log.records c.args.unit w.writes c.loop.at.0 c.loop.counter
    c.loop.changes.items (c.loop.invariant w.writes w.walks w.count) c.loop-test.true in
    absurd (cc (c.in_default.ensures, n.found))

pub unreachable-requires-in_default-2 : goal.unreachable-requires-in_default-2
unreachable-requires-in_default-2 c =
    let w = c.requires.writes in
    let n = collect_next c.args.self.now.log.records c.args.unit w.writes c.loop.at.0 c.loop.counter
    c.loop.changes.items (c.loop.invariant w.writes w.walks w.count) c.loop-test.true in
    not_change c.loop.at.0 c.args.unit.tran.0 n.back n.write c.in-Some.entry.now
    (c.in-Some.ensures ∙ n.found) (sym c.in_default-2.is ∙ c.in_ok-copy.ensures)

pub loop-preserved : goal.loop-preserved
loop-preserved c = λ ws walks count.
    let records = c.args.self.now.log.records in
    let unit = c.args.unit in
    let i = c.loop.counter in
    let n = collect_next records unit ws c.loop.at.0 i c.loop.changes.items
    (c.loop.invariant ws walks count) c.loop-test.true in
    let is = copied_is c.loop.at.0 unit.tran.0 n.back n.write c.in-Some.entry.now c.in-Some-2.copy
    (c.in-Some.ensures ∙ n.found) (sym c.in-Some-2.is ∙ c.in_ok-copy.ensures) in
    subst (λ (cs : List Record). Collected records unit ws c.in-Some-2.copy.back.0 (i + 1) cs)
    (sym c.in_ok-push.ensures.items)
    (subst
    (λ (r : Record). Collected records unit ws r.back.0 (i + 1) (c.loop.changes.items ++ r ∷ []))
    (sym is) n.then_collected)
