use Rattle.std.proofs.Common.{◌&&◌, nat_le, ℕ, sym, ◌∙◌}
use Rattle.rg_base.specs.declared.row.Row.{Row}
use Rattle.rg_model.specs.Plain.{rows_between}
use Rattle.rg_base.specs.Start.{start_of}
use Rattle.rg_model.proofs.Walked.{gathered-passes, gathered-fails, gathered-ends}
use Rattle.rg_model.proofs.plain.walks.rows_between.Goals as goal

pub loop-key-preserved-in_ok-push : goal.loop-key-preserved-in_ok-push
loop-key-preserved-in_ok-push c =
    let row = λ (entry : ℕ × Row). entry.1 in
    let test = λ (entry : ℕ × Row). nat_le c.args.lo entry.0 && nat_le entry.0 c.args.hi in
    let table = c.args.table.now in
    let all = rows_between c.args.lo c.args.hi table in
    let entry : ℕ × Row = (c.in-Some.key, c.in-Some.row.now) in
    rw (c.in_ok-push.ensures.items, c.in_ok-copy.ensures)
    (gathered-passes row test table all c.loop-key.rows.items (start_of c.loop-key.last) entry
    c.in-Some.ensures (sym c.is_between.ensures ∙ c.if-is_between.true) c.loop-key.invariant)

pub loop-key-preserved : goal.loop-key-preserved
loop-key-preserved c =
    let row = λ (entry : ℕ × Row). entry.1 in
    let test = λ (entry : ℕ × Row). nat_le c.args.lo entry.0 && nat_le entry.0 c.args.hi in
    let table = c.args.table.now in
    let all = rows_between c.args.lo c.args.hi table in
    let entry : ℕ × Row = (c.in-Some.key, c.in-Some.row.now) in
    gathered-fails row test table all c.loop-key.rows.items (start_of c.loop-key.last) entry
    c.in-Some.ensures (sym c.is_between.ensures ∙ c.if-is_between.false) c.loop-key.invariant

pub returns : goal.returns
returns c =
    c.new.ensures
    ∙ gathered-ends (λ (entry : ℕ × Row). entry.1)
    (λ (entry : ℕ × Row). nat_le c.args.lo entry.0 && nat_le entry.0 c.args.hi) c.args.table.now
    (rows_between c.args.lo c.args.hi c.args.table.now) c.loop-key.rows.items
    (start_of c.loop-key.last) c.in_default.ensures c.loop-key.invariant
