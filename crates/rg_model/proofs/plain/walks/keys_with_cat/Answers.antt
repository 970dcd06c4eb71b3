use Rattle.std.proofs.Common.{◌==◌, ℕ, true, false, ◌∙◌}
use Rattle.std.proofs.lemmas.Bool.{eq-eqb, ne_eqb}
use Rattle.rg_base.specs.declared.row.Row.{Row}
use Rattle.rg_model.specs.Plain.{keys_with_cat}
use Rattle.rg_base.specs.Start.{start_of}
use Rattle.rg_model.proofs.Walked.{gathered-passes, gathered-fails, gathered-ends}
use Rattle.rg_model.proofs.plain.walks.keys_with_cat.Goals as goal

pub loop-key-preserved-in_ok-push : goal.loop-key-preserved-in_ok-push
loop-key-preserved-in_ok-push c =
    let key = λ (entry : ℕ × Row). entry.0 in
    let test = λ (entry : ℕ × Row). entry.1.cat == c.args.cat in
    let table = c.args.table.now in
    let all = keys_with_cat c.args.cat table in
    let entry : ℕ × Row = (c.in-Some.key, c.in-Some.row.now) in
    rw c.in_ok-push.ensures.items
    (gathered-passes key test table all c.loop-key.keys.items (start_of c.loop-key.last) entry
    c.in-Some.ensures (eq-eqb entry.1.cat c.args.cat c.if-row-cat.true) c.loop-key.invariant)

pub loop-key-preserved : goal.loop-key-preserved
loop-key-preserved c =
    let key = λ (entry : ℕ × Row). entry.0 in
    let test = λ (entry : ℕ × Row). entry.1.cat == c.args.cat in
    let table = c.args.table.now in
    let all = keys_with_cat c.args.cat table in
    let entry : ℕ × Row = (c.in-Some.key, c.in-Some.row.now) in
    gathered-fails key test table all c.loop-key.keys.items (start_of c.loop-key.last) entry
    c.in-Some.ensures (ne_eqb entry.1.cat c.args.cat c.if-row-cat.false) c.loop-key.invariant

pub returns : goal.returns
returns c =
    c.new.ensures
    ∙ gathered-ends (λ (entry : ℕ × Row). entry.0) (λ (entry : ℕ × Row). entry.1.cat == c.args.cat)
    c.args.table.now (keys_with_cat c.args.cat c.args.table.now)
    c.loop-key.keys.items (start_of c.loop-key.last) c.in_default.ensures c.loop-key.invariant
