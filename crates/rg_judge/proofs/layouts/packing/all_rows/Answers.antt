use Rattle.std.proofs.Common.{◌≡◌, ℕ, true, List, [], ◌∷◌, ◌++◌, filter, map, refl, ◌∙◌, ap}
use Rattle.std.specs.FinMap as fin
use Rattle.rg_base.specs.declared.row.Row.{Row}
use Rattle.rg_base.proofs.Walk.{walk_begins}
use Rattle.rg_base.specs.Start.{start_of}
use Rattle.rg_model.proofs.Walked.{mapped_from, gathered-passes, gathered-ends}
use Rattle.rg_judge.proofs.layouts.packing.all_rows.Goals as goal

all_pass : (es : List (ℕ × Row)) → filter (λ e. true) es ≡ es
all_pass [] = refl
all_pass (e ∷ es) = ap (λ rest. e ∷ rest) (all_pass es)

pub loop-key-init : goal.loop-key-init
loop-key-init c =
    let table = c.args.table.now in
    ap
    (λ (done : List Row). done
    ++ mapped_from (λ (entry : ℕ × Row). entry.1) (λ (entry : ℕ × Row). true) table 0)
    c.new-rows.ensures.items
    ∙ ap (λ (es : List (ℕ × Row)). map (λ (entry : ℕ × Row). entry.1) es)
    (walk_begins (λ (entry : ℕ × Row). true) table (fin.entries table)
    ∙ all_pass (fin.entries table))

pub loop-key-preserved : goal.loop-key-preserved
loop-key-preserved c =
    let table = c.args.table.now in
    let entry : ℕ × Row = (c.in-Some.key, c.in-Some.row.now) in
    rw (c.in_ok-push.ensures.items, c.in_ok-copy.ensures)
    (gathered-passes (λ (entry : ℕ × Row). entry.1) (λ (entry : ℕ × Row). true) table
    (map (λ (entry : ℕ × Row). entry.1) (fin.entries table)) c.loop-key.rows.items
    (start_of c.loop-key.last) entry c.in-Some.ensures refl c.loop-key.invariant)

pub returns : goal.returns
returns c =
    let table = c.args.table.now in
    gathered-ends (λ (entry : ℕ × Row). entry.1) (λ (entry : ℕ × Row). true) table
    (map (λ (entry : ℕ × Row). entry.1) (fin.entries table)) c.loop-key.rows.items
    (start_of c.loop-key.last) c.in_default.ensures c.loop-key.invariant
