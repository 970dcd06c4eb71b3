use Rattle.std.proofs.Common.{◌≡◌, take, arith, sym, ◌∙◌}
use Rattle.rg_home.specs.Slots.{trim}
use Rattle.rg_home.proofs.Steps.{take-free, take-full, none}
use Rattle.rg_page.proofs.summary.cut.Goals as goal
use Rattle.rg_page.proofs.summary.cut.Goals.{then-loop-n-test+else-is_free, else-loop-n-test}

pub loop-n-preserved : goal.loop-n-preserved
loop-n-preserved c =
    let s = take-free c.args.headers.now.items c.loop-n.n c.index.result.now (omega arith)
    (omega arith) c.index.ensures (sym c.is_free.ensures ∙ c.if-is_free.true) in
    record { in_range = omega arith; same = s.0 ∙ c.loop-n.invariant.same }

pub returns-clause-items : goal.returns-clause-items
returns-clause-items c =
    let end : trim (take c.loop-n.n c.args.headers.now.items)
    ≡ take c.loop-n.n c.args.headers.now.items =
    elim c.loop-n-test.branch [
      | then-loop-n-test+else-is_free w ↦
          take-full c.args.headers.now.items c.loop-n.n w.index.result.now (omega arith)
          (omega arith) w.index.ensures (sym w.is_free.ensures ∙ w.if-is_free.false)
      | else-loop-n-test w ↦ none c.args.headers.now.items c.loop-n.n (omega arith)
    ] in
    c.truncate.ensures.items ∙ sym end ∙ c.loop-n.invariant.same
