use Rattle.std.proofs.Common.{subst, sym}
use Rattle.rg_run.specs.Judged.{Settles}
use Rattle.rg_run.specs.declared.played.JudgedEnd.{JudgedEnd}
use Rattle.rg_run.proofs.Judging.{settles_by}
use Rattle.rg_run.proofs.run.settle.Goals as goal

pub returns-in-Ok-judge-clause-settled : goal.returns-in-Ok-judge-clause-settled
returns-in-Ok-judge-clause-settled g c =
    let played = c.args.played in
    subst
    (λ (e : JudgedEnd). Settles c.args.start played.trace.items played.end e.end e.verdict)
    (sym c.ended.ensures.end)
    (settles_by c.args.start c.in-Ok.table c.in-Ok.is played.trace.items c.deref.result.now
    c.deref.ensures.value played.end c.in-Ok-judge.verdict c.in-Ok-judge.ensures.legal
    c.in-Ok-judge.ensures.refused)
