use Rattle.std.proofs.Common.{◌++◌, ◌∷◌, List, sym, ◌∙◌, subst}
use Rattle.rg_desk.specs.Chronicle.{IsRecorded}
use Rattle.rg_restart.specs.Opening.{IsRefused, OpensStored}
use Rattle.rg_stmt.specs.declared.event.Entry.{Entry}
use Rattle.rg_run.specs.Parts.{IsRun}
use Rattle.rg_stmt.specs.declared.line.Line.TheVariants.{Death}
use Rattle.rg_run.specs.declared.played.RunEnd.{RunEnd}
use Rattle.rg_phase.proofs.Receiving.{behind_all}
use Rattle.rg_run.proofs.Again.{going_again, refused_again}
use Rattle.rg_run.proofs.run.reopen.Goals as goal

pub returns-in-Ok-clause-goes : goal.returns-in-Ok-clause-goes
returns-in-Ok-clause-goes g c = λ first lines going.
    let look = g.V.Volume.seen in
    let answers = g.O.Operator.answers in
    let parts = c.into_parts-volume.ensures in
    let count = c.into_parts-volume.result.3 in
    going_again look first c.args.desk lines going parts.left parts.legal count
    (subst (λ (es : List Entry). IsRecorded es count) parts.trace parts.recorded) parts.counted
    c.into_parts-volume.result.1 parts.operator c.in-Ok.desk
    (subst (λ v. OpensStored look (look v) c.into_parts-volume.result.1 c.in-Ok.desk) parts.volume
    c.in-Ok.ensures.opens)
    (c.in-Ok.ensures.older ∙ parts.trace)

pub returns-in-Ok-clause-kept : goal.returns-in-Ok-clause-kept
returns-in-Ok-clause-kept g c = c.in-Ok.ensures.opens.opens.kept

pub returns-in-Ok-clause-shadow : goal.returns-in-Ok-clause-shadow
returns-in-Ok-clause-shadow g c = c.in-Ok.ensures.opens.opens.shadow

pub returns-in-Ok-clause-stage : goal.returns-in-Ok-clause-stage
returns-in-Ok-clause-stage g c = c.in-Ok.ensures.opens.opens.stage

pub returns-in-Ok-clause-behind : goal.returns-in-Ok-clause-behind
returns-in-Ok-clause-behind g c =
    behind_all c.in-Ok.opened.items c.in-Ok.desk.feed
    (c.in-Ok.ensures.received ∙ sym c.in-Ok.ensures.opens.opens.feed)

pub returns-in-Err-clause-ends : goal.returns-in-Err-clause-ends
returns-in-Err-clause-ends g c = λ first lines rest going.
    let look = g.V.Volume.seen in
    let answers = g.O.Operator.answers in
    let parts = c.into_parts-volume.ensures in
    let count = c.into_parts-volume.result.3 in
    let left = c.refused.ensures in
    let seen = look c.in-Err.fault.volume in
    subst
    (λ v. IsRun look answers first (lines ++ Death ∷ rest) (look v) c.refused.result.operator
    c.refused.result.trace.items c.refused.result.end) (sym left.volume) (subst
    (λ (end : RunEnd). IsRun look answers first (lines ++ Death ∷ rest) seen
    c.refused.result.operator c.refused.result.trace.items end) (sym left.end)
    (refused_again look first c.args.desk lines going parts.left parts.legal count
    (subst (λ (es : List Entry). IsRecorded es count) parts.trace parts.recorded) parts.counted
    seen c.in-Err.fault.end c.refused.result.operator c.refused.result.trace.items rest
    (left.operator ∙ c.in-Err.ensures.operator ∙ parts.operator)
    (left.trace ∙ c.in-Err.ensures.trace ∙ parts.trace) parts.sound
    (g.met.V.Volume.told_faults c.args.desk.volume)
    (g.met.V.Volume.told_faults c.in-Err.fault.volume)
    (subst (λ v. IsRefused (look v) seen c.in-Err.fault.end) parts.volume
    c.in-Err.ensures.refused)))
