use Rattle.std.proofs.Common.{[], ◌∷◌, ◌++◌, List, sym, ap, subst}
use Rattle.std.specs.Prelude.{IfErr, IfOk}
use Rattle.std.proofs.lemmas.Result.{IfOk-weaker}
use Rattle.rg_desk.specs.Desk.{DeskState}
use Rattle.rg_stmt.specs.declared.line.Line.{Line}
use Rattle.rg_stmt.specs.declared.line.Line.TheVariants.{Death}
use Rattle.rg_phase.specs.declared.made.Made.{Made}
use Rattle.rg_run.specs.Parts.{Going, IsRun}
use Rattle.rg_run.specs.declared.played.RunEnd.{RunEnd}
use Rattle.rg_run.proofs.Again.{ends_wanting, going_on}
use Rattle.rg_run.proofs.Plays.{goes_flushed, goes_said, goes_shown, goes_stepped}
use Rattle.rg_run.proofs.Working.{opened_works, works_same}
use Rattle.rg_run.proofs.run.play_line.Goals as goal

pub returns-in-Ok-clause-goes : goal.returns-in-Ok-clause-goes
returns-in-Ok-clause-goes g c = λ first lines going.
    let look = g.V.Volume.seen in
    let answers = g.O.Operator.answers in
    subst (λ (line : Line). Going look answers first (lines ++ line ∷ []) c.exec.new.self)
    (sym c.in-Said.is)
    (going_on look first c.args.desk c.exec.new.self lines _ tt
    (λ base back goes. goes_said look g.met.V.Volume.told_faults base c.args.desk c.exec.new.self
    back goes c.in-Said.session c.in-Said.stmt c.in-Ok.ensures.made) going)

pub returns-in-Ok-show-clause-goes : goal.returns-in-Ok-show-clause-goes
returns-in-Ok-show-clause-goes g c = λ first lines going.
    let look = g.V.Volume.seen in
    let answers = g.O.Operator.answers in
    subst (λ (line : Line). Going look answers first (lines ++ line ∷ []) c.show.new.self)
    (sym c.in-Show.is)
    (going_on look first c.args.desk c.show.new.self lines _ tt
    (λ base back goes. goes_shown look g.met.V.Volume.told_faults base c.args.desk c.show.new.self
    back goes c.in-Ok-show.ensures.made) going)

pub returns-in-Ok-flush_one-clause-goes : goal.returns-in-Ok-flush_one-clause-goes
returns-in-Ok-flush_one-clause-goes g c = λ first lines going.
    let look = g.V.Volume.seen in
    let answers = g.O.Operator.answers in
    subst (λ (line : Line). Going look answers first (lines ++ line ∷ []) c.flush_one.new.self)
    (sym c.in-Flush.is)
    (going_on look first c.args.desk c.flush_one.new.self lines _ tt
    (λ base back goes. goes_flushed look g.met.V.Volume.told_faults base c.args.desk
    c.flush_one.new.self back goes c.in-Ok-flush_one.ensures.made) going)

pub returns-in-Ok-start-clause-goes : goal.returns-in-Ok-start-clause-goes
returns-in-Ok-start-clause-goes g c = λ first lines going.
    let look = g.V.Volume.seen in
    let answers = g.O.Operator.answers in
    subst (λ (line : Line). Going look answers first (lines ++ line ∷ []) c.start.new.desk)
    (sym c.in-Reorg.is)
    (going_on look first c.args.desk c.start.new.desk lines _ tt
    (λ base back goes. c.in-Ok-start.ensures.goes base back goes) going)

pub returns-in-Ok-step-clause-goes : goal.returns-in-Ok-step-clause-goes
returns-in-Ok-step-clause-goes g c = λ first lines going.
    let look = g.V.Volume.seen in
    let answers = g.O.Operator.answers in
    subst (λ (line : Line). Going look answers first (lines ++ line ∷ []) c.step.new.desk)
    (sym c.in-Step.is)
    (going_on look first c.args.desk c.step.new.desk lines _ tt
    (λ base back goes. goes_stepped look g.met.V.Volume.told_faults base c.args.desk c.step.new.desk
    back goes g.O.Operator.last _ _ c.in-Ok-step.ensures.stepped) going)

pub returns-in-Ok-step-clause-kept : goal.returns-in-Ok-step-clause-kept
returns-in-Ok-step-clause-kept g c = c.in-Ok-step.ensures.stepped.made.kept

pub returns-in-Death-clause-goes : goal.returns-in-Death-clause-goes
returns-in-Death-clause-goes g c =
    let look = g.V.Volume.seen in
    let answers = g.O.Operator.answers in
    IfOk-weaker c.reopen.result
    (λ next. (first : DeskState g.row.V.Denot g.row.O.Denot) (lines : List Line)
    → Going look answers first lines c.args.desk
    → Going look answers first (lines ++ Death ∷ []) next)
    (λ next. (first : DeskState g.row.V.Denot g.row.O.Denot) (lines : List Line)
    → Going look answers first lines c.args.desk
    → Going look answers first (lines ++ c.args.line ∷ []) next)
    (λ next goes first lines going.
    subst (λ (line : Line). Going look answers first (lines ++ line ∷ []) next) (sym c.in-Death.is)
    (goes first lines going)) c.reopen.ensures.goes

pub returns-in-Death-clause-ends : goal.returns-in-Death-clause-ends
returns-in-Death-clause-ends g c =
    let look = g.V.Volume.seen in
    let answers = g.O.Operator.answers in
    subst
    (λ (line : Line). IfErr c.reopen.result
    (λ played. (first : DeskState g.row.V.Denot g.row.O.Denot) (lines rest : List Line)
    → Going look answers first lines c.args.desk
    → IsRun look answers first (lines ++ line ∷ rest) (look played.volume) played.operator
    played.trace.items played.end))
    (sym c.in-Death.is) c.reopen.ensures.ends

pub returns-in-Err-clause-ends : goal.returns-in-Err-clause-ends
returns-in-Err-clause-ends g c = λ first lines rest going.
    let look = g.V.Volume.seen in
    let answers = g.O.Operator.answers in
    let left = c.close.ensures in
    let played = c.close.result in
    subst
    (λ (end : RunEnd). IsRun look answers first (lines ++ c.args.line ∷ rest) (look played.volume)
    played.operator played.trace.items end) (sym left.end)
    (ends_wanting look first c.exec.new.self lines
    (subst (Going look answers first lines) (sym c.in-Err.ensures.err) going) played.trace.items
    left.trace left.left left.sound (look played.volume) (ap look left.volume) played.operator
    left.operator (c.args.line ∷ rest))

pub returns-in-Err-show-clause-ends : goal.returns-in-Err-show-clause-ends
returns-in-Err-show-clause-ends g c = λ first lines rest going.
    let look = g.V.Volume.seen in
    let answers = g.O.Operator.answers in
    let left = c.close-in-Err-show.ensures in
    let played = c.close-in-Err-show.result in
    subst
    (λ (end : RunEnd). IsRun look answers first (lines ++ c.args.line ∷ rest) (look played.volume)
    played.operator played.trace.items end) (sym left.end)
    (ends_wanting look first c.show.new.self lines
    (subst (Going look answers first lines) (sym c.in-Err-show.ensures.err) going)
    played.trace.items left.trace left.left left.sound (look played.volume) (ap look left.volume)
    played.operator left.operator (c.args.line ∷ rest))

pub returns-in-Err-flush_one-clause-ends : goal.returns-in-Err-flush_one-clause-ends
returns-in-Err-flush_one-clause-ends g c = λ first lines rest going.
    let look = g.V.Volume.seen in
    let answers = g.O.Operator.answers in
    let left = c.close-in-Err-flush_one.ensures in
    let played = c.close-in-Err-flush_one.result in
    subst
    (λ (end : RunEnd). IsRun look answers first (lines ++ c.args.line ∷ rest) (look played.volume)
    played.operator played.trace.items end) (sym left.end)
    (ends_wanting look first c.flush_one.new.self lines
    (subst (Going look answers first lines) (sym c.in-Err-flush_one.ensures.err) going)
    played.trace.items left.trace left.left left.sound (look played.volume) (ap look left.volume)
    played.operator left.operator (c.args.line ∷ rest))

pub returns-in-Err-start-clause-ends : goal.returns-in-Err-start-clause-ends
returns-in-Err-start-clause-ends g c = λ first lines rest going.
    let look = g.V.Volume.seen in
    let answers = g.O.Operator.answers in
    let left = c.close-in-Err-start.ensures in
    let played = c.close-in-Err-start.result in
    subst
    (λ (end : RunEnd). IsRun look answers first (lines ++ c.args.line ∷ rest) (look played.volume)
    played.operator played.trace.items end) (sym left.end)
    (ends_wanting look first c.start.new.desk lines
    (subst (Going look answers first lines) (sym c.in-Err-start.ensures.err) going)
    played.trace.items left.trace left.left left.sound (look played.volume) (ap look left.volume)
    played.operator left.operator (c.args.line ∷ rest))

pub returns-in-Err-step-clause-ends : goal.returns-in-Err-step-clause-ends
returns-in-Err-step-clause-ends g c = λ first lines rest going.
    let look = g.V.Volume.seen in
    let answers = g.O.Operator.answers in
    let left = c.close-in-Err-step.ensures in
    let played = c.close-in-Err-step.result in
    subst
    (λ (end : RunEnd). IsRun look answers first (lines ++ c.args.line ∷ rest) (look played.volume)
    played.operator played.trace.items end) (sym left.end)
    (ends_wanting look first c.step.new.desk lines
    (subst (Going look answers first lines) (sym c.in-Err-step.ensures.err) going)
    played.trace.items left.trace left.left left.sound (look played.volume) (ap look left.volume)
    played.operator left.operator (c.args.line ∷ rest))

pub returns-in-Ok-clause-works : goal.returns-in-Ok-clause-works
returns-in-Ok-clause-works g c =
    works_same g.V.Volume.seen c.args.reorg.now.made c.args.inlet.now c.args.desk
    c.exec.new.self c.in-Ok.ensures.made.utility c.in-Ok.ensures.made.stays c.requires.works

pub returns-in-Ok-show-clause-works : goal.returns-in-Ok-show-clause-works
returns-in-Ok-show-clause-works g c =
    works_same g.V.Volume.seen c.args.reorg.now.made c.args.inlet.now c.args.desk
    c.show.new.self c.in-Ok-show.ensures.made.utility c.in-Ok-show.ensures.made.stays
    c.requires.works

pub returns-in-Ok-flush_one-clause-works : goal.returns-in-Ok-flush_one-clause-works
returns-in-Ok-flush_one-clause-works g c =
    works_same g.V.Volume.seen c.args.reorg.now.made c.args.inlet.now
    c.args.desk c.flush_one.new.self c.in-Ok-flush_one.ensures.made.utility
    c.in-Ok-flush_one.ensures.made.stays c.requires.works

pub returns-in-Ok-start-clause-works : goal.returns-in-Ok-start-clause-works
returns-in-Ok-start-clause-works g c = c.in-Ok-start.ensures.works c.args.inlet.now c.requires.works

pub returns-in-Death-clause-works : goal.returns-in-Death-clause-works
returns-in-Death-clause-works g c =
    opened_works g.V.Volume.seen c.reopen.result c.new.result.made c.reopen.new.inlet
    c.reopen.ensures.stage c.reopen.ensures.shadow c.reopen.ensures.behind
