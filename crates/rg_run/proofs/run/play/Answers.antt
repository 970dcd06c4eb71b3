use Rattle.std.proofs.Common.{◌≡◌, ◌+◌, ℕ, List, [], ◌∷◌, ◌++◌, length, sym, ◌∙◌, ap, subst, arith}
use Rattle.std.proofs.Common.{append_assoc, append-nil}
use Rattle.std.specs.List.{AllByRecursion}
use Rattle.rg_stmt.specs.declared.line.Line.{Line}
use Rattle.rg_run.specs.Parts.{IsRun}
use Rattle.rg_run.specs.Played.{IsPlayed}
use Rattle.rg_run.specs.declared.played.RunEnd.{RunEnd}
use Rattle.rg_run.specs.declared.played.RunEnd.TheVariants.{Whole, Down}
use Rattle.rg_run.proofs.Again.{ends_down, ends_up}
use Rattle.rg_run.proofs.run.play.Goals as goal

one_fewer : (n : ℕ) (m : ℕ) (line : Line) (rest all : List Line) → n + 1 ≡ m → m ≡ length all
    → all ≡ line ∷ rest → n ≡ length rest
one_fewer n m line rest all e f g = let h : length all ≡ length (line ∷ rest) = ap length g in
    omega arith

pub loop-line-preserved : goal.loop-line-preserved
loop-line-preserved g c =
    let steps = c.in-Some.ensures.steps in
    record {
      going = c.in-Ok.ensures.goes c.args.desk c.loop-line.yielded c.loop-line.invariant.going;
      rest = append_assoc c.loop-line.yielded (c.in-Some.line ∷ []) _
          ∙ ap (λ rest. c.loop-line.yielded ++ rest) (sym steps.0) ∙ c.loop-line.invariant.rest;
      left = one_fewer _ _ c.in-Some.line _ _ steps.1 c.loop-line.invariant.left steps.0;
      kept = c.in-Ok.ensures.kept;
      ring = c.in-Ok.ensures.ring;
      works = c.in-Ok.ensures.works;
      lines = (subst (AllByRecursion IsPlayed) steps.0 c.loop-line.invariant.lines).1;
    }

nothing_left : (yielded rest all : List Line) (n : ℕ) → n ≡ 0 → n ≡ length rest
    → yielded ++ rest ≡ all → yielded ≡ all
nothing_left yielded [] all n none left is = sym (append-nil yielded) ∙ is
nothing_left yielded (line ∷ rest) all n none left is = absurd (omega arith)

pub returns-in-Err : goal.returns-in-Err
returns-in-Err g c =
    let look = g.V.Volume.seen in
    let answers = g.O.Operator.answers in
    let played = c.in-Err.played in
    subst
    (λ (lines : List Line). IsRun look answers c.args.desk lines (look played.volume)
    played.operator played.trace.items played.end)
    (ap (λ rest. c.loop-line.yielded ++ rest) (sym c.in-Some.ensures.steps.0)
    ∙ c.loop-line.invariant.rest)
    (c.in-Err.ensures.ends c.args.desk c.loop-line.yielded _ c.loop-line.invariant.going)

pub returns-then-down : goal.returns-then-down
returns-then-down g c =
    let look = g.V.Volume.seen in
    let answers = g.O.Operator.answers in
    let desk = c.loop-line.desk in
    let lines = c.args.lines.items in
    let all = nothing_left c.loop-line.yielded _ lines _ c.in-None.ensures.steps.0
    c.loop-line.invariant.left c.loop-line.invariant.rest in
    let down = sym c.down.ensures.is ∙ c.if-down.true in
    let left = c.close.ensures in
    let played = c.close.result in
    subst
    (λ (end : RunEnd). IsRun look answers c.args.desk lines (look played.volume) played.operator
    played.trace.items end) (sym left.end) (subst
    (λ (ls : List Line). IsRun look answers c.args.desk ls (look played.volume) played.operator
    played.trace.items Down) all
    (ends_down look c.args.desk desk c.loop-line.yielded c.loop-line.invariant.going
    played.trace.items left.trace left.left left.sound (look played.volume) (ap look left.volume)
    played.operator left.operator down (c.down.ensures.ends down)))

pub returns : goal.returns
returns g c =
    let look = g.V.Volume.seen in
    let answers = g.O.Operator.answers in
    let desk = c.loop-line.desk in
    let lines = c.args.lines.items in
    let all = nothing_left c.loop-line.yielded _ lines _ c.in-None.ensures.steps.0
    c.loop-line.invariant.left c.loop-line.invariant.rest in
    let left = c.close-2.ensures in
    let played = c.close-2.result in
    let rows = c.committed_rows-rows.result in
    subst
    (λ (end : RunEnd). IsRun look answers c.args.desk lines (look played.volume) played.operator
    played.trace.items end) (sym left.end) (subst
    (λ (ls : List Line). IsRun look answers c.args.desk ls (look played.volume) played.operator
    played.trace.items (Whole rows)) all
    (ends_up look c.args.desk desk c.loop-line.yielded c.loop-line.invariant.going
    played.trace.items left.trace left.left left.sound (look played.volume) (ap look left.volume)
    played.operator left.operator rows c.committed_rows-rows.ensures))
