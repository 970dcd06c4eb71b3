use Rattle.std.proofs.Common.{◌≡◌, ◌++◌, replicate}
use Rattle.rg_stmt.specs.declared.line.Line.TheVariants as lines
use Rattle.rg_gen.specs.Deck.{step_count}
use Rattle.rg_gen.proofs.make.push_steps.Given as goal

-- what was appended, with the steps that are left, is all of them
abbrev pub invariant-loop-left : goal.invariant-loop-left
invariant-loop-left l =
    l.deck.items ++ replicate l.left lines.Step
    ≡ l.fn.deck.items ++ replicate (step_count l.rows) lines.Step

abbrev pub decreases-loop-left : goal.decreases-loop-left
decreases-loop-left l = l.left
