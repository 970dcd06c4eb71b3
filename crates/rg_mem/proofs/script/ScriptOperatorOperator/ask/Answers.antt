use Rattle.std.proofs.Common.{◌∙◌, ap, arith}
use Rattle.rg_mem.specs.Script.{answer_at}
use Rattle.rg_mem.proofs.Asking.{one_answer}
use Rattle.rg_mem.proofs.script.ScriptOperatorOperator.ask.Goals as goal

-- The two lists of answers are those of the fields as the call finds them.
pub returns-then-self-lt18446744073709551615-clause-answered :
    goal.returns-then-self-lt18446744073709551615-clause-answered
returns-then-self-lt18446744073709551615-clause-answered c =
    rw (← c.self.view_is)
    (one_answer c.self.inside.lines.items c.self.inside.asks _ (omega arith)
    (c.line_at-answer.ensures
    ∙ ap (λ lines. answer_at lines c.self.inside.asks) c.deref.ensures.value))
