use Rattle.std.proofs.Common.{ap, ◌∙◌}
use Rattle.rg_opts.specs.Statement.{texts}
use Rattle.rg_opts.proofs.Split.{parts}
use Rattle.rg_opts.proofs.AnswerLines.{answer_utf8, finds}
use Rattle.rg_opts.proofs.operator.read_line.Goals as goal

pub returns-in_default : goal.returns-in_default
returns-in_default c = λ answer is. c.in_default.ensures.cases.0 (answer_utf8 _ answer is)

pub returns : goal.returns
returns c =
    let words = ap texts c.deref.ensures.value ∙ c.in_ok-words.ensures
    ∙ ap (λ bytes. parts 32 bytes) c.in-Ok.ensures.cases.0 in
    finds _ _ _ words c.read_answer.ensures.none c.read_answer.ensures.found
