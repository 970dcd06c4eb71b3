use Rattle.std.proofs.Common.{◌∙◌, append_assoc}
use Rattle.rg_gen.proofs.summary.line.Goals as goal

pub returns-in-Ok : goal.returns-in-Ok
returns-in-Ok c =
    simp append_assoc (
    c.new.ensures
    ∙ simp (append_assoc, c.new-out.ensures.items, c.legal_word-word.ensures) at
    c.in-Ok.ensures.bytes)
