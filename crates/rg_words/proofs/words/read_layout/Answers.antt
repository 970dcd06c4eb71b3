use Rattle.rg_words.proofs.Once.{no_layout}
use Rattle.rg_words.proofs.words.read_layout.Goals as goal

pub returns-in_err-only_option-clause-none : goal.returns-in_err-only_option-clause-none
returns-in_err-only_option-clause-none c =
    rw c.from_residual.ensures
    (no_layout _ _ c.if-is_empty.ensures c.in_err-only_option.ensures.none)
