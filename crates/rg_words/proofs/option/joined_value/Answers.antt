use Rattle.std.proofs.Common.{◌++◌, ap, sym, ◌∙◌}
use Rattle.rg_words.proofs.Once.{not_joined}
use Rattle.rg_words.proofs.option.joined_value.Goals as goal

pub returns-clause-none : goal.returns-clause-none
returns-clause-none c =
    let strips = c.in_ok-strip_prefix.ensures.cases in
    let parts = strips.1.1 ∙ ap (λ t. c.args.name.now ++ t) (sym strips.2) in
    not_joined _ _ _ _ parts c.strip_prefix-2.ensures.cases
