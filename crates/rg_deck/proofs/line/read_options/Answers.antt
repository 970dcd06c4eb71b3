use Rattle.std.proofs.Common.{ap, ◌∙◌}
use Rattle.rg_opts.specs.Statement.{texts}
use Rattle.rg_opts.proofs.Split.{parts}
use Rattle.rg_deck.proofs.Texts.{control_utf8, finds_options}
use Rattle.rg_deck.proofs.line.read_options.Goals as goal

pub returns-in_default : goal.returns-in_default
returns-in_default c = λ options of. c.in_default.ensures.cases.0 (control_utf8 options _ of)

pub returns : goal.returns
returns c =
    let words = ap texts c.deref.ensures.value ∙ c.in_ok-words.ensures
    ∙ ap (λ bytes. parts 32 bytes) c.in-Ok.ensures.cases.0 in
    rw c.ok.ensures.value
    (finds_options _ _ _ words c.read_control.ensures.options c.read_control.ensures.fault)
