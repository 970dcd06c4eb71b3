use Rattle.std.proofs.Common.{sym, ◌∙◌, ap}
use Rattle.rg_record.specs.Spelling.{kind_size}
use Rattle.rg_record.proofs.size.kind_size.Goals as goal

pub returns-in-Change-clause-size : goal.returns-in-Change-clause-size
returns-in-Change-clause-size c = c.change_size.ensures.size _ ∙ ap kind_size (sym c.in-Change.is)
