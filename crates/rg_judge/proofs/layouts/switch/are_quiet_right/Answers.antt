use Rattle.std.proofs.Common.{◌∙◌}
use Rattle.rg_judge.proofs.LayoutsLemmas.Clustering.{quiet-right}
use Rattle.rg_judge.proofs.layouts.switch.are_quiet_right.Goals as goal

pub returns : goal.returns
returns c = λ past is. c.quiet_rise.ensures ∙ quiet-right past c.args.tally.now c.args.spots.now is
