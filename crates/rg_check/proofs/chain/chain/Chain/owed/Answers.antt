use Rattle.std.proofs.Common.{◌∙◌, ap}
use Rattle.rg_check.specs.Chain.Running.{Running, no_unit}
use Rattle.rg_check.proofs.ChainLemmas.Walks.{owed_is}
use Rattle.rg_check.proofs.chain.chain.Chain.owed.Goals as goal

pub returns-clause-owed : goal.returns-clause-owed
returns-clause-owed c = λ before kept.
    ap (λ (r : Running). r.owed) c.self.view_is
    ∙ owed_is before c.args.self.now.units c.args.self.now.owed kept.units no_unit
