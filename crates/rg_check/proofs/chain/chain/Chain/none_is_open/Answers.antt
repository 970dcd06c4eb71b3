use Rattle.std.proofs.Common.{◌≡◌, sym, ◌∙◌, ap}
use Rattle.std.proofs.lemmas.Bool.{eqb-true, eq-eqb}
use Rattle.rg_check.specs.Chain.Running.{Running}
use Rattle.rg_check.proofs.ChainLemmas.Units.{none_open, owed_none}
use Rattle.rg_check.proofs.chain.chain.Chain.none_is_open.Goals as goal

pub returns : goal.returns
returns c = λ before kept.
    let owed : c.self.inside.owed ≡ c.args.self.now.owed =
    ap (λ (r : Running). r.owed) c.self.view_is in (
      λ is. none_open before c.args.self.now.units c.args.self.now.owed kept.units
          (sym owed ∙ eqb-true c.self.inside.owed 0 is),
      λ none. eq-eqb c.self.inside.owed 0
          (owed ∙ owed_none before c.args.self.now.units c.args.self.now.owed kept.units none),
    )
