use Rattle.std.proofs.Common.{◌==◌, rules, tests}
use Rattle.std.proofs.lemmas.Iterator.{YieldsList-from_slice}
use Rattle.std.proofs.lemmas.Iterator.Search.{all_from_yields_List}
use Rattle.rg_base.proofs.Dashes.{is_dashes-list_all}
use Rattle.rg_base.proofs.text.is_dashes.Goals as goal

pub returns : goal.returns
returns c =
    let all = all_from_yields_List (λ b. b == 45) _ _ c.all.result c.all.ensures.ran
    (YieldsList-from_slice c.args.bytes.now cc) (λ x b q k. search (rules, tests)) in
    rw is_dashes-list_all all
