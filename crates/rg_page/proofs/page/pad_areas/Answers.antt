use Rattle.std.proofs.Common.{◌<◌, ℕ, length, arith, ap, ◌∙◌, ◌∷◌, [], List, length-append}
use Rattle.rg_home.specs.Pages.{altered}
use Rattle.rg_page.specs.Stretches.{filled_by}
use Rattle.rg_page.proofs.Alter.{altered-more}
use Rattle.rg_page.proofs.Buffer.{filled_by-push}
use Rattle.rg_page.proofs.page.pad_areas.Goals as goal

pub loop-areas-preserved : goal.loop-areas-preserved
loop-areas-preserved c =
    let was = c.loop-areas.areas in
    let below : length was < c.args.count = omega arith in
    let is = c.push_empty.ensures in
    record {
      in_range = omega
          (arith, ap (λ (xs : List (List ℕ)). length xs) is, length-append was ([] ∷ []), below);
      filled = ap filled_by is ∙ filled_by-push was ∙ c.loop-areas.invariant.filled;
      same = λ x. ap (λ (xs : List (List ℕ)). altered [] (λ _. x) xs c.args.count) is
          ∙ altered-more [] (λ _. x) was c.args.count below ∙ c.loop-areas.invariant.same x;
    }
