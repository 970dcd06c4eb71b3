use Rattle.std.proofs.Common.{◌<◌, length, arith, ap, ◌∙◌, ◌∷◌, [], List, length-append}
use Rattle.rg_base.specs.declared.place.Place.{Place}
use Rattle.rg_home.specs.Pages.{altered}
use Rattle.rg_page.specs.Bare.{nowhere}
use Rattle.rg_page.proofs.Alter.{altered-more}
use Rattle.rg_page.proofs.page.pad_places.Goals as goal

pub loop-others-preserved : goal.loop-others-preserved
loop-others-preserved c =
    let was = c.loop-others.others.items in
    let below : length was < c.args.count = omega (arith, c.loop-others.others.ok.0) in
    let is = c.push_within.ensures.items in
    record {
      in_range = omega
          (arith, ap (λ (xs : List Place). length xs) is, length-append was (nowhere ∷ []), below);
      capacity = omega (arith, c.push_within.ensures.capacity, c.loop-others.invariant.capacity);
      same = λ x. ap (λ (xs : List Place). altered nowhere (λ _. x) xs c.args.count) is
          ∙ altered-more nowhere (λ _. x) was c.args.count below ∙ c.loop-others.invariant.same x;
    }
