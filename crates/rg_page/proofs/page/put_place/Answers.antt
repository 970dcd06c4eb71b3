use Rattle.std.proofs.Common.{◌≡◌, ◌≤◌, ◌+◌, length, arith, sym, ap, ◌∙◌, List, take}
use Rattle.std.proofs.lemmas.List.{take_all}
use Rattle.rg_base.specs.declared.place.Place.{Place}
use Rattle.rg_home.specs.Pages.{altered}
use Rattle.rg_page.specs.Bare.{nowhere}
use Rattle.rg_page.proofs.Alter.{altered-set, altered-front, altered-end, length-altered_past}
use Rattle.rg_page.proofs.page.put_place.Goals as goal

pub returns-then-at-len-clause-items : goal.returns-then-at-len-clause-items
returns-then-at-len-clause-items c =
    c.truncate.ensures.items
    ∙ ap (λ (xs : List Place). take c.args.left xs)
    (sym
    (altered-set nowhere c.args.other c.args.others.now.items c.args.at
    (omega (arith, c.args.others.now.ok.0))))

pub returns-then-left-at-clause-items : goal.returns-then-left-at-clause-items
returns-then-left-at-clause-items c =
    let past : length c.args.others.now.items ≤ c.args.at = omega (arith, c.args.others.now.ok.0) in
    let few : c.args.left ≤ length c.args.others.now.items =
    omega (arith, c.requires.left.none (omega arith) (omega arith), c.args.others.now.ok.0) in
    c.truncate-then-left-at.ensures.items
    ∙ sym
    (altered-front nowhere (λ _. c.args.other) c.args.others.now.items c.args.at c.args.left few
    past)

pub returns-clause-items : goal.returns-clause-items
returns-clause-items c =
    let was = c.args.others.now.items in
    let past : length was ≤ c.args.at = omega (arith, c.args.others.now.ok.0) in
    let left : c.args.left ≡ c.args.at + 1 = c.requires.left.past (omega arith) (omega arith) in
    let whole = take_all c.args.left (altered nowhere (λ _. c.args.other) was c.args.at)
    (omega (arith, length-altered_past nowhere (λ _. c.args.other) was c.args.at past, left)) in
    c.push_within.ensures.items
    ∙ sym (altered-end nowhere (λ _. c.args.other) c.pad_places.new.others.items c.args.at
    (omega (arith, c.pad_places.ensures.count, c.pad_places.new.others.ok.0)))
    ∙ c.pad_places.ensures.same c.args.other ∙ sym whole
