use Rattle.std.proofs.Common.{◌≡◌, ◌≤◌, ◌+◌, ℕ, length, set, arith, sym, ap, ◌∙◌, [], List, take}
use Rattle.std.proofs.lemmas.List.{take_all}
use Rattle.std.specs.Option.{option_copied}
use Rattle.rg_home.specs.Pages.{altered}
use Rattle.rg_page.specs.Stretches.{filled_by, bytes_of}
use Rattle.rg_page.proofs.Alter.{altered-set, altered-front, altered-end, length-altered_past}
use Rattle.rg_page.proofs.Buffer.{filled_by-push, length-set_any, set-end, get_or-past}
use Rattle.rg_page.proofs.page.put_area.Goals as goal

pub truncate-requires : goal.truncate-requires
truncate-requires c =
    omega (
      arith,
      ap (λ (xs : List (List ℕ)). length xs) c.replace.ensures,
      length-set_any c.args.areas.now c.args.at (bytes_of (option_copied c.args.row)),
      c.requires.left.inside (omega arith),
    )

pub returns-then-at-len : goal.returns-then-at-len
returns-then-at-len c =
    let x = bytes_of (option_copied c.args.row) in
    c.truncate.ensures
    ∙ ap (λ (xs : List (List ℕ)). take c.args.left xs)
    (c.replace.ensures ∙ sym (altered-set [] x c.args.areas.now c.args.at (omega arith)))

pub returns-then-left-at : goal.returns-then-left-at
returns-then-left-at c =
    let past : length c.args.areas.now ≤ c.args.at = omega arith in
    let few : c.args.left ≤ length c.args.areas.now = c.requires.left.none past (omega arith) in
    c.truncate-then-left-at.ensures
    ∙ sym
    (altered-front [] (λ _. bytes_of (option_copied c.args.row)) c.args.areas.now c.args.at
    c.args.left few past)

pub replace-requires-2-clause-fits : goal.replace-requires-2-clause-fits
replace-requires-2-clause-fits c =
    let none = get_or-past c.args.areas.now c.args.at (omega arith) in
    omega (
      arith,
      ap filled_by c.push_empty.ensures,
      filled_by-push c.pad_areas.new.areas,
      c.pad_areas.ensures.filled,
      c.requires.fits,
      ap (λ (xs : List ℕ). length xs) none,
    )

pub returns : goal.returns
returns c =
    let was = c.args.areas.now in
    let x = bytes_of (option_copied c.args.row) in
    let past : length was ≤ c.args.at = omega arith in
    let left : c.args.left ≡ c.args.at + 1 = c.requires.left.past past (omega arith) in
    let whole = take_all c.args.left (altered [] (λ _. x) was c.args.at)
    (omega (arith, length-altered_past [] (λ _. x) was c.args.at past, left)) in
    c.replace-2.ensures
    ∙ ap (λ (xs : List (List ℕ)). set xs c.args.at x) c.push_empty.ensures
    ∙ set-end c.pad_areas.new.areas c.args.at x c.pad_areas.ensures.count
    ∙ sym (altered-end [] (λ _. x) c.pad_areas.new.areas c.args.at c.pad_areas.ensures.count)
    ∙ c.pad_areas.ensures.same x ∙ sym whole
