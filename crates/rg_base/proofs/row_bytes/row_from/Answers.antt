use Rattle.std.proofs.Common.{◌≡◌, ℕ, List, length, rules, ap, ◌∙◌, drop, take}
use Rattle.rg_base.specs.Field.{field}
use Rattle.rg_base.proofs.RowBytes.{row_made, row_shown}
use Rattle.rg_base.proofs.row_bytes.row_from.Goals as goal

pub returns-clause-row : goal.returns-clause-row
returns-clause-row c =
    let text : c.new.result ≡ drop 26 c.args.bytes.now = search rules in
    let length_field : field 2 (length c.new.result) ≡ take 2 (drop 24 c.args.bytes.now) =
    ap (λ (xs : List ℕ). field 2 (length xs)) text ∙ c.requires.length in
    row_made _ c.args.bytes.now c.requires.long c.get_u64.ensures c.get_u64-2.ensures
    c.get_u64-3.ensures length_field text

pub returns-clause-shown : goal.returns-clause-shown
returns-clause-shown c =
    row_shown _ c.args.bytes.now (search rules) (search rules) (search rules) (returns-clause-row c)
