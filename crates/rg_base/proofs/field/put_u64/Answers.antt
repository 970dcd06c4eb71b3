use Rattle.std.proofs.Common.{◌++◌, ◌+◌, List, ℕ, ap, ◌∙◌, length, take, drop}
use Rattle.rg_base.specs.Field.{field}
use Rattle.rg_base.proofs.field.put_u64.Goals as goal

pub returns : goal.returns
unfolding field
returns c =
    let into : List ℕ = c.args.into.now in
    let at : ℕ = c.args.at in
    c.put_bytes.ensures
    ∙ ap (λ (xs : List ℕ). take at into ++ (xs ++ drop (at + length xs) into)) c.write_u64.ensures
