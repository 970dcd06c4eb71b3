use Rattle.std.proofs.Common.{ℕ, List, ◌++◌, ap, ◌∙◌, arith}
use Rattle.std.proofs.lemmas.List.{take-replicate}
use Rattle.rg_page.proofs.bytes.write.add_zeros.Goals as goal

pub returns-clause-bytes : goal.returns-clause-bytes
returns-clause-bytes c =
    c.add.ensures.bytes
    ∙ ap (λ (zeros : List ℕ). c.args.page.now ++ zeros)
    (take-replicate {X = ℕ} c.args.count 4096 0 (omega (arith, c.requires)))
