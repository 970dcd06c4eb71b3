use Rattle.std.proofs.Common.{◌≡◌, ◌∙◌, sym, subst, IfOk, false, ◌∷◌, ◌++◌, if◌then◌else◌}
use Rattle.std.proofs.Common.{codes}
use Rattle.std.specs.Fmt.{decimal}
use Rattle.std.specs.String.{string_bytes}
use Rattle.rg_file.specs.Sizes.{is_standard}
use Rattle.rg_file.proofs.sizes.Sizes.file_name.Goals as goal

pub returns-else-is_standard : goal.returns-else-is_standard
returns-else-is_standard c =
    let sizes = c.args.self.now in
    let other : is_standard sizes ≡ false = sym c.is_standard.ensures ∙ c.if-is_standard.false in
    subst (λ here. IfOk c.format-else-is_standard.result (λ name. string_bytes name ≡
    (if here then codes "reorgdb.vol"
    else codes "reorgdb-" ++ (decimal sizes.log ++ 45 ∷ (decimal sizes.copy ++ codes ".vol")))))
    (sym other) c.format-else-is_standard.ensures.ok
