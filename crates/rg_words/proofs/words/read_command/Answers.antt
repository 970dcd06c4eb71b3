use Rattle.std.proofs.Common.{◌≡◌}
use Rattle.std.specs.Prelude.{codes, string_bytes}
use Rattle.rg_words.proofs.Once.{no_gen}
use Rattle.rg_words.proofs.words.read_command.Goals as goal

pub returns-in_err-seed-in-gen-clause-none : goal.returns-in_err-seed-in-gen-clause-none
returns-in_err-seed-in-gen-clause-none c =
    let split = c.in_ok-command.ensures.cases in
    let gen : string_bytes c.in_ok-command.command.now ≡ codes "gen" = cc (c.in-gen.is) in
    rw c.from_residual-in_err-seed-in-gen.ensures
    (no_gen _ _ _ _ split.0 gen c.in_err-seed-in-gen.ensures.none)
