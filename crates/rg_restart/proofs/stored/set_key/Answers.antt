use Rattle.std.proofs.Common.{◌==◌, Option, if◌then◌else◌, ◌∙◌, sym, ap, arith}
use Rattle.std.specs.FinMap as map
use Rattle.std.specs.Option.{option_copied}
use Rattle.rg_base.specs.declared.row.Row.{Row}
use Rattle.rg_image.specs.Meaning.{has_key}
use Rattle.rg_restart.proofs.Stores.{key_set, set_few}
use Rattle.rg_restart.proofs.stored.set_key.Goals as goal

pub returns-in-Ok-clause-row : goal.returns-in-Ok-clause-row
returns-in-Ok-clause-row c = λ q.
    let old = map.get c.args.table.now q in
    ap (λ t. map.get t q) c.in-Ok.ensures.ok
    ∙ key_set c.args.table.now c.in-Some.row.now.key c.in_ok-copy.copy q
    ∙ ap (λ (r : Option Row). if c.in-Some.row.now.key == q then r else old) c.in_ok-copy.ensures
    ∙ ap (λ o. if has_key q (option_copied o) then option_copied c.args.after else old)
    (sym c.in-Some.is)

pub returns-in-Ok-clause-few : goal.returns-in-Ok-clause-few
returns-in-Ok-clause-few c = omega (
  arith,
  ap (λ t. map.len t) c.in-Ok.ensures.ok,
  set_few c.args.table.now c.in-Some.row.now.key c.in_ok-copy.copy,
)
