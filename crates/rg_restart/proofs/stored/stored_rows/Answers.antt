use Rattle.std.proofs.Common.{Option, ◌∙◌, ap, arith}
use Rattle.std.specs.FinMap as map
use Rattle.std.specs.FinMap.{get-empty, len-empty}
use Rattle.std.specs.Ordering.{nat_cmp}
use Rattle.rg_base.specs.declared.row.Row.{Row}
use Rattle.rg_image.specs.Meaning.{last_made}
use Rattle.rg_restart.specs.Stored.{made_over}
use Rattle.rg_restart.proofs.Stores.{made_of_none}
use Rattle.rg_restart.proofs.stored.stored_rows.Goals as goal

pub loop-at-init : goal.loop-at-init
loop-at-init c =
    let rs = c.args.records.now in
    record {
      rows = λ key.
          ap (λ m. made_over (last_made rs rs key) (map.get m key)) c.new-table.ensures
          ∙ ap (λ (row : Option Row). made_over (last_made rs rs key) row)
          (get-empty {X = Row} nat_cmp key)
          ∙ made_of_none (last_made rs rs key);
      few = omega (arith, ap (λ m. map.len m) c.new-table.ensures, len-empty nat_cmp Row);
      low = omega arith;
    }
