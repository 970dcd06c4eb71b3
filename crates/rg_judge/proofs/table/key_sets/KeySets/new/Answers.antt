use Rattle.std.proofs.Common.{◌∙◌, ap}
use Rattle.std.specs.Ordering.{nat_cmp}
use Rattle.std.specs.FinMap.{get-empty}
use Rattle.rg_judge.specs.Table.Sets.{Sets, is_key_in, has_key}
use Rattle.rg_judge.proofs.table.key_sets.KeySets.new.Goals as goal

pub returns : goal.returns
returns c = λ number key. ap (λ (sets : Sets). is_key_in sets number key) c.new.ensures
    ∙ ap (λ s. has_key s key) (get-empty nat_cmp number)
