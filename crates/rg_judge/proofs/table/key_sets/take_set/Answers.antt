use Rattle.std.proofs.Common.{◌∙◌, ap, is_some}
use Rattle.std.specs.Ordering.{nat_cmp}
use Rattle.std.specs.FinMap as map
use Rattle.std.specs.FinMap.{get-empty}
use Rattle.rg_judge.specs.Table.Sets.{Set, has_key}
use Rattle.rg_judge.proofs.table.key_sets.take_set.Goals as goal

pub returns-in-None-clause-keys : goal.returns-in-None-clause-keys
returns-in-None-clause-keys c = λ key.
    ap (λ (set : Set). map.contains_key set key) c.new.ensures
    ∙ ap is_some (get-empty nat_cmp key)
    ∙ ap (λ s. has_key s key) c.in-None.ensures.before
