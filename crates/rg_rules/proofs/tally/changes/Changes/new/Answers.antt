use Rattle.std.proofs.Common.{ℕ, List, ap, rules}
use Rattle.rg_rules.specs.Tally.Changed.{ChangeCount}
use Rattle.rg_rules.proofs.tally.changes.Changes.new.Goals as goal

pub returns : goal.returns
returns c =
    let items = c.in_ok-vec.ensures.items_if_clones_equal (λ y is. search rules) in
    ap
    (λ (writes : List ℕ). let count : ChangeCount = record { since = 0; writes = writes } in count)
    items
