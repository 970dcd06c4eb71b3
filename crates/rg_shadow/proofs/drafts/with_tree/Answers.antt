use Rattle.std.proofs.Common.{sym, subst, ap, ◌∙◌}
use Rattle.rg_index.specs.Listed.{IsListingOf}
use Rattle.rg_index.specs.RisingPart.{rising_part}
use Rattle.rg_index.proofs.Lists.{rising_part-rising}
use Rattle.rg_shadow.specs.Drafts.{IsKept}
use Rattle.rg_shadow.proofs.drafts.with_tree.Goals as goal

pub returns-clause-kept : goal.returns-clause-kept
returns-clause-kept c = λ which rows kept.
    let listed = subst (IsKept which rows) c.in-Sorted.is kept in
    subst (IsListingOf which rows)
    (sym
    (ap rising_part (c.in_ok-build-in-Sorted.ensures ∙ c.as_slice.ensures)
    ∙ rising_part-rising c.in-Sorted.list listed.0))
    listed.1
