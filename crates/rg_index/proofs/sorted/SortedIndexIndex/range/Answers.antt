use Rattle.std.proofs.Common.{sym, ◌∙◌, ap, ◌++◌}
use Rattle.rg_index.specs.Entries.{entries_within}
use Rattle.rg_index.proofs.Kept.{shown_is}
use Rattle.rg_index.proofs.sorted.SortedIndexIndex.range.Goals as goal

pub returns : goal.returns
returns c =
    let is = shown_is c.self.inside.entries.items c.args.self.now.entries c.self.invariant
    (ap (λ v. v.entries) c.self.view_is) ∙ sym c.as_slice.ensures.value in
    c.new.ensures ∙ c.in_ok-extend_from_slice.ensures.items
    ∙ ap (λ es. es ++ c.find_within-found.result.now) c.new-entries.ensures.items
    ∙ c.find_within-found.ensures ∙ ap (entries_within c.args.lo c.args.hi) (sym is)
