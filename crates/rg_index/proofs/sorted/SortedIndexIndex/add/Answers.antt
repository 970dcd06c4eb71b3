use Rattle.std.proofs.Common.{sym, ◌∙◌, ap, subst}
use Rattle.rg_index.specs.Entries.{IsRising}
use Rattle.rg_index.specs.RisingPart.{rising_part}
use Rattle.rg_index.proofs.Kept.{added, inserted}
use Rattle.rg_index.proofs.sorted.SortedIndexIndex.add.Goals as goal

pub invariant_of-self : goal.invariant_of-self
invariant_of-self c =
    let new = inserted (c.args.value, c.args.place) c.self.inside.entries.items
    c.as_slice.result.now c.insert-added.new.self.items c.count_through-at.result _
    c.as_slice.ensures.value c.count_through-at.ensures c.insert-added.ensures.items
    (sym c.is_ok.ensures.value ∙ c.if-prove.false) in
    subst IsRising (sym new)
    (added (c.args.value, c.args.place) c.self.inside.entries.items c.args.self.now.entries
    c.self.invariant (ap (λ v. v.entries) c.self.view_is) c.requires.absent).0

pub returns-clause-entries : goal.returns-clause-entries
returns-clause-entries c =
    let new = inserted (c.args.value, c.args.place) c.self.inside.entries.items
    c.as_slice.result.now c.insert-added.new.self.items c.count_through-at.result _
    c.as_slice.ensures.value c.count_through-at.ensures c.insert-added.ensures.items
    (sym c.is_ok.ensures.value ∙ c.if-prove.false) in
    ap rising_part new
    ∙ (added (c.args.value, c.args.place) c.self.inside.entries.items c.args.self.now.entries
    c.self.invariant (ap (λ v. v.entries) c.self.view_is) c.requires.absent).1
