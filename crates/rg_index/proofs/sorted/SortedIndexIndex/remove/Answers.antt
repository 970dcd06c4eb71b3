use Rattle.std.proofs.Common.{sym, ◌∙◌, ap, subst}
use Rattle.rg_index.specs.Entries.{IsRising, has_entry, without_entry}
use Rattle.rg_index.specs.RisingPart.{rising_part}
use Rattle.rg_index.proofs.Kept.{removed, shown_is}
use Rattle.rg_index.proofs.sorted.SortedIndexIndex.remove.Goals as goal

pub invariant_of-self : goal.invariant_of-self
invariant_of-self c =
    let new = c.remove.ensures.items
    ∙ sym (ap (λ es. Rattle.std.specs.List.remove es c.in-Some.at) c.as_slice.ensures.value)
    ∙ c.in-Some.ensures.index.1
    ∙ ap (without_entry (c.args.value, c.args.place)) c.as_slice.ensures.value in
    subst IsRising (sym new)
    (removed (c.args.value, c.args.place) c.self.inside.entries.items c.args.self.now.entries
    c.self.invariant (ap (λ v. v.entries) c.self.view_is)).0

pub returns-in-Some-clause-there : goal.returns-in-Some-clause-there
returns-in-Some-clause-there c =
    sym
    (ap (λ es. has_entry es (c.args.value, c.args.place))
    (shown_is c.self.inside.entries.items c.args.self.now.entries c.self.invariant
    (ap (λ v. v.entries) c.self.view_is) ∙ sym c.as_slice.ensures.value) ∙ c.in-Some.ensures.there)

pub returns-in-Some-clause-entries : goal.returns-in-Some-clause-entries
returns-in-Some-clause-entries c =
    let new = c.remove.ensures.items
    ∙ sym (ap (λ es. Rattle.std.specs.List.remove es c.in-Some.at) c.as_slice.ensures.value)
    ∙ c.in-Some.ensures.index.1
    ∙ ap (without_entry (c.args.value, c.args.place)) c.as_slice.ensures.value in
    ap rising_part new
    ∙ (removed (c.args.value, c.args.place) c.self.inside.entries.items c.args.self.now.entries
    c.self.invariant (ap (λ v. v.entries) c.self.view_is)).1

pub returns-in-None-clause-there : goal.returns-in-None-clause-there
returns-in-None-clause-there c =
    sym
    (ap (λ es. has_entry es (c.args.value, c.args.place))
    (shown_is c.self.inside.entries.items c.args.self.now.entries c.self.invariant
    (ap (λ v. v.entries) c.self.view_is) ∙ sym c.as_slice.ensures.value) ∙ c.in-None.ensures.there)

pub returns-in-None-clause-entries : goal.returns-in-None-clause-entries
returns-in-None-clause-entries c =
    let is = shown_is c.self.inside.entries.items c.args.self.now.entries c.self.invariant
    (ap (λ v. v.entries) c.self.view_is) ∙ sym c.as_slice.ensures.value in
    is ∙ sym c.in-None.ensures.index ∙ ap (without_entry (c.args.value, c.args.place)) (sym is)
