use Rattle.std.proofs.Common.{◌≡◌, Some, sym, ap, ◌∙◌}
use Rattle.rg_home.specs.Plan.{pointed_to}
use Rattle.rg_space.specs.Took.{slot_in}
use Rattle.rg_space.proofs.Took.{slot_same, row_there}
use Rattle.rg_space.proofs.read.home_of.Goals as goal

pub returns-clause-seen : goal.returns-clause-seen
returns-clause-seen g c =
    let a = g.F.Frames.seen c.glimpse_of.new.frames in
    let b = g.F.Frames.seen c.glimpse_of-2.new.frames in
    let home = c.args.home in
    let first = c.in_ok-seen.ensures in
    let last = c.in_ok-over.ensures in
    let stay = last.took.stay home.page first.held in
    let same : slot_in b home ≡ slot_in a home = slot_same a b home stay.1 in
    let other : Some c.in-Some.other ≡ pointed_to (slot_in b home) =
    sym c.in-Some.is ∙ first.seen.other ∙ ap pointed_to (sym same) in
    record {
      other = other;
      row = last.seen.moved
          ∙ sym
          (row_there (slot_in b) home c.in-Some.other (slot_in b home) (λ i. slot_in b home)
          (sym other));
      held = λ low high. stay.0;
      held_other = λ low high. last.held;
    }
