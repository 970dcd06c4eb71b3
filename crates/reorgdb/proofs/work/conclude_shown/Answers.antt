use Rattle.std.proofs.Common.{inl, inr, subst}
use Rattle.rg_run.specs.Outside.{IsEnd}
use Rattle.reorgdb.proofs.Shown.{never_down, shows_damaged, shows_device, shows_whole}
use Rattle.reorgdb.proofs.work.conclude_shown.Goals as goal

pub returns-in-Whole-clause-shows : goal.returns-in-Whole-clause-shows
returns-in-Whole-clause-shows c = λ before after words source ends opened show.
    let made = c.with_text-in-Whole in
    shows_whole before after words source c.args.trace.now c.in-Whole.rows c.args.end
    c.layout_text-text.result made.result.outcome made.result.text c.in-Whole.is
    c.layout_text-text.ensures made.ensures.ok made.ensures.err ends opened show

pub returns-in-DeviceAtOpening-clause-shows : goal.returns-in-DeviceAtOpening-clause-shows
returns-in-DeviceAtOpening-clause-shows c = λ before after words source ends opened show.
    let made = c.bare-in-DeviceAtOpening in
    elim c.in-DeviceAtOpening.is [
      | inl is ↦ shows_device before after words source c.args.trace.now c.args.end
          made.result.outcome made.result.text is made.ensures ends show
      | inr is ↦ absurd (never_down before after c.args.trace.now c.args.end is ends)
    ]

pub returns-in-DeviceAtOpening-clause-finds : goal.returns-in-DeviceAtOpening-clause-finds
returns-in-DeviceAtOpening-clause-finds c = λ before after ends is_end.
    let made = c.bare-in-DeviceAtOpening in
    elim c.in-DeviceAtOpening.is [
      | inl is ↦ rw (made.ensures) (subst (IsEnd before after c.args.trace.now) is is_end)
      | inr is ↦ absurd (never_down before after c.args.trace.now c.args.end is ends)
    ]

pub returns-in-Damaged-clause-shows : goal.returns-in-Damaged-clause-shows
returns-in-Damaged-clause-shows c = λ before after words source ends opened show.
    let made = c.with_text in
    shows_damaged before after words source c.args.trace.now c.in-Damaged.set c.in-Damaged.page
    c.args.end c.damaged_refusal-text.result made.result.outcome made.result.text c.in-Damaged.is
    c.damaged_refusal-text.ensures made.ensures.ok made.ensures.err ends show
