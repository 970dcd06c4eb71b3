use Rattle.std.proofs.Common.{◌≡◌, ℕ, List, None, length, sym, subst, ◌∙◌, ap}
use Rattle.std.specs.Option.{option_copied}
use Rattle.rg_home.specs.Pages.{applied, row_or_empty}
use Rattle.rg_home.specs.Slot.{Slot}
use Rattle.rg_space.specs.Carries.{AllThere, cleared}
use Rattle.rg_space.specs.Ready.{CanApply}
use Rattle.rg_space.specs.Space.{capacity_in}
use Rattle.rg_space.proofs.Carried.{purge_applies, parts_apply}
use Rattle.rg_space.proofs.Whole.{slots_count}
use Rattle.rg_shadow.specs.Planned.{pages_in, seen_in, slots_in}
use Rattle.rg_shadow.proofs.plans.carry_out.Goals as goal

-- the purge and the parts can be applied, each in its turn
record Applies (c : goal.After-apply-2) : Type 0 where
  pub purge : CanApply (seen_in c.args.space.now) (capacity_in c.args.space.now) 0 None
      c.as_slice.result.now
  pub cleared_is : slots_in c.apply.new.space
      ≡ cleared 0 (slots_in c.args.space.now) c.args.plan.now
  pub parts : CanApply (seen_in c.apply.new.space) (capacity_in c.apply.new.space) 0
      (option_copied c.args.row) c.as_slice-2.result.now

applies : (c : goal.After-apply-2) → Applies c
applies c =
    let old = c.args.space.now in
    let mid = c.apply.new.space in
    let plan = c.args.plan.now in
    let k = capacity_in old in
    let after = option_copied c.args.row in
    let purge = c.as_slice.ensures in
    let parts = c.as_slice-2.ensures in
    let can = subst (CanApply (seen_in old) k 0 None) (sym purge)
    (purge_applies (seen_in old) 0 0 k after plan c.requires.hand.purge c.requires.carries) in
    let is : slots_in mid ≡ cleared 0 (slots_in old) plan =
    c.apply.ensures.slots can ∙ ap (applied 0 (row_or_empty None) (slots_in old)) purge in
    let there = subst (AllThere (length (pages_in old))) (sym purge)
    (subst (λ (n : ℕ). AllThere n plan.purge) (slots_count (pages_in old))
    c.requires.carries.next.purge) in
    let ready = c.apply.ensures.stay can there plan.parts c.requires.hand.parts in
    let fit =
    parts_apply (seen_in old) (seen_in mid) 0 0 k after plan ready c.requires.carries is in record {
      purge = can;
      cleared_is = is;
      parts = subst (λ (n : ℕ). CanApply (seen_in mid) n 0 after c.as_slice-2.result.now)
          (sym c.apply.ensures.capacity)
          (subst (CanApply (seen_in mid) k 0 after) (sym parts) fit);
    }

pub returns-clause-slots : goal.returns-clause-slots
returns-clause-slots c =
    let plan = c.args.plan.now in
    let after = option_copied c.args.row in
    c.apply-2.ensures.slots (applies c).parts
    ∙ ap (applied 0 (row_or_empty after) (slots_in c.apply.new.space)) c.as_slice-2.ensures
    ∙ ap (λ (ps : List (List Slot)). applied 0 (row_or_empty after) ps plan.parts)
    (applies c).cleared_is
    ∙ c.requires.carries.after

pub returns-clause-positions : goal.returns-clause-positions
returns-clause-positions c = λ unlogged. c.apply-2.ensures.positions (applies c).parts
    (c.apply.ensures.positions (applies c).purge unlogged)
