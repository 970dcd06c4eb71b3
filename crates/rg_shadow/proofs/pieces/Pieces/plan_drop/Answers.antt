use Rattle.std.proofs.Common.{◌≡◌, ◌∙◌, List, None, true, is_some, sym, ap, subst}
use Rattle.rg_home.specs.Pages.{slot_of}
use Rattle.rg_home.specs.Rows.{row_at}
use Rattle.rg_home.specs.Slot.{Slot}
use Rattle.rg_home.specs.declared.plan.Plan.{Plan}
use Rattle.rg_space.specs.Space.{capacity_in}
use Rattle.rg_shadow.specs.Planned.{slots_in}
use Rattle.rg_shadow.proofs.Keeping.{planned_whole, ready_at, slots_same}
use Rattle.rg_shadow.proofs.Planning.{few_slots, drop_does, drop_home}
use Rattle.rg_shadow.proofs.pieces.Pieces.plan_drop.Goals as goal

pub returns-in_err-reserve-clause-whole : goal.returns-in_err-reserve-clause-whole
returns-in_err-reserve-clause-whole c = c.reserve.ensures.whole
    (planned_whole c.args.self.now c.plan_drop.new.space c.plan_drop.ensures.same
    c.plan_drop.ensures.has c.requires.whole)

pub returns-clause-whole : goal.returns-clause-whole
returns-clause-whole c = c.reserve.ensures.whole
    (planned_whole c.args.self.now c.plan_drop.new.space c.plan_drop.ensures.same
    c.plan_drop.ensures.has c.requires.whole)

pub returns-clause-home : goal.returns-clause-home
returns-clause-home c = ap (λ (p : Plan). p.home) c.in_ok-plan.ensures.plan
    ∙ drop_home (slots_in c.plan_drop.new.space) c.args.home

pub returns-clause-ready : goal.returns-clause-ready
returns-clause-ready c =
    let old = c.args.self.now.space in
    let sp = c.plan_drop.new.space in
    let whole = planned_whole c.args.self.now sp c.plan_drop.ensures.same c.plan_drop.ensures.has
    c.requires.whole in
    let there = subst (λ (ps : List (List Slot)). is_some (row_at (slot_of ps) c.args.home) ≡ true)
    (sym (slots_same old sp c.plan_drop.ensures.same)) c.requires.home in
    let does = drop_does (capacity_in sp) (slots_in sp) (few_slots sp c.plan_drop.ensures.has)
    whole.proper c.args.home c.in_ok-plan.plan there c.in_ok-plan.ensures.plan in
    ready_at c.reserve.new.self sp None c.in_ok-plan.plan c.reserve.ensures.space does
    c.in_ok-plan.ensures.hand c.in_ok-reserve.ensures.spare c.in_ok-reserve.ensures.room
