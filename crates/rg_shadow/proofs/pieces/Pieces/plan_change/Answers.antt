use Rattle.std.proofs.Common.{◌≡◌, ◌≤◌, List, Some, true, is_some, sym, subst, arith}
use Rattle.std.proofs.lemmas.Result.{err_from_is_err_and}
use Rattle.rg_base.specs.RowBytes.{row_size}
use Rattle.rg_home.specs.Pages.{slot_of}
use Rattle.rg_home.specs.Rows.{row_at}
use Rattle.rg_home.specs.Slot.{Slot}
use Rattle.rg_space.specs.Space.{capacity_in}
use Rattle.rg_shadow.specs.Planned.{slots_in}
use Rattle.rg_shadow.proofs.Claiming.{change_full}
use Rattle.rg_shadow.proofs.Keeping.{planned_whole, ready_at, slots_same}
use Rattle.rg_shadow.proofs.Planning.{few_slots, change_does}
use Rattle.rg_shadow.proofs.pieces.Pieces.plan_change.Goals as goal

pub returns-in_err-reserve-clause-whole : goal.returns-in_err-reserve-clause-whole
returns-in_err-reserve-clause-whole c = c.reserve.ensures.whole
    (planned_whole c.args.self.now c.plan_change.new.space c.plan_change.ensures.same
    c.plan_change.ensures.has c.requires.whole)

pub returns-clause-whole : goal.returns-clause-whole
returns-clause-whole c = c.reserve.ensures.whole
    (planned_whole c.args.self.now c.plan_change.new.space c.plan_change.ensures.same
    c.plan_change.ensures.has c.requires.whole)

pub returns-clause-home : goal.returns-clause-home
returns-clause-home c =
    let old = c.args.self.now.space in
    let sp = c.plan_change.new.space in
    let whole = planned_whole c.args.self.now sp c.plan_change.ensures.same
    c.plan_change.ensures.has c.requires.whole in
    let small : row_size c.args.row.now ≤ 826 =
    omega (arith, c.size.ensures.size, c.size.ensures.high) in
    let there = subst (λ (ps : List (List Slot)). is_some (row_at (slot_of ps) c.args.home) ≡ true)
    (sym (slots_same old sp c.plan_change.ensures.same)) c.requires.home in
    (change_does (capacity_in sp) (slots_in sp) (few_slots sp c.plan_change.ensures.has)
    whole.proper c.args.home c.args.row.now c.in_ok-plan.plan small there
    c.in_ok-plan.ensures.plan).0

pub returns-clause-ready : goal.returns-clause-ready
returns-clause-ready c =
    let old = c.args.self.now.space in
    let sp = c.plan_change.new.space in
    let whole = planned_whole c.args.self.now sp c.plan_change.ensures.same
    c.plan_change.ensures.has c.requires.whole in
    let small : row_size c.args.row.now ≤ 826 =
    omega (arith, c.size.ensures.size, c.size.ensures.high) in
    let there = subst (λ (ps : List (List Slot)). is_some (row_at (slot_of ps) c.args.home) ≡ true)
    (sym (slots_same old sp c.plan_change.ensures.same)) c.requires.home in
    let does =
    change_does (capacity_in sp) (slots_in sp) (few_slots sp c.plan_change.ensures.has) whole.proper
    c.args.home c.args.row.now c.in_ok-plan.plan small there c.in_ok-plan.ensures.plan in
    ready_at c.reserve.new.self sp (Some c.args.row.now) c.in_ok-plan.plan c.reserve.ensures.space
    does.1 c.in_ok-plan.ensures.hand c.in_ok-reserve.ensures.spare c.in_ok-reserve.ensures.room

pub returns-in_err-plan-clause-refusal : goal.returns-in_err-plan-clause-refusal
returns-in_err-plan-clause-refusal c =
    let sp = c.plan_change.new.space in
    let small : row_size c.args.row.now ≤ 826 =
    omega (arith, c.size.ensures.size, c.size.ensures.high) in
    let p = err_from_is_err_and c.from_residual.result c.from_residual.ensures.1 in
    rw (p.1, p.2)
    (change_full c.args.row.now c.args.home (capacity_in sp) (slots_in sp) _ small
    (few_slots sp c.plan_change.ensures.has) c.in_err-plan.ensures.refusal)
