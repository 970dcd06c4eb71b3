use Rattle.std.proofs.Common.{◌≤◌, ◌∙◌, Some, sym, ap, arith}
use Rattle.std.proofs.lemmas.Result.{err_from_is_err_and}
use Rattle.rg_base.specs.RowBytes.{row_size}
use Rattle.rg_home.specs.Pages.{slot_of}
use Rattle.rg_home.specs.Rows.{row_at}
use Rattle.rg_space.specs.Space.{capacity_in}
use Rattle.rg_space.specs.declared.space.Space.{Space}
use Rattle.rg_page.specs.declared.list.ListFrames.{ListFrames}
use Rattle.rg_shadow.specs.Planned.{slots_in}
use Rattle.rg_shadow.proofs.Claiming.{put_full}
use Rattle.rg_shadow.proofs.Keeping.{planned_whole, ready_at}
use Rattle.rg_shadow.proofs.Planning.{few_slots, put_does}
use Rattle.rg_shadow.proofs.pieces.Pieces.plan_put.Goals as goal

pub returns-in_err-reserve-clause-whole : goal.returns-in_err-reserve-clause-whole
returns-in_err-reserve-clause-whole c = c.reserve.ensures.whole
    (planned_whole c.args.self.now c.plan_put.new.space c.plan_put.ensures.same
    c.plan_put.ensures.has c.requires)

pub returns-clause-whole : goal.returns-clause-whole
returns-clause-whole c = c.reserve.ensures.whole
    (planned_whole c.args.self.now c.plan_put.new.space c.plan_put.ensures.same
    c.plan_put.ensures.has c.requires)

pub returns-clause-fresh : goal.returns-clause-fresh
returns-clause-fresh c =
    let sp = c.plan_put.new.space in
    let whole =
    planned_whole c.args.self.now sp c.plan_put.ensures.same c.plan_put.ensures.has c.requires in
    let small : row_size c.args.row.now ≤ 826 =
    omega (arith, c.size.ensures.size, c.size.ensures.high) in
    let does = put_does (capacity_in sp) (slots_in sp) (few_slots sp c.plan_put.ensures.has)
    whole.proper c.args.row.now c.in_ok-plan.plan small c.in_ok-plan.ensures.plan in
    ap (λ (s : Space ListFrames). row_at (slot_of (slots_in s)) c.in_ok-plan.plan.home)
    c.reserve.ensures.space ∙ sym does.1.writes.before ∙ does.0

pub returns-clause-ready : goal.returns-clause-ready
returns-clause-ready c =
    let sp = c.plan_put.new.space in
    let whole =
    planned_whole c.args.self.now sp c.plan_put.ensures.same c.plan_put.ensures.has c.requires in
    let small : row_size c.args.row.now ≤ 826 =
    omega (arith, c.size.ensures.size, c.size.ensures.high) in
    let does = put_does (capacity_in sp) (slots_in sp) (few_slots sp c.plan_put.ensures.has)
    whole.proper c.args.row.now c.in_ok-plan.plan small c.in_ok-plan.ensures.plan in
    ready_at c.reserve.new.self sp (Some c.args.row.now) c.in_ok-plan.plan c.reserve.ensures.space
    does.1 c.in_ok-plan.ensures.hand c.in_ok-reserve.ensures.spare c.in_ok-reserve.ensures.room

pub returns-in_err-plan-clause-refusal : goal.returns-in_err-plan-clause-refusal
returns-in_err-plan-clause-refusal c =
    let sp = c.plan_put.new.space in
    let small : row_size c.args.row.now ≤ 826 =
    omega (arith, c.size.ensures.size, c.size.ensures.high) in
    let p = err_from_is_err_and c.from_residual.result c.from_residual.ensures.1 in
    rw (p.1, p.2)
    (put_full c.args.row.now (capacity_in sp) (slots_in sp) _ small
    (few_slots sp c.plan_put.ensures.has) c.in_err-plan.ensures.refusal)
