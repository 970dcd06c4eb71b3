use Rattle.std.proofs.Common.{ℕ, List, sym, ◌∙◌, ap}
use Rattle.std.proofs.lemmas.Result.{IfOk-weaker}
use Rattle.rg_base.specs.RowBytes.{row_size}
use Rattle.rg_home.specs.Plan.{planned_change}
use Rattle.rg_space.specs.Space.{capacity_in, frames_of}
use Rattle.rg_page.specs.Bare.{numbers_of}
use Rattle.rg_page.specs.Content.{slots_of}
use Rattle.rg_space.specs.Memory.{list_seen}
use Rattle.rg_engine.proofs.PlannedIn.{agree_later, err_so, refusal}
use Rattle.rg_engine.proofs.engine.Engine.plan_change.Goals as goal

pub returns-clause-plan : goal.returns-clause-plan
returns-clause-plan c =
    let sp = c.plan_change.new.self in
    let b = row_size c.args.row.now in
    let pages = slots_of (list_seen (frames_of sp)).pages in
    let agree = agree_later c.args.self.now.space sp c.plan_change.ensures.took.reads
    c.plan_change.ensures.summaries c.requires.pages.agree in
    IfOk-weaker c.plan_change.result _ _
    (λ plan h. h agree
    ∙ ap (λ (us : List ℕ). planned_change us b (capacity_in sp) pages c.args.home)
    (ap numbers_of c.as_slice.ensures.value ∙ c.in-Ok.ensures)) c.plan_change.ensures.plan

pub returns-clause-refusal : goal.returns-clause-refusal
returns-clause-refusal c =
    let sp = c.plan_change.new.self in
    let b = row_size c.args.row.now in
    let pages = slots_of (list_seen (frames_of sp)).pages in
    let agree = agree_later c.args.self.now.space sp c.plan_change.ensures.took.reads
    c.plan_change.ensures.summaries c.requires.pages.agree in
    err_so _ _ c.plan_change.result
    (refusal (frames_of c.args.self.now.space) (frames_of sp) b _ _
    (λ none. ap (λ (us : List ℕ). planned_change us b (capacity_in sp) pages c.args.home)
    (sym (ap numbers_of c.as_slice.ensures.value ∙ c.in-Ok.ensures)) ∙ none agree))
    c.plan_change.ensures.cause
