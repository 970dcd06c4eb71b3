use Rattle.std.proofs.Common.{refl}
use Rattle.std.proofs.lemmas.Result.{err_from_is_err_and}
use Rattle.rg_phase.proofs.Drafting.{draft_full, draft_taken}
use Rattle.rg_phase.proofs.draft.Draft.take.Goals as goal

pub returns-clause-draft : goal.returns-clause-draft
returns-clause-draft c =
    let e = c.in_ok-catch_up.ensures in
    draft_taken c.args.self.now.options c.args.self.now.shadow c.catch_up.new.shadow
    c.args.inlet.now c.catch_up.new.inlet c.from.result _ c.requires.draft
    e.count e.taken e.same.items e.caught e.unmoved e.claims e.idle c.target.ensures.mapped

pub returns-in_err-catch_up-clause-full : goal.returns-in_err-catch_up-clause-full
returns-in_err-catch_up-clause-full c =
    let p = err_from_is_err_and c.from_residual.result c.from_residual.ensures.1 in
    rw (p.1, p.2)
    (draft_full c.args.self.now.options c.args.self.now.shadow c.args.inlet.now c.from.result
    c.args.self.now.shadow.capacity _ c.requires.draft refl c.in_err-catch_up.ensures.full)
