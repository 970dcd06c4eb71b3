use Rattle.std.proofs.Common.{◌∙◌, sym}
use Rattle.std.specs.Option.{option_copied}
use Rattle.rg_space.specs.Space.{frames_of, summaries_of, capacity_in}
use Rattle.rg_undo.proofs.Undoing.{undid}
use Rattle.rg_undo.proofs.one.undo_one.Goals as goal

pub returns-clause-undone : goal.returns-clause-undone
returns-clause-undone g c = λ sure can.
    let a = g.F.Frames.seen (frames_of c.args.space.now) in
    let m = g.F.Frames.seen (frames_of c.plan_undo.new.self) in
    let z = g.F.Frames.seen (frames_of c.apply.new.self) in
    let h = c.plan_undo.ensures in
    let k = c.in-Change in
    let after = c.apply.ensures in
    undid a m z (summaries_of c.args.space.now) (summaries_of c.plan_undo.new.self)
    (summaries_of c.apply.new.self) (capacity_in c.plan_undo.new.self) c.args.entry k.home k.before
    k.after (option_copied c.as_ref.result) k.parts c.as_slice.result.now
    c.in_ok-undo-in-Change.undo (h.took.reads.same (sym after.writes.sure ∙ sure)) h.summaries can
    k.is h.step.few c.in_ok-undo-in-Change.ensures.held c.as_ref.ensures.value c.as_slice.ensures
    c.in_ok-undo-in-Change.ensures.parts
    c.args.position.0 c.args.back.0 h.took.reads.keeps.copy after.slots after.pages after.count
    after.agree
