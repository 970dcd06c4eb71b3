use Rattle.std.proofs.Common.{◌∙◌, sym, ap}
use Rattle.std.specs.Option.{option_copied}
use Rattle.rg_home.specs.Plan.{pointed_to}
use Rattle.rg_home.specs.Undo.{over_before}
use Rattle.rg_space.specs.Summarized.{Summarized}
use Rattle.rg_space.specs.Moves.{undo_moves}
use Rattle.rg_space.specs.Space.{frames_of, summaries_of}
use Rattle.rg_space.proofs.Planned.{undo_agrees}
use Rattle.rg_space.proofs.Took.{slot_stays}
use Rattle.rg_space.proofs.space.Space.plan_undo.Goals as goal

pub returns-clause-parts : goal.returns-clause-parts
returns-clause-parts g c = λ agree.
    let b = g.F.Frames.seen c.pointer_of.new.frames in
    let last = g.F.Frames.seen (frames_of c.hold_there.new.self) in
    let summaries = summaries_of c.hold_there.new.self in
    let h = c.hold_there.ensures in
    let first = c.in_ok-other.ensures in
    let stays = slot_stays _ b last c.args.home h.took first.held in
    undo_agrees last summaries c.args.home (option_copied c.args.before) c.size_of-size.result
    (over_before c.args.parts.now) c.in_ok-other.other c.undo-undo.result
    (c.undo-undo.ensures
    ∙ ap
    (λ over. undo_moves c.args.self.now.summaries.pages c.args.home c.size_of-size.result over
    c.in_ok-other.other) c.over_before.ensures
    ∙ ap
    (λ (x : Summarized). undo_moves x.pages c.args.home c.size_of-size.result
    (over_before c.args.parts.now) c.in_ok-other.other) (sym h.summaries))
    c.size_of-size.ensures
    (first.other ∙ ap pointed_to (sym stays))
    agree
