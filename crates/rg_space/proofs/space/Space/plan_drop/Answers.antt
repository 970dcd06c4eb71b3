use Rattle.std.proofs.Common.{◌≡◌, ◌∙◌, sym, subst}
use Rattle.rg_space.specs.Summarized.{Summarized}
use Rattle.rg_space.specs.Moves.{drop_moves}
use Rattle.rg_space.specs.Space.{frames_of, summaries_of}
use Rattle.rg_space.proofs.Planned.{drop_agrees}
use Rattle.rg_space.proofs.Took.{home_stays}
use Rattle.rg_space.proofs.space.Space.plan_drop.Goals as goal

pub returns-clause-plan : goal.returns-clause-plan
returns-clause-plan g c = λ agree.
    let b = g.F.Frames.seen c.home_of.new.frames in
    let last = g.F.Frames.seen (frames_of c.hold_there.new.self) in
    let seen = c.in_ok-seen.seen in
    let shown =
    home_stays _ b last c.args.home seen c.hold_there.ensures.took c.in_ok-seen.ensures.seen in
    drop_agrees last (summaries_of c.hold_there.new.self) c.args.home seen c.new-3.result
    c.drop_row-parts.result shown (c.new-3.ensures ∙ c.new-2.ensures.items)
    (subst (λ (x : Summarized). c.drop_row-parts.result ≡ drop_moves x.pages c.args.home seen.other)
    (sym c.hold_there.ensures.summaries) c.drop_row-parts.ensures) agree
