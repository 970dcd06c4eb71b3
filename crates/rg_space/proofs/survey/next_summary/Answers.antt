use Rattle.std.proofs.Common.{subst, List, ℕ}
use Rattle.rg_page.specs.Content.{Content}
use Rattle.rg_space.proofs.survey.next_summary.Goals as goal

pub returns-clause-gave : goal.returns-clause-gave
returns-clause-gave g c =
    let a = g.F.Frames.seen c.args.frames.now in
    let go = c.let_go.ensures in
    g.met.F.Frames.gave_more a.pages a.forced c.args.frames.now c.let_go.new.self
    c.summary_of.new.frames (go.gave a.pages a.forced)
    (λ _. subst (λ (n : ℕ). g.F.Frames.gave a.pages n c.let_go.new.self c.summary_of.new.frames)
    go.let_go.forced
    (subst
    (λ (ps : List Content). g.F.Frames.gave ps (g.F.Frames.seen c.let_go.new.self).forced
    c.let_go.new.self c.summary_of.new.frames) go.let_go.pages c.summary_of.ensures.gave))
