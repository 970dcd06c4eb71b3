use Rattle.std.proofs.Common.{subst, List, ℕ}
use Rattle.rg_page.specs.Content.{Content}
use Rattle.rg_space.specs.Space.{frames_of}
use Rattle.rg_space.proofs.space.Space.redo_page.Goals as goal

pub returns-then-position-entry-clause-gave : goal.returns-then-position-entry-clause-gave
returns-then-position-entry-clause-gave g c =
    let a = g.F.Frames.seen (frames_of c.args.self.now) in
    let go = c.let_go.ensures in
    g.met.F.Frames.gave_more a.pages a.forced (frames_of c.args.self.now)
    (frames_of c.let_go.new.self) (frames_of c.position_of.new.self) (go.gave a.pages a.forced)
    (λ _. subst
    (λ (n : ℕ). g.F.Frames.gave a.pages n (frames_of c.let_go.new.self)
    (frames_of c.position_of.new.self)) go.let_go.forced
    (subst
    (λ (ps : List Content). g.F.Frames.gave ps
    (g.F.Frames.seen (frames_of c.let_go.new.self)).forced (frames_of c.let_go.new.self)
    (frames_of c.position_of.new.self)) go.let_go.pages c.position_of.ensures.gave))

pub returns-in-Ok-redo_held-clause-gave : goal.returns-in-Ok-redo_held-clause-gave
returns-in-Ok-redo_held-clause-gave g c =
    let a = g.F.Frames.seen (frames_of c.args.self.now) in
    let go = c.let_go.ensures in
    g.met.F.Frames.gave_more a.pages a.forced (frames_of c.args.self.now)
    (frames_of c.position_of.new.self) (frames_of c.redo_held.new.self)
    (g.met.F.Frames.gave_more a.pages a.forced (frames_of c.args.self.now)
    (frames_of c.let_go.new.self) (frames_of c.position_of.new.self) (go.gave a.pages a.forced)
    (λ _. subst
    (λ (n : ℕ). g.F.Frames.gave a.pages n (frames_of c.let_go.new.self)
    (frames_of c.position_of.new.self)) go.let_go.forced
    (subst
    (λ (ps : List Content). g.F.Frames.gave ps
    (g.F.Frames.seen (frames_of c.let_go.new.self)).forced (frames_of c.let_go.new.self)
    (frames_of c.position_of.new.self)) go.let_go.pages c.position_of.ensures.gave)))
    (λ _. c.redo_held.ensures.gave a.pages a.forced)

pub returns-in-Err-clause-gave : goal.returns-in-Err-clause-gave
returns-in-Err-clause-gave g c =
    let a = g.F.Frames.seen (frames_of c.args.self.now) in
    let go = c.let_go.ensures in
    g.met.F.Frames.gave_more a.pages a.forced (frames_of c.args.self.now)
    (frames_of c.position_of.new.self) (frames_of c.redo_held.new.self)
    (g.met.F.Frames.gave_more a.pages a.forced (frames_of c.args.self.now)
    (frames_of c.let_go.new.self) (frames_of c.position_of.new.self) (go.gave a.pages a.forced)
    (λ _. subst
    (λ (n : ℕ). g.F.Frames.gave a.pages n (frames_of c.let_go.new.self)
    (frames_of c.position_of.new.self)) go.let_go.forced
    (subst
    (λ (ps : List Content). g.F.Frames.gave ps
    (g.F.Frames.seen (frames_of c.let_go.new.self)).forced (frames_of c.let_go.new.self)
    (frames_of c.position_of.new.self)) go.let_go.pages c.position_of.ensures.gave)))
    (λ _. c.redo_held.ensures.gave a.pages a.forced)
