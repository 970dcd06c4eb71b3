use Rattle.std.proofs.Common.{ℕ, IfSome, length, ap, subst}
use Rattle.rg_desk.specs.Desk.{HasCaught, IsAsWritten}
use Rattle.rg_desk.proofs.Quiet.{caught_if}
use Rattle.rg_desk.proofs.desk.Desk.stage.Goals as goal

pub returns-clause-caught : goal.returns-clause-caught
returns-clause-caught g c =
    let inside = c.self.inside in
    subst (λ (n : ℕ). IfSome inside.stage (HasCaught n)) (ap (λ d. d.changes) c.self.view_is)
    (caught_if inside.engine inside.chronicle inside.origin inside.copy inside.down
    inside.marks.items _ c.self.invariant.0 inside.stage inside.changes c.self.invariant.1)

pub returns-clause-current : goal.returns-clause-current
returns-clause-current g c =
    subst (λ d. IsAsWritten d.stage d.shadow (length d.ground.log.records)) c.self.view_is
    c.self.invariant.4
