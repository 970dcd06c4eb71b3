use Rattle.std.proofs.Common.{◌==◌, not, rules, ◌∙◌}
use Rattle.rg_base.specs.declared.lock.Lock.{Lock}
use Rattle.rg_model.proofs.Changed.{retained-others}
use Rattle.rg_model.proofs.plain.parts.drop_locks.Goals as goal

pub returns : goal.returns
returns c =
    let session = c.args.session in
    c.retain.ensures (λ key (kept : Lock). not (kept.owner.0 == session.0))
    (λ key kept answer met. search rules) ∙ retained-others session c.args.locks.now
