use Rattle.std.proofs.Common.{◌==◌, ℕ, true, false, ◌∙◌, ap, filter}
use Rattle.std.specs.FinMap as map
use Rattle.std.specs.Option.{is_some}
use Rattle.std.proofs.lemmas.Bool.{eq-eqb, ne_eqb}
use Rattle.rg_base.specs.declared.lock.Lock.{Lock}
use Rattle.rg_base.proofs.Walk.{walk_begins}
use Rattle.rg_model.specs.Held.{first_owner}
use Rattle.rg_base.specs.Start.{start_of}
use Rattle.rg_model.proofs.Walked.{owner-found, owner-behind, owner-none}
use Rattle.rg_judge.proofs.Walked.{any_filter}
use Rattle.rg_judge.proofs.walk.has_locks.Goals as goal

pub loop-key-init : goal.loop-key-init
loop-key-init c = ap first_owner
    (walk_begins (λ (lock : ℕ × Lock). lock.1.owner.0 == c.args.session.0) c.args.locks.now
    (map.entries c.args.locks.now))

pub returns-then-kept-session : goal.returns-then-kept-session
returns-then-kept-session c =
    let p = λ (lock : ℕ × Lock). lock.1.owner.0 == c.args.session.0 in
    ap is_some
    (owner-found p c.args.locks.now (start_of c.loop-key.last)
    (first_owner (filter p (map.entries c.args.locks.now))) c.loop-key.invariant
    (c.in-Some.key, c.in-Some.kept.now) c.in-Some.ensures
    (eq-eqb c.in-Some.kept.now.owner.0 c.args.session.0 c.if-kept-session.true))
    ∙ any_filter p (map.entries c.args.locks.now)

pub loop-key-preserved : goal.loop-key-preserved
loop-key-preserved c =
    let p = λ (lock : ℕ × Lock). lock.1.owner.0 == c.args.session.0 in
    owner-behind p c.args.locks.now (start_of c.loop-key.last)
    (first_owner (filter p (map.entries c.args.locks.now))) c.loop-key.invariant
    (c.in-Some.key, c.in-Some.kept.now) c.in-Some.ensures
    (ne_eqb c.in-Some.kept.now.owner.0 c.args.session.0 c.if-kept-session.false)

pub returns : goal.returns
returns c =
    let p = λ (lock : ℕ × Lock). lock.1.owner.0 == c.args.session.0 in
    ap is_some
    (owner-none p c.args.locks.now (start_of c.loop-key.last)
    (first_owner (filter p (map.entries c.args.locks.now))) c.loop-key.invariant
    c.in_default.ensures)
    ∙ any_filter p (map.entries c.args.locks.now)
