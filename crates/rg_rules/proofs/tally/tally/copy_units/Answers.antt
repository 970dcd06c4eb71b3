use Rattle.std.proofs.Common.{◌+◌, subst, sym}
use Rattle.rg_base.specs.Start.{start_of}
use Rattle.rg_rules.proofs.TallyLemmas.Copied.{IsCopied, copied-begins, copied-set, copied-ends}
use Rattle.rg_rules.proofs.tally.tally.copy_units.Goals as goal

pub loop-session-init : goal.loop-session-init
loop-session-init c =
    subst (IsCopied c.args.units.now 0) (sym c.new-copy.ensures) (copied-begins c.args.units.now)

pub loop-session-preserved : goal.loop-session-preserved
loop-session-preserved c =
    let whole = c.args.units.now in
    subst (IsCopied whole (c.in-Some.session + 1)) (sym c.in_ok-insert.ensures.ok)
    (copied-set whole c.loop-session.copy (start_of c.loop-session.last) c.loop-session.invariant
    c.in-Some.session c.in-Some.unit.now c.in-Some.ensures)

pub returns : goal.returns
returns c = copied-ends c.args.units.now c.loop-session.copy (start_of c.loop-session.last)
    c.loop-session.invariant c.in_default.ensures
