use Rattle.std.proofs.Common.{sym, ◌∙◌}
use Rattle.rg_model.specs.Held.{is_held_with_cat}
use Rattle.rg_base.specs.Start.{start_of}
use Rattle.rg_model.proofs.Walked.{owner-found, owner-behind, owner-none}
use Rattle.rg_model.proofs.plain.walks.find_holder.Goals as goal

pub returns-then-is_held_with_cat : goal.returns-then-is_held_with_cat
returns-then-is_held_with_cat c =
    owner-found (is_held_with_cat c.args.table.now c.args.session c.args.cat) c.args.locks.now
    (start_of c.loop-key.last) _ c.loop-key.invariant (c.in-Some.key, c.in-Some.kept.now)
    c.in-Some.ensures (sym c.is_held_with_cat.ensures ∙ c.if-is_held_with_cat.true)

pub loop-key-preserved : goal.loop-key-preserved
loop-key-preserved c =
    let p = (is_held_with_cat c.args.table.now c.args.session c.args.cat) in
    owner-behind p c.args.locks.now (start_of c.loop-key.last) _ c.loop-key.invariant
    (c.in-Some.key, c.in-Some.kept.now) c.in-Some.ensures
    (sym c.is_held_with_cat.ensures ∙ c.if-is_held_with_cat.false)

pub returns : goal.returns
returns c = owner-none (is_held_with_cat c.args.table.now c.args.session c.args.cat)
    c.args.locks.now (start_of c.loop-key.last) _ c.loop-key.invariant c.in_default.ensures
