use Rattle.std.proofs.Common.{sym, subst, refl}
use Rattle.rg_stmt.specs.declared.stmt.Reply.TheVariants.{Keyed}
use Rattle.rg_stmt.specs.declared.stmt.Stmt.TheVariants.{Find}
use Rattle.rg_engine.specs.Steps.{Goes}
use Rattle.rg_engine.proofs.ReadsGo.{find_goes, find_held_goes}
use Rattle.rg_engine.proofs.Statements.{go_wanting}
use Rattle.rg_engine.proofs.engine.Engine.find.Goals as goal

pub returns-in-Some : goal.returns-in-Some
returns-in-Some c = λ st allowed shows. find_held_goes st allowed c.args.self.now shows
    c.args.session c.args.cat c.in-Some.owner (c.in-Some.ensures st allowed shows)

pub returns-in-Ok : goal.returns-in-Ok
returns-in-Ok c = λ st allowed shows.
    subst
    (λ keys. Goes st allowed c.args.self.now c.args.session (Find c.args.cat) (Keyed keys)
    c.listed_keys.new.self) (sym c.new.ensures)
    (find_goes st allowed c.args.self.now shows c.args.session c.args.cat c.in-Ok.keys.items
    c.sort_unstable.new.self.items c.listed_keys.new.self (c.in_default.ensures st allowed shows)
    c.in-Ok.ensures.keys c.sort_unstable.ensures.permutation c.sort_unstable.ensures.sorted
    c.in-Ok.ensures.same)

pub returns-in-Err : goal.returns-in-Err
returns-in-Err c = λ st allowed shows. go_wanting st allowed c.args.self.now shows c.args.session
    (Find c.args.cat) c.listed_keys.new.self refl c.in-Err.ensures.same
