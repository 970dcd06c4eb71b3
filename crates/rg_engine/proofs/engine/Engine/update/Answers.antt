use Rattle.std.proofs.Common.{sym, subst, refl}
use Rattle.rg_stmt.specs.declared.stmt.Stmt.TheVariants.{Update}
use Rattle.rg_engine.specs.Steps.{Goes}
use Rattle.rg_engine.proofs.Statements.{update_absent, go_absent, key_none, go_update_held}
use Rattle.rg_engine.proofs.Statements.{go_wanting_here}
use Rattle.rg_engine.proofs.engine.Engine.update.Goals as goal

pub returns-in_default-home_of : goal.returns-in_default-home_of
returns-in_default-home_of c = λ st allowed shows.
    let d = c.args.self.now in
    go_absent st allowed d shows c.args.session (Update c.args.row.now)
    (update_absent st allowed d shows c.args.session c.args.row.now (sym c.in_default.ensures)
    (key_none st allowed d shows c.args.session c.args.row.now.key
    c.in_default-home_of.ensures.none))

pub returns-in-Ok : goal.returns-in-Ok
returns-in-Ok c = λ st allowed shows.
    subst
    (λ row. Goes st allowed c.args.self.now c.args.session (Update row) c.change_row.result
    c.change_row.new.self) c.in-Ok.ensures (c.change_row.ensures st allowed shows)

pub returns-in-Some : goal.returns-in-Some
returns-in-Some c = λ st allowed shows. go_update_held st allowed c.args.self.now shows
    c.args.session c.args.row.now c.in-Some.owner c.in-Some.ensures

pub returns-in-Err : goal.returns-in-Err
returns-in-Err c = λ st allowed shows. go_wanting_here st allowed c.args.self.now shows
    c.args.session (Update c.args.row.now) refl
