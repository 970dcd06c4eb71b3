use Rattle.std.proofs.Common.{sym, subst, refl}
use Rattle.rg_stmt.specs.declared.stmt.Stmt.TheVariants.{Insert}
use Rattle.rg_engine.specs.Steps.{Goes}
use Rattle.rg_engine.proofs.Statements.{insert_duplicate, go_duplicate, key_some, go_insert_held}
use Rattle.rg_engine.proofs.Statements.{go_wanting_here}
use Rattle.rg_engine.proofs.engine.Engine.insert.Goals as goal

pub returns-in-Some-home_of : goal.returns-in-Some-home_of
returns-in-Some-home_of c = λ st allowed shows.
    let d = c.args.self.now in
    let at = key_some st allowed d shows c.args.session c.args.row.now.key c.in-Some-home_of.field-0
    c.in-Some-home_of.ensures.there in
    go_duplicate st allowed d shows c.args.session (Insert c.args.row.now)
    (insert_duplicate st allowed d shows c.args.session c.args.row.now at.row
    (sym c.in_default.ensures) at.now)

pub returns-in-Ok : goal.returns-in-Ok
returns-in-Ok c = λ st allowed shows.
    subst
    (λ row. Goes st allowed c.args.self.now c.args.session (Insert row) c.put_row.result
    c.put_row.new.self) c.in-Ok.ensures (c.put_row.ensures st allowed shows)

pub returns-in-Some : goal.returns-in-Some
returns-in-Some c = λ st allowed shows. go_insert_held st allowed c.args.self.now shows
    c.args.session c.args.row.now c.in-Some.owner c.in-Some.ensures

pub returns-in-Err : goal.returns-in-Err
returns-in-Err c = λ st allowed shows. go_wanting_here st allowed c.args.self.now shows
    c.args.session (Insert c.args.row.now) refl
