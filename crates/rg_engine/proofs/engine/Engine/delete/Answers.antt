use Rattle.std.proofs.Common.{sym, refl}
use Rattle.rg_stmt.specs.declared.stmt.Stmt.TheVariants.{Delete}
use Rattle.rg_engine.proofs.Same.{same_shows}
use Rattle.rg_engine.proofs.Statements.{delete_absent, delete_done, go_absent, key_none, key_some}
use Rattle.rg_engine.proofs.Statements.{go_delete_held, go_wanting, go_wanting_here}
use Rattle.rg_engine.proofs.WritesGo.{drop_goes}
use Rattle.rg_engine.proofs.engine.Engine.delete.Goals as goal

pub returns-in_default-home_of : goal.returns-in_default-home_of
returns-in_default-home_of c = λ st allowed shows.
    let d = c.args.self.now in
    go_absent st allowed d shows c.args.session (Delete c.args.key)
    (delete_absent st allowed d shows c.args.session c.args.key (sym c.in_default.ensures)
    (key_none st allowed d shows c.args.session c.args.key c.in_default-home_of.ensures.none))

pub returns-in-Ok : goal.returns-in-Ok
returns-in-Ok c = λ st allowed shows.
    let d = c.args.self.now in
    let mid = c.plan_drop.new.self in
    let at = key_some st allowed d shows c.args.session c.args.key c.in-Some-home_of.home
    c.in-Some-home_of.ensures.there in
    drop_goes st allowed d shows c.args.session c.in-Some-unit_of.unit
    c.in-Some-unit_of.ensures.unit mid c.in-Ok.ensures.same
    (same_shows st allowed d mid c.in-Ok.ensures.same shows)
    c.in-Some-home_of.home at.row c.args.key c.in-Ok.plan c.write.result c.write.new.self
    c.in-Some-unit_of.ensures.small at.there at.home (sym c.in_default.ensures) at.key_is
    c.in-Ok.ensures.plan
    (delete_done st allowed d shows c.args.session c.args.key at.row (sym c.in_default.ensures)
    at.now) c.write.ensures

pub returns-in-Some : goal.returns-in-Some
returns-in-Some c = λ st allowed shows. go_delete_held st allowed c.args.self.now shows
    c.args.session c.args.key c.in-Some.owner c.in-Some.ensures

pub returns-in_default-unit_of : goal.returns-in_default-unit_of
returns-in_default-unit_of c = λ st allowed shows. go_wanting_here st allowed c.args.self.now shows
    c.args.session (Delete c.args.key) refl

pub returns-in-Err : goal.returns-in-Err
returns-in-Err c = λ st allowed shows. go_wanting st allowed c.args.self.now shows c.args.session
    (Delete c.args.key) c.plan_drop.new.self refl c.in-Err.ensures.same
