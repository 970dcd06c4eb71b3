use Rattle.std.proofs.Common.{sym, refl}
use Rattle.rg_engine.proofs.ReadsGo.{select_goes}
use Rattle.rg_stmt.specs.declared.stmt.Stmt.TheVariants.{Select}
use Rattle.rg_engine.proofs.Statements.{go_select_held, go_wanting}
use Rattle.rg_engine.proofs.engine.Engine.select.Goals as goal

pub returns-in-Ok : goal.returns-in-Ok
returns-in-Ok c = λ st allowed shows.
    select_goes st allowed c.args.self.now shows c.args.session c.args.key c.in-Ok.found
    c.reply_of.result c.row_of.new.self (sym c.in_default.ensures)
    (c.in-Ok.ensures.row st allowed shows) c.reply_of.ensures c.in-Ok.ensures.same

pub returns-in-Some : goal.returns-in-Some
returns-in-Some c = λ st allowed shows. go_select_held st allowed c.args.self.now shows
    c.args.session c.args.key c.in-Some.owner c.in-Some.ensures

pub returns-in-Err : goal.returns-in-Err
returns-in-Err c = λ st allowed shows. go_wanting st allowed c.args.self.now shows c.args.session
    (Select c.args.key) c.row_of.new.self refl c.in-Err.ensures.same
