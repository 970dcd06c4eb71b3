use Rattle.std.proofs.Common.{sym, subst, refl}
use Rattle.rg_stmt.specs.declared.stmt.Reply.TheVariants.{Listed}
use Rattle.rg_stmt.specs.declared.stmt.Stmt.TheVariants.{Scan}
use Rattle.rg_engine.specs.Steps.{Goes}
use Rattle.rg_engine.proofs.ReadsGo.{scan_goes, scan_held_goes}
use Rattle.rg_engine.proofs.Statements.{go_wanting}
use Rattle.rg_engine.proofs.engine.Engine.scan.Goals as goal

pub returns-in-Some : goal.returns-in-Some
returns-in-Some c = λ st allowed shows. scan_held_goes st allowed c.args.self.now shows
    c.args.session c.args.lo c.args.hi (c.in-Some.field-0-0, c.in-Some.owner) c.in-Some.ensures

pub returns-in-Ok : goal.returns-in-Ok
returns-in-Ok c = λ st allowed shows.
    subst
    (λ rows. Goes st allowed c.args.self.now c.args.session (Scan c.args.lo c.args.hi) (Listed rows)
    c.rows_between.new.self) (sym c.new.ensures)
    (scan_goes st allowed c.args.self.now shows c.args.session c.args.lo c.args.hi
    c.in-Ok.rows.items c.rows_between.new.self c.in_default.ensures c.in-Ok.ensures.rows
    c.in-Ok.ensures.same)

pub returns-in-Err : goal.returns-in-Err
returns-in-Err c = λ st allowed shows. go_wanting st allowed c.args.self.now shows c.args.session
    (Scan c.args.lo c.args.hi) c.rows_between.new.self refl c.in-Err.ensures.same
