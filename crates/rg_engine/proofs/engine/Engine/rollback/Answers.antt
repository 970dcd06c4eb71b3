use Rattle.std.proofs.Common.{sym, arith, refl}
use Rattle.rg_engine.proofs.RollbackGoes.{rollback_done, rollback_idle}
use Rattle.rg_engine.proofs.UndoBegins.{has_room}
use Rattle.rg_stmt.specs.declared.stmt.Stmt.TheVariants.{Rollback}
use Rattle.rg_engine.proofs.Statements.{go_wanting}
use Rattle.rg_engine.proofs.engine.Engine.rollback.Goals as goal

pub returns-in_default : goal.returns-in_default
returns-in_default c =
    λ st allowed shows. rollback_idle st allowed c.args.self.now c.args.session shows
    (omega (arith, c.requires.session.most)) c.end.new.self (sym c.in_default.ensures) c.end.ensures

pub log_rolled_back-requires : goal.log_rolled_back-requires
log_rolled_back-requires c =
    let st = c.requires.shown.state in
    let allowed = c.requires.shown.allowed in
    let shows = c.requires.shown.shows in
    omega (
      arith,
      (c.in-Ok.ensures.ok st allowed shows).least,
      has_room st allowed c.args.self.now shows c.args.session.0 c.in-Some.unit
          (sym c.in-Some.ensures),
      c.reserved-reserved.ensures,
      c.undo_bytes.ensures,
    )

pub returns : goal.returns
returns c = λ st allowed shows.
    rollback_done st allowed c.args.self.now c.args.session shows
    (omega (arith, c.requires.session.most)) c.undo_writes.new.self c.log_rolled_back.new.self
    c.end-2.new.self c.in-Some.unit c.in-Ok.last.0 _ (sym c.in-Some.ensures)
    (c.in-Ok.ensures.ok st allowed shows)
    (omega (
      arith,
      has_room st allowed c.args.self.now shows c.args.session.0 c.in-Some.unit
          (sym c.in-Some.ensures),
      c.reserved-reserved.ensures,
      c.undo_bytes.ensures,
    ))
    c.log_rolled_back.ensures c.end-2.ensures

pub returns-in_default-undo_writes : goal.returns-in_default-undo_writes
returns-in_default-undo_writes c = λ st allowed shows. go_wanting st allowed c.args.self.now shows
    c.args.session Rollback c.undo_writes.new.self refl c.in_default-undo_writes.ensures.err
