use Rattle.std.proofs.Common.{sym}
use Rattle.rg_engine.proofs.UndoBegins.{has_writes}
use Rattle.rg_engine.proofs.engine.Engine.rows_made.Goals as goal

pub rows_found-requires : goal.rows_found-requires
rows_found-requires c =
    let shown = c.requires.shown in
    record {
      writes = has_writes shown.state shown.allowed c.args.self.now shown.shows c.args.session.0
          c.in-Some.unit (sym c.in-Some.ensures);
    }
