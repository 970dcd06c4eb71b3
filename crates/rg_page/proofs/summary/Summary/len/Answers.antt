use Rattle.std.proofs.Common.{arith}
use Rattle.rg_home.proofs.Slots.{used-length}
use Rattle.rg_page.proofs.summary.Summary.len.Goals as goal

pub overflow_cast-result : goal.overflow_cast-result
overflow_cast-result c =
    record {
      fits = omega (
        arith,
        used-length c.self.inside.headers.items,
        c.self.invariant.fits,
        c.self.inside.headers.ok.0,
      );
    }
