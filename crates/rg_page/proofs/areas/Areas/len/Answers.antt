use Rattle.std.proofs.Common.{arith}
use Rattle.rg_page.proofs.Buffer.{seen_count}
use Rattle.rg_page.proofs.areas.Areas.len.Goals as goal

pub returns : goal.returns
returns c =
    omega (
      arith,
      c.len.ensures,
      seen_count _ _ _ _ c.self.invariant c.self.view_is,
      c.self.inside.lengths.ok.0,
    )
