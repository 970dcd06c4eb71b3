use Rattle.std.proofs.Common.{arith, ap}
use Rattle.rg_page.specs.Content.{Content}
use Rattle.rg_page.proofs.Lays.{seen_used}
use Rattle.rg_page.proofs.page.Page.free.Goals as goal

pub returns : goal.returns
returns c =
    omega (
      arith,
      c.free.ensures,
      seen_used _ _ _ _ c.self.invariant (ap (λ (p : Content). p.slots) c.self.view_is),
    )
