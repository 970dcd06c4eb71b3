use Rattle.std.proofs.Common.{ap}
use Rattle.rg_page.specs.Content.{Content}
use Rattle.rg_page.proofs.Lays.{seen_bare}
use Rattle.rg_page.proofs.page.Page.summary.Goals as goal

pub returns : goal.returns
returns c = seen_bare _ _ _ _ c.self.invariant (ap (λ (p : Content). p.slots) c.self.view_is)
