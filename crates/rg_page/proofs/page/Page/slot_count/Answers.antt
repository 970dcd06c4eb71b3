use Rattle.std.proofs.Common.{◌∙◌, ap, arith}
use Rattle.rg_page.specs.Content.{Content}
use Rattle.rg_page.proofs.Lays.{seen_count, seen_used, seen_trimmed}
use Rattle.rg_page.proofs.page.Page.slot_count.Goals as goal

pub returns-clause-count : goal.returns-clause-count
returns-clause-count c =
    c.len.ensures.count
    ∙ seen_count _ _ _ _ c.self.invariant (ap (λ (p : Content). p.slots) c.self.view_is)

pub returns-clause-fits : goal.returns-clause-fits
returns-clause-fits c =
    omega (
      arith,
      c.len.ensures.fits,
      seen_used _ _ _ _ c.self.invariant (ap (λ (p : Content). p.slots) c.self.view_is),
    )

pub returns-clause-trimmed : goal.returns-clause-trimmed
returns-clause-trimmed c = seen_trimmed _ _ _ _ c.self.invariant
    (ap (λ (p : Content). p.slots) c.self.view_is) c.len.ensures.trimmed
