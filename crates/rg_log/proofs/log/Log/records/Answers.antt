use Rattle.std.proofs.Common.{ap, subst}
use Rattle.rg_image.specs.Kept.{AreEntries}
use Rattle.rg_log.specs.Kept.{Listed}
use Rattle.rg_log.proofs.log.Log.records.Goals as goal

pub returns-clause-entries : goal.returns-clause-entries
returns-clause-entries c =
    subst AreEntries (ap (λ (l : Listed). l.records) c.self.view_is) c.self.invariant.0.entries
