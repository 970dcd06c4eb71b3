use Rattle.std.proofs.Common.{◌≤◌, length, ap, subst}
use Rattle.rg_image.specs.Kept.{AreEntries}
use Rattle.rg_image.specs.Pack.{end_of, start}
use Rattle.rg_log.specs.Kept.{Listed}
use Rattle.rg_log.proofs.log.Log.count_forced.Goals as goal

pub returns-clause-entries : goal.returns-clause-entries
returns-clause-entries c =
    subst AreEntries (ap (λ (l : Listed). l.records) c.self.view_is) c.self.invariant.0.entries

abbrev InSet : Listed → Type 0
InSet l = 1 ≤ length l.records → (end_of start l.records).page ≤ l.pages

pub returns-clause-set : goal.returns-clause-set
returns-clause-set c = subst InSet c.self.view_is c.self.invariant.1.set
