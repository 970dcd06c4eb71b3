use Rattle.std.proofs.Common.{sym, subst}
use Rattle.rg_check.specs.Chain.Tested.{IsLogTest}
use Rattle.rg_check.specs.declared.chain.test.LogTest.TheVariants.{Sound}
use Rattle.rg_image.specs.Kept.{AreEntries}
use Rattle.rg_redo.proofs.CurrentCopyLemmas.Covering.{covers_all}
use Rattle.rg_redo.specs.CurrentCopy.Laws.{CoversAll}
use Rattle.rg_restart.proofs.open.sound_log.Goals as goal

pub test_log-requires-clause-entries : goal.test_log-requires-clause-entries
test_log-requires-clause-entries g c =
    subst AreEntries (sym c.records.ensures.records) c.records.ensures.entries

pub returns-in-Ok-Sound-clause-covers : goal.returns-in-Ok-Sound-clause-covers
returns-in-Ok-Sound-clause-covers g c =
    let test : IsLogTest (g.V.Volume.seen c.args.volume.now).capacities c.records.result.now
    (Sound c.in-Ok-Sound.chain) =
    subst (IsLogTest (g.V.Volume.seen c.args.volume.now).capacities c.records.result.now)
    c.in-Ok-Sound.field-0-is c.in-Ok-Sound.ensures in
    subst (CoversAll (g.V.Volume.seen c.args.volume.now).capacities) c.records.ensures.records
    (covers_all (g.V.Volume.seen c.args.volume.now).capacities c.records.result.now test.0
    (subst AreEntries (sym c.records.ensures.records) c.records.ensures.entries))
