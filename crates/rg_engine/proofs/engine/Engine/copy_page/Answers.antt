use Rattle.std.proofs.Common.{length, refl, ap}
use Rattle.rg_engine.proofs.CopyOf.{copy_few, copy_is}
use Rattle.rg_engine.proofs.engine.Engine.copy_page.Goals as goal

pub count_rows-rows-requires : goal.count_rows-rows-requires
count_rows-rows-requires c = copy_few c.args.self.now c.requires.shown _ c.args.page c.in-Ok.item _
    (c.in-Ok.ensures.copy refl) (c.in-Ok.ensures.reads.same refl)

pub returns-clause-copy : goal.returns-clause-copy
returns-clause-copy c = copy_is c.args.self.now c.requires.shown _ c.args.page c.in-Ok.item _
    c.count_rows-rows.result (c.in-Ok.ensures.copy refl) (c.in-Ok.ensures.well refl)
    (c.in-Ok.ensures.rows refl) (c.in-Ok.ensures.reads.same refl) c.count_rows-rows.ensures
    (ap length c.records.ensures.records)
