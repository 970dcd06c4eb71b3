use Rattle.std.proofs.Common.{ap}
use Rattle.rg_reload.specs.Reloading.{Reloading}
use Rattle.rg_phase.proofs.Drafting.{packing_begun, rows_apart}
use Rattle.rg_phase.proofs.draft.Packing.begin.Goals as goal

pub new-requires : goal.new-requires
new-requires c = rows_apart c.args.inlet.now.items c.copies.result.now c.in_ok-rows.rows
    c.requires.lawful c.copies.ensures c.in_ok-rows.ensures

pub returns-clause-packing : goal.returns-clause-packing
returns-clause-packing c =
    packing_begun c.args.task.now.stage.options c.in_ok-packer.packer c.args.inlet.now.items
    c.copies.result.now c.args.inlet.now.taken c.in_ok-rows.rows c.requires.none c.copies.ensures
    c.in_ok-rows.ensures
    c.in_ok-packer.ensures.rows c.in_ok-packer.ensures.order
    (ap (λ (p : Reloading). p.options) c.in_ok-packer.ensures.start)
