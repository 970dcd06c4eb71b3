use Rattle.std.proofs.Common.{arith}
use Rattle.std.proofs.lemmas.Result.{err_from_is_err_and}
use Rattle.rg_phase.specs.Made.{numbers_in}
use Rattle.rg_phase.proofs.Worked.{filled_by, none_by, packed_count, page_by}
use Rattle.rg_phase.proofs.step.Reorg.fill.Goals as goal

pub fill-requires : goal.fill-requires
fill-requires c =
    let packing = c.in_ok-packing.packing in
    record {
      rest =
          omega (
            arith,
            packed_count packing.options packing.packer c.args.inlet.now
                (numbers_in c.args.task.now).unloaded c.requires.rows
                c.in_ok-packing.ensures.packing,
            c.in_ok-packing.ensures.packs.placed,
            c.requires.due.1,
          );
    }

pub returns-clause-filled : goal.returns-clause-filled
returns-clause-filled c =
    filled_by c.args.task.now c.in_ok-packing.packing.packer c.in_ok-filled.filled
    c.fill.new.self.packer c.in_ok-packing.ensures.packs c.in_ok-filled.ensures.filled

pub returns-clause-page : goal.returns-clause-page
returns-clause-page c =
    page_by c.args.task.now c.in_ok-packing.packing.packer c.in_ok-filled.filled
    c.fill.new.self.packer c.in_ok-packing.ensures.packs c.in_ok-filled.ensures.filled
    (packed_count c.in_ok-packing.packing.options c.in_ok-packing.packing.packer
    c.args.inlet.now (numbers_in c.args.task.now).unloaded c.requires.rows
    c.in_ok-packing.ensures.packing)

pub returns-in_err-filled-clause-page : goal.returns-in_err-filled-clause-page
returns-in_err-filled-clause-page c =
    let p = err_from_is_err_and c.from_residual-in_err-filled.result
    c.from_residual-in_err-filled.ensures.1 in
    rw (p.1, p.2)
    (none_by c.args.task.now c.in_ok-packing.packing.packer c.in_err-filled.field-0.0
    c.in_ok-packing.ensures.packs c.in_err-filled.ensures.full)
