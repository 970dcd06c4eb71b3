use Rattle.std.proofs.Common.{◌∙◌, ap, arith}
use Rattle.rg_base.specs.declared.part.SlotOp.TheVariants.{Free}
use Rattle.rg_record.specs.Spelling.{parts_size}
use Rattle.rg_record.proofs.Sizes.{parts_size_at, parts_end, frees_size}
use Rattle.rg_record.proofs.size.parts_size.Goals as goal

pub loop-part-preserved : goal.loop-part-preserved
loop-part-preserved c =
    let at =
    parts_size_at c.args.parts.now c.loop-part.part-index (record { page = 0; slot = 0; op = Free })
    c.loop-part-test.true in (
      omega (arith, at, c.op_size.ensures.size, c.loop-part.invariant.0),
      omega (arith, c.op_size.ensures.high, c.loop-part.invariant.1),
    )

pub returns-clause-size : goal.returns-clause-size
unfolding parts_size
returns-clause-size c =
    let none = parts_end c.args.parts.now c.loop-part.part-index c.loop-part-test.false in
    omega (arith, c.loop-part.invariant.0, ap parts_size none)

pub returns-clause-frees : goal.returns-clause-frees
returns-clause-frees c = λ frees. returns-clause-size c ∙ frees_size c.args.parts.now frees
