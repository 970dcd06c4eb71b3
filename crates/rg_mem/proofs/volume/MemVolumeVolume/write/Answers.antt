use Rattle.std.proofs.Common.{sym, ◌∙◌}
use Rattle.rg_mem.specs.Listed.{write_call}
use Rattle.rg_mem.proofs.Noting.{write_failed, write_succeeded}
use Rattle.rg_mem.proofs.volume.MemVolumeVolume.write.Goals as goal

pub returns-then-is_some-clause-made : goal.returns-then-is_some-clause-made
returns-then-is_some-clause-made c = (
  write_call c.args.set c.args.page c.args.from.now c.fault-fault.result,
  write_failed c.fault-fault.result (record {}) c.args.set c.args.page c.args.from.now
      (sym c.is_some.ensures ∙ c.if-is_some.true),
  c.note_write.ensures.made,
)

pub returns-clause-made : goal.returns-clause-made
returns-clause-made c = (
  write_call c.args.set c.args.page c.args.from.now c.fault-fault.result,
  write_succeeded c.fault-fault.result tt c.args.set c.args.page c.args.from.now
      (sym c.is_some.ensures ∙ c.if-is_some.false),
  c.note_write.ensures.made,
)
