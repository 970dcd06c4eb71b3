use Rattle.std.proofs.Common.{append_assoc}
use Rattle.rg_print.proofs.Pieces.{OnOk-map_err}
use Rattle.rg_print.proofs.utility.push_started.Goals as goal

pub returns : goal.returns
returns c = simp append_assoc
    (OnOk-map_err _ c.write.result c.map_err.result c.map_err.ensures.variant
    (rw c.number-copy.ensures.is at c.write.ensures.bytes))
