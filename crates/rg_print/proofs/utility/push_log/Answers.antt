use Rattle.std.proofs.Common.{append_assoc}
use Rattle.rg_print.proofs.Pieces.{OnOk-map_err}
use Rattle.rg_print.proofs.utility.push_log.Goals as goal

pub returns : goal.returns
returns c =
    let named = rw c.verdict_words-verdict.ensures at c.write.ensures.bytes in
    simp append_assoc
    (OnOk-map_err _ c.write.result c.map_err.result c.map_err.ensures.variant named)
