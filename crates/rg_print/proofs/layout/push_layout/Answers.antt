use Rattle.std.proofs.Common.{append_assoc}
use Rattle.rg_print.proofs.layout.push_layout.Goals as goal

pub returns : goal.returns
returns c = simp append_assoc
    (simp (append_assoc, c.in_ok-push_named.ensures, c.from.ensures, c.number.ensures.is) at
    c.push_side.ensures)
