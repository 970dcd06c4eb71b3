use Rattle.std.proofs.Common.{append_assoc}
use Rattle.rg_print.proofs.print.push_damaged.Goals as goal

pub returns : goal.returns
returns c = simp append_assoc
    (simp (
      append_assoc,
      c.in_ok-push_named.ensures,
      c.in_ok-push_word.ensures,
      c.set_name.ensures,
      c.from.ensures,
    ) at c.push.ensures)
