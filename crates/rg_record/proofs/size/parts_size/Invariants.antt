use Rattle.std.proofs.Common.{◌≡◌, ◌≤◌, ◌+◌, ◌*◌, drop}
use Rattle.rg_record.specs.Spelling.{parts_size}
use Rattle.rg_record.proofs.size.parts_size.Given as goal

abbrev pub invariant-loop-part : goal.invariant-loop-part
invariant-loop-part l =
    (l.size + parts_size (drop l.part-index l.parts) ≡ parts_size l.parts)
    × (l.size ≤ 15 * l.part-index)
