use Rattle.std.proofs.Common.{◌≡◌, ◌-◌}
use Rattle.rg_record.specs.Reading.{parts_at}
use Rattle.rg_record.proofs.Loop.{with_front}
use Rattle.rg_record.proofs.read.parts_at.Given as goal

abbrev pub invariant-loop : goal.invariant-loop
invariant-loop l =
    with_front l.parts.items (parts_at (l.count - l.counter) l.rest) ≡ parts_at l.count l.bytes
