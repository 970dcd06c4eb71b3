use Rattle.std.proofs.Common.{ap}
use Rattle.rg_outside.specs.Calls.{left_after, left_of, read_of}
use Rattle.rg_outside.proofs.laws.write_adds_one.Goals as goal

pub returns : goal.returns
returns c = λ told call set page bytes reads s p is. ap
    (λ effect. left_after effect (left_of told.first told.calls s p)
    (read_of told.first told.calls s p) s p) is
