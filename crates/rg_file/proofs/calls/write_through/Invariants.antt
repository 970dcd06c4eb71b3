use Rattle.std.proofs.Common.{◌≤◌, ◌+◌}
use Rattle.std.specs.Io.KnownBytes.{Keeps}
use Rattle.rg_file.proofs.calls.write_through.Given as goal

abbrev pub invariant-loop : goal.invariant-loop
invariant-loop g l =
    record {
      kept : Keeps (g.W.Write.contents l.fn.writer) (g.W.Write.contents l.writer);
      later : l.fn.faults ≤ l.faults;
      tries : l.faults + 1 ≤ l.fn.faults + l.counter;
    }
