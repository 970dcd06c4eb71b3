use Rattle.std.proofs.Common.{◌≤◌, ◌+◌}
use Rattle.std.specs.Io.KnownBytes.{Keeps}
use Rattle.rg_file.proofs.calls.read_through.Given as goal

abbrev pub invariant-loop : goal.invariant-loop
invariant-loop g l =
    record {
      kept : Keeps (g.R.Read.remaining l.fn.reader) (g.R.Read.remaining l.reader);
      later : l.fn.faults ≤ l.faults;
      tries : l.faults + 1 ≤ l.fn.faults + l.counter;
    }
