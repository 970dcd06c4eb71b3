use Rattle.std.proofs.Common.{◌≤◌, ◌+◌}
use Rattle.rg_file.proofs.calls.sync_through.Given as goal

abbrev pub invariant-loop : goal.invariant-loop
invariant-loop g l =
    record {
      later : l.fn.faults ≤ l.faults;
      tries : l.faults + 1 ≤ l.fn.faults + l.counter;
    }
