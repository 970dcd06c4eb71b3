use Rattle.std.proofs.Common.{◌≤◌, ◌+◌}
use Rattle.std.specs.Io.KnownBytes.{Keeps}
use Rattle.std.specs.Io.Seek.{StaysAt}
use Rattle.rg_file.proofs.calls.seek_through.Given as goal

abbrev pub invariant-loop : goal.invariant-loop
invariant-loop g l =
    record {
      stays : StaysAt (g.F.Seek.stream_position l.fn.file) (g.F.Seek.stream_position l.file);
      bytes : Keeps (g.F.Seek.stream_bytes l.fn.file) (g.F.Seek.stream_bytes l.file);
      later : l.fn.faults ≤ l.faults;
      tries : l.faults + 1 ≤ l.fn.faults + l.counter;
    }
