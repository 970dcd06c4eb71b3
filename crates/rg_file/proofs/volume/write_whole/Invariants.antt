use Rattle.std.proofs.Common.{◌≡◌, ◌≤◌, ◌++◌, length, List, ℕ}
use Rattle.std.specs.Io.KnownBytes.{Appends}
use Rattle.rg_file.proofs.volume.write_whole.Given as goal

abbrev pub invariant-loop-rest : goal.invariant-loop-rest
invariant-loop-rest g l =
    record {
      given : (front : List ℕ) × (l.fn.from ≡ front ++ l.rest)
          × Appends (g.W.Write.contents l.fn.writer) (g.W.Write.contents l.writer) front;
      later : l.fn.faults ≤ l.faults;
    }

abbrev pub decreases-loop-rest : goal.decreases-loop-rest
decreases-loop-rest g l = length l.rest
