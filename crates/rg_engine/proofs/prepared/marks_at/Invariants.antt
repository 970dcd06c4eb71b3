use Rattle.std.proofs.Common.{◌≡◌, length}
use Rattle.rg_engine.specs.Prepared.{AreMarksAt}
use Rattle.rg_engine.proofs.prepared.marks_at.Given as goal

-- so many marks are made
abbrev pub invariant-loop : goal.invariant-loop
invariant-loop l = AreMarksAt l.counter l.fn.at.0 l.marks.items × (length l.marks.items ≡ l.counter)
