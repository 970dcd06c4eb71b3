use Rattle.std.proofs.Common.{◌≡◌, ◌+◌, ◌++◌, drop}
use Rattle.rg_undo.specs.Unit.{changes_back}
use Rattle.rg_undo.proofs.unit.changes_back.Given as goal

abbrev pub invariant-loop-entry : goal.invariant-loop-entry
invariant-loop-entry l = record {
  at : l.at ≡ l.fn.position.0 + l.entry-index;
  changes : l.changes.items ++ changes_back l.at (drop l.entry-index l.entries)
      ≡ changes_back l.fn.position.0 l.entries;
}
