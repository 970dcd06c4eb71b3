use Rattle.std.proofs.Common.{◌≡◌, ◌≤◌, take, count_by}
use Rattle.rg_gen.specs.Summary.{is_answered}
use Rattle.rg_gen.proofs.summary.count_answered.Given as goal

-- how many of the entries so far are counted
abbrev pub invariant-loop-entry : goal.invariant-loop-entry
invariant-loop-entry l = record {
  counted : l.count ≡ count_by (is_answered l.done) (take l.entry-index l.trace);
  below : l.count ≤ l.entry-index;
}
