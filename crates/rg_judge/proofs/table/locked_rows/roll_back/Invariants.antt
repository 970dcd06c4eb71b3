use Rattle.std.proofs.Common.{◌≡◌}
use Rattle.std.specs.FinMap as map
use Rattle.rg_model.specs.Committed.{put_back, own_locks, locks_without}
use Rattle.rg_judge.proofs.table.locked_rows.roll_back.Given as goal

-- what is left to put back comes to the same, and the locks of the others stand
abbrev pub invariant-loop-key : goal.invariant-loop-key
invariant-loop-key l = record {
  rows : put_back (map.entries (own_locks l.session l.locks)) l.after
      ≡ put_back (map.entries (own_locks l.session l.fn.locks)) l.fn.table;
  locks : locks_without l.session l.locks ≡ locks_without l.session l.fn.locks;
}

abbrev pub decreases-loop-key : goal.decreases-loop-key
decreases-loop-key l = map.len l.locks
