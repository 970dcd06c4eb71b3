use Rattle.std.proofs.Common.{◌≡◌, ◌++◌, ◌-◌, ◌^◌, ◌≤◌}
use Rattle.rg_model.specs.Plain.{rows_between}
use Rattle.rg_model.proofs.Walked.{rows_from}
use Rattle.rg_judge.specs.Table.Cats.{start_from}
use Rattle.rg_judge.proofs.table.cat_table.CatTable.rows_between.Given as goal

-- the rows so far, and those that come
abbrev pub invariant-loop-key : goal.invariant-loop-key
invariant-loop-key l = record {
  low : l.lo ≤ start_from l.lo l.last;
  rows : l.rows.items ++ rows_from l.lo l.hi l.self (start_from l.lo l.last)
      ≡ rows_between l.lo l.hi l.self;
}

abbrev pub decreases-loop-key : goal.decreases-loop-key
decreases-loop-key l = 2 ^ 64 - start_from l.lo l.last
