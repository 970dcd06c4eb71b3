use Rattle.std.proofs.Common.{◌≡◌, ◌++◌, ◌-◌, ◌^◌, ℕ, true, map}
use Rattle.std.specs.FinMap as fin
use Rattle.rg_base.specs.declared.row.Row.{Row}
use Rattle.rg_base.specs.Start.{start_of}
use Rattle.rg_model.proofs.Walked.{mapped_from}
use Rattle.rg_judge.proofs.layouts.packing.all_rows.Given as goal

abbrev pub invariant-loop-key : goal.invariant-loop-key
invariant-loop-key l =
    l.rows.items
    ++ mapped_from (λ (entry : ℕ × Row). entry.1) (λ (entry : ℕ × Row). true) l.table
    (start_of l.last)
    ≡ map (λ (entry : ℕ × Row). entry.1) (fin.entries l.table)

abbrev pub decreases-loop-key : goal.decreases-loop-key
decreases-loop-key l = 2 ^ 64 - start_of l.last
