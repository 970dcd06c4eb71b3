use Rattle.std.proofs.Common.{◌≡◌, ◌++◌, ◌-◌, ◌^◌}
use Rattle.rg_model.specs.Plain.{keys_with_cat}
use Rattle.rg_base.specs.Start.{start_of}
use Rattle.rg_model.proofs.Walked.{keys_from}
use Rattle.rg_model.proofs.plain.walks.keys_with_cat.Given as goal

abbrev pub invariant-loop-key : goal.invariant-loop-key
invariant-loop-key l =
    l.keys.items ++ keys_from l.cat l.table (start_of l.last) ≡ keys_with_cat l.cat l.table

abbrev pub decreases-loop-key : goal.decreases-loop-key
decreases-loop-key l = 2 ^ 64 - start_of l.last
