use Rattle.std.proofs.Common.{◌≡◌, drop}
use Rattle.rg_restart.specs.Data.{switch_from, switch_of}
use Rattle.rg_restart.proofs.data.switch_of.Given as goal

abbrev pub invariant-loop-entry : goal.invariant-loop-entry
invariant-loop-entry l = switch_from l.last (drop l.entry-index l.records) ≡ switch_of l.records
