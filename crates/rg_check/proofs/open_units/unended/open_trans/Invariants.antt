use Rattle.std.proofs.Common.{◌≡◌, ◌≤◌, ◌-◌, List, length}
use Rattle.rg_record.specs.declared.record.Record.{Record}
use Rattle.rg_check.specs.Chain.Kept.{IsKept}
use Rattle.rg_page.specs.Bare.{numbers_of}
use Rattle.rg_check.specs.OpenUnits.Unended.{open_to}
use Rattle.rg_check.proofs.open_units.unended.open_trans.Given as goal

abbrev pub decreases-loop-number : goal.decreases-loop-number
decreases-loop-number l = length l.chain.units - l.number

abbrev pub invariant-loop-number : goal.invariant-loop-number
invariant-loop-number l = record {
  bound : l.number ≤ length l.chain.units;
  listed : (rs : List Record) → IsKept rs l.chain → numbers_of l.trans.items ≡ open_to l.number rs;
}
