use Rattle.std.proofs.Common.{◌≡◌, take}
use Rattle.rg_gen.specs.Summary.{shown_in}
use Rattle.rg_gen.proofs.summary.find_shown.Given as goal

-- what the entries so far show
abbrev pub invariant-loop-entry : goal.invariant-loop-entry
invariant-loop-entry l = l.shown ≡ shown_in (take l.entry-index l.trace)
