use Rattle.std.proofs.Common.{◌≡◌, ◌+◌, drop}
use Rattle.rg_image.specs.Rules.{position_after}
use Rattle.rg_log.proofs.open.last_position.Given as goal

abbrev pub invariant-loop-entry : goal.invariant-loop-entry
invariant-loop-entry l =
    position_after (l.last + 1) (drop l.entry-index l.records) ≡ position_after 1 l.records
