use Rattle.std.proofs.Common.{◌≡◌, take, false}
use Rattle.std.specs.List.{list_any}
use Rattle.rg_home.specs.Slots.{is_free}
use Rattle.rg_page.proofs.summary.Summary.has_gap.Given as goal

abbrev pub invariant-loop-i : goal.invariant-loop-i
invariant-loop-i l = list_any is_free (take l.i l.self) ≡ false
