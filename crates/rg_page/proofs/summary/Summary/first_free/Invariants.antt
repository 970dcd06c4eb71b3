use Rattle.std.proofs.Common.{◌≡◌, ◌<◌, ℕ, false}
use Rattle.rg_home.specs.Slots.{is_free, slot_at}
use Rattle.rg_page.proofs.summary.Summary.first_free.Given as goal

abbrev pub invariant-loop-i : goal.invariant-loop-i
invariant-loop-i l = (k : ℕ) → k < l.i → is_free (slot_at l.self k) ≡ false
