use Rattle.rg_page.specs.Bare.{numbers_of}
use Rattle.std.proofs.Common.{◌≡◌, ◌<◌, ℕ, false}
use Rattle.rg_home.specs.Slots.{is_free, slot_at}
use Rattle.rg_home.specs.Plan.{swept}
use Rattle.rg_page.proofs.summary.Summary.first_purged.Given as goal

abbrev pub invariant-loop-i : goal.invariant-loop-i
invariant-loop-i l =
    (k : ℕ) → k < l.i → is_free (swept (numbers_of l.live) (slot_at l.self k)) ≡ false
