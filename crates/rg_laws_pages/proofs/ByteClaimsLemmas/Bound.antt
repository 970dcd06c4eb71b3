-- The bound of FULL at the top: pages at the opening, and what was added since.
use Rattle.std.proofs.Common.{◌≡◌, ℕ, ◌+◌, ◌*◌, ◌≤◌, Bool, List, [], length, get_or, None, arith}
use Rattle.rg_home.specs.Slot.{Slot}
use Rattle.rg_home.specs.Slots.{Fits}
use Rattle.rg_home.specs.Plan.{new_area}
use Rattle.rg_laws_pages.specs.ByteClaims.Claim.{claimed_all, Covers}
use Rattle.rg_laws_pages.proofs.ByteClaimsLemmas.Pages.{claimed_all-used}
use Rattle.rg_laws_pages.proofs.ByteClaimsLemmas.Full.{full_bound}

-- at an opening the pages claim no more than all their bytes
pub opened : (h : ℕ → Bool) (pages : List (List Slot)) → ((k : ℕ) → Fits (get_or pages k []))
    → claimed_all h pages ≤ 4064 * length pages + 0
opened h pages fits = omega (arith, claimed_all-used h pages fits)

-- Full
pub full_top : (h : ℕ → Bool) (live : List ℕ) → Covers h live
    → (opening more small capacity b : ℕ) (pages : List (List Slot)) → b ≤ 826 → small ≤ capacity
    → length pages ≤ capacity → claimed_all h pages ≤ 4064 * opening + more
    → new_area live b capacity pages ≡ None → 3200 * small ≤ 4064 * opening + more
full_top h live covers opening more small capacity b pages row least within a full =
    omega (arith, full_bound h live covers b capacity pages row within full)
