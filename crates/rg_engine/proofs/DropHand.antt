-- The pages of a drop are at hand.
use Rattle.std.proofs.Common.{◌≡◌, ℕ, true, [], length, sym, subst}
use Rattle.rg_base.specs.declared.place.Place.{Place}
use Rattle.rg_home.specs.Pages.{slot_of}
use Rattle.rg_home.specs.Plan.{is_home, planned_drop}
use Rattle.rg_home.specs.Rows.{Tied}
use Rattle.rg_home.specs.declared.plan.Plan.{Plan}
use Rattle.rg_page.specs.Content.{slots_of}
use Rattle.rg_page.specs.Seen.{Seen}
use Rattle.rg_space.specs.Applied.{AllHeld}
use Rattle.rg_space.specs.Carries.{AllThere}
use Rattle.rg_space.specs.Ready.{AllReady, IsAtHand}
use Rattle.rg_space.proofs.Carried.{there_ready}
use Rattle.rg_space.proofs.Next.{drop_there}
use Rattle.rg_space.proofs.Whole.{slots_count}

pub drop_hand : (s : Seen) (capacity : ℕ) (home : Place) (plan : Plan)
    → Tied (slot_of (slots_of s.pages)) → is_home (slot_of (slots_of s.pages) home) ≡ true
    → plan ≡ planned_drop (slots_of s.pages) home (slot_of (slots_of s.pages) home)
    → plan.purge ≡ [] → AllHeld s plan.parts → IsAtHand s capacity plan
drop_hand s capacity home plan tied is_there is none held =
    let there : AllThere (length s.pages) plan.parts =
    subst (λ (n : ℕ). AllThere n plan.parts) (slots_count s.pages)
    (subst (λ (p : Plan). AllThere (length (slots_of s.pages)) p.parts) (sym is)
    (drop_there (slots_of s.pages) tied home is_there)) in
    record {
      purge = subst (AllReady s capacity) (sym none) tt;
      parts = there_ready s capacity plan.parts held there;
    }
