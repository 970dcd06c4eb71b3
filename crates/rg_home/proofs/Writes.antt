-- One, two and three slots written.
use Rattle.std.proofs.Common.{◌≡◌, ℕ, ◌≤◌, zero, suc, Bool, true, false, List, [], ◌∷◌, refl, ◌∙◌}
use Rattle.std.proofs.Common.{ap, if◌then◌else◌, arith}
use Rattle.rg_base.specs.declared.place.Place.{Place}
use Rattle.rg_home.specs.Slot.{Slot}
use Rattle.rg_home.specs.Slot.{Free}
use Rattle.rg_home.specs.Slots.{slot_at}
use Rattle.rg_base.specs.Place.{same_place}
use Rattle.rg_home.specs.Pages.{page_at, slot_of, wrote}
use Rattle.rg_home.proofs.Cases.{touched, override_same, override_other}
use Rattle.rg_home.proofs.Look.{slot_of-wrote}

-- where a slot is not Free, its page's number is above 0
pub page_low : (pages : List (List Slot)) (p : Place) → (slot_of pages p ≡ Free → ⊥) → 1 ≤ p.page
page_low pages p n =
    go p.page (λ (e : p.page ≡ 0). n (ap (λ (m : ℕ). slot_at (page_at pages m) p.slot) e))
  where
    go : (m : ℕ) → (m ≡ 0 → ⊥) → 1 ≤ m
    go zero n = absurd (n refl)
    go (suc m) n = omega arith

first_off : (p q : Place) (ps : List Place) → touched (p ∷ ps) q ≡ false
    → (same_place q p ≡ false) × (touched ps q ≡ false)
first_off p q ps e = go (same_place q p) refl e
  where
    go : (b : Bool) → same_place q p ≡ b → (if b then true else touched ps q) ≡ false
        → (same_place q p ≡ false) × (touched ps q ≡ false)
    go true h e = absurd (cc (e))
    go false h e = (h, e)

module _ (pages : List (List Slot)) (p : Place) (s : Slot) (low : 1 ≤ p.page) where
  pub wrote_here : slot_of (wrote pages p s) p ≡ s
  wrote_here = slot_of-wrote pages p p s low ∙ override_same (slot_of pages) p s

  pub wrote_there : (q : Place) → same_place q p ≡ false
      → slot_of (wrote pages p s) q ≡ slot_of pages q
  wrote_there q e = slot_of-wrote pages p q s low ∙ override_other (slot_of pages) p q s e

  pub wrote_off : (q : Place) → touched (p ∷ []) q ≡ false
      → slot_of (wrote pages p s) q ≡ slot_of pages q
  wrote_off q e = wrote_there q (first_off p q [] e).0

pub wrote_off2 : (pages : List (List Slot)) (p q : Place) (s t : Slot) → 1 ≤ p.page → 1 ≤ q.page
    → (x : Place) → touched (p ∷ q ∷ []) x ≡ false
    → slot_of (wrote (wrote pages p s) q t) x ≡ slot_of pages x
wrote_off2 pages p q s t lp lq x e =
    let a = first_off p x (q ∷ []) e in
    wrote_off (wrote pages p s) q t lq x a.1 ∙ wrote_there pages p s lp x a.0

pub wrote_off3 : (pages : List (List Slot)) (p q r : Place) (s t u : Slot) → 1 ≤ p.page → 1 ≤ q.page
    → 1 ≤ r.page → (x : Place) → touched (p ∷ q ∷ r ∷ []) x ≡ false
    → slot_of (wrote (wrote (wrote pages p s) q t) r u) x ≡ slot_of pages x
wrote_off3 pages p q r s t u lp lq lr x e =
    let a = first_off p x (q ∷ r ∷ []) e in
    let b = first_off q x (r ∷ []) a.1 in
    wrote_off (wrote (wrote pages p s) q t) r u lr x b.1
    ∙ wrote_there (wrote pages p s) q t lq x b.0 ∙ wrote_there pages p s lp x a.0
