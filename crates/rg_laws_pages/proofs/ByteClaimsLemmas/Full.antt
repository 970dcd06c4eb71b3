-- Full comes only where 3,221 bytes a page are claimed.
use Rattle.std.proofs.Common.{◌≡◌, ◌==◌, ℕ, ◌+◌, ◌*◌, ◌<◌, ◌≤◌, Bool, true, false, zero, suc, not}
use Rattle.std.proofs.Common.{nat_le, List, [], ◌∷◌, map, length, get_or, Option, Some, None, refl}
use Rattle.std.proofs.Common.{if◌then◌else◌, arith}
use Rattle.std.specs.List.{list_any}
use Rattle.std.proofs.lemmas.Bool.{leb-false}
use Rattle.rg_home.specs.Slot.{Slot}
use Rattle.rg_home.specs.Slot.{Free, Row, Pointer, Over, DeadRow, DeadPointer, DeadOver}
use Rattle.rg_home.specs.Slots.{is_free, capacity_of, used}
use Rattle.rg_home.specs.Pages.{page_at, slot_of}
use Rattle.rg_home.specs.Plan.{swept, purged, free, takes, admits, new_area, away, changed, fitting}
use Rattle.rg_home.specs.Plan.{from_over, planned_change, planned_put, to_new}
use Rattle.rg_home.specs.declared.plan.Area.{Area}
use Rattle.rg_home.specs.declared.plan.Fitting.{Fitting}
use Rattle.rg_base.specs.declared.place.Place.{Place}
use Rattle.rg_home.proofs.Offers.{used-trim}
use Rattle.rg_home.proofs.Full.{full_means}
use Rattle.rg_laws_pages.specs.ByteClaims.Claim.{claim_of, claimed, claimed_all, Covers}

module _ (h : ℕ → Bool) (live : List ℕ) (covers : Covers h live) where
  dead_swept : (c t : ℕ) (s : Slot) → capacity_of s ≡ c → (b a : Bool)
      → list_any (λ u. u == t) live ≡ b → h t ≡ a
      → capacity_of (if not b then Free else s) ≤ (if a then c else 0)
  dead_swept c t s e false a eb ea = omega arith
  dead_swept c t s e true true eb ea = omega (arith, e)
  dead_swept c t s e true false eb ea = absurd (cc (covers t eb, ea))

  capacity_swept : (s : Slot) → capacity_of (swept live s) ≤ claim_of h s
  capacity_swept Free = omega arith
  capacity_swept (Row a b) = omega arith
  capacity_swept (Pointer a b) = omega arith
  capacity_swept (Over a b d) = omega arith
  capacity_swept (DeadRow a b) =
      dead_swept a b (DeadRow a b) refl (list_any (λ u. u == b) live) (h b) refl refl
  capacity_swept (DeadPointer a b d) =
      dead_swept a d (DeadPointer a b d) refl (list_any (λ u. u == d) live) (h d) refl refl
  capacity_swept (DeadOver a b d) =
      dead_swept a d (DeadOver a b d) refl (list_any (λ u. u == d) live) (h d) refl refl

  used_swept : (slots : List Slot) → used (map (swept live) slots) ≤ claimed h slots
  used_swept [] = omega arith
  used_swept (s ∷ slots) = omega (arith, capacity_swept s, used_swept slots)

  used_purged : (slots : List Slot) → used (purged live slots) ≤ claimed h slots
  used_purged slots = omega (arith, used-trim (map (swept live) slots), used_swept slots)

  little_room : (b : ℕ) (slots : List Slot) → b ≤ 826 → takes b slots ≡ false → 3221 ≤ used slots
  little_room b slots small e = go (list_any is_free slots) e
    where
      go : (g : Bool) → (if g then nat_le b (free slots) else nat_le (b + 18) (free slots)) ≡ false
          → 3221 ≤ used slots
      go true f = omega (arith, leb-false b (free slots) f)
      go false f = omega (arith, leb-false (b + 18) (free slots) f)

  -- a page that does not admit a row is claimed for 3,221 bytes
  pub full_page : (b : ℕ) (slots : List Slot) → b ≤ 826 → admits live b slots ≡ false
      → 3221 ≤ claimed h slots
  full_page b slots small e =
      omega (arith, little_room b (purged live slots) small e, used_purged slots)

  full_pages : (b : ℕ) (pages : List (List Slot)) → b ≤ 826
      → ((k : ℕ) → k < length pages → admits live b (get_or pages k []) ≡ false)
      → 3221 * length pages ≤ claimed_all h pages
  full_pages b [] small none = omega arith
  full_pages b (x ∷ pages) small none = omega (
    arith,
    full_page b x small (none zero (omega arith)),
    full_pages b pages small (λ k l. none (suc k) (omega arith)),
  )

  pub full_bound : (b capacity : ℕ) (pages : List (List Slot)) → b ≤ 826 → length pages ≤ capacity
      → new_area live b capacity pages ≡ None → 3221 * capacity ≤ claimed_all h pages
  full_bound b capacity pages small within e =
      let m = full_means live b capacity pages within e in
      omega (arith, m.0, full_pages b pages small m.1)

-- a put or a change has no plan only where there is no new area
module _ (live : List ℕ) (b capacity : ℕ) (pages : List (List Slot)) where
  none_put : (area : Option Area) → planned_put live b pages area ≡ None → area ≡ None
  none_put None e = refl
  none_put (Some area) e = absurd (cc (e))

  pub no_put : planned_put live b pages (new_area live b capacity pages) ≡ None
      → new_area live b capacity pages ≡ None
  no_put e = none_put (new_area live b capacity pages) e

  none_new : (home : Place) (area : Option Area) → to_new live b pages home area ≡ None
      → area ≡ None
  none_new home None e = refl
  none_new home (Some area) e = absurd (cc (e))

  none_over : (home other : Place) (f : Option Fitting)
      → from_over live b capacity pages home other f ≡ None → new_area live b capacity pages ≡ None
  none_over home other (Some f) e = absurd (cc (e))
  none_over home other None e = none_new home (new_area live b capacity pages) e

  none_away : (home : Place) (s : Slot) → away live b capacity pages home s ≡ None
      → new_area live b capacity pages ≡ None
  none_away home (Pointer c other) e = none_over home other
      (fitting live b (capacity_of (slot_of pages other)) (page_at pages other.page)) e
  none_away home Free e = none_new home (new_area live b capacity pages) e
  none_away home (Row x y) e = none_new home (new_area live b capacity pages) e
  none_away home (Over x y z) e = none_new home (new_area live b capacity pages) e
  none_away home (DeadRow x y) e = none_new home (new_area live b capacity pages) e
  none_away home (DeadPointer x y z) e = none_new home (new_area live b capacity pages) e
  none_away home (DeadOver x y z) e = none_new home (new_area live b capacity pages) e

  none_changed : (home : Place) (f : Option Fitting) → changed live b capacity pages home f ≡ None
      → new_area live b capacity pages ≡ None
  none_changed home (Some f) e = absurd (cc (e))
  none_changed home None e = none_away home (slot_of pages home) e

  pub no_change : (home : Place) → planned_change live b capacity pages home ≡ None
      → new_area live b capacity pages ≡ None
  no_change home e = none_changed home
      (fitting live b (capacity_of (slot_of pages home)) (page_at pages home.page)) e
