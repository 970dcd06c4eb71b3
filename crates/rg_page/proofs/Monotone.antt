-- What a page admits is bounded by its ceiling, whoever is live.
use Rattle.std.proofs.Common.{◌≡◌, ◌||◌, ℕ, ◌+◌, ◌≤◌, ◌<◌, Bool, true, false, nat_le, List, [], ◌∷◌}
use Rattle.std.proofs.Common.{map, refl, sym, ◌∙◌, ap, subst, if◌then◌else◌, arith}
use Rattle.std.specs.List.{list_any}
use Rattle.std.proofs.lemmas.Bool.{leb-true}
use Rattle.rg_home.specs.Slot.{Slot}
use Rattle.rg_home.specs.Slot.{Free, Row, Pointer, Over, DeadRow, DeadPointer, DeadOver}
use Rattle.rg_home.specs.Slots.{is_free, trim, capacity_of, used, cut, cost}
use Rattle.rg_home.proofs.Slots.{free_is, cut-full}
use Rattle.rg_home.specs.Plan.{is_ended, swept, purged, free, takes, admits}
use Rattle.rg_home.proofs.Offers.{capacity-swept}
use Rattle.rg_home.proofs.Fit.{used-swept}
use Rattle.rg_page.specs.Ceiling.{spared, ceiling}

swept_free : (live : List ℕ) (s : Slot) → is_free s ≡ true → swept live s ≡ Free
swept_free live Free e = refl
swept_free live (Row a b) e = absurd (cc (e))
swept_free live (Pointer a b) e = absurd (cc (e))
swept_free live (Over a b d) e = absurd (cc (e))
swept_free live (DeadRow a b) e = absurd (cc (e))
swept_free live (DeadPointer a b d) e = absurd (cc (e))
swept_free live (DeadOver a b d) e = absurd (cc (e))

spared_small : (b : Bool) → spared b ≤ 18
spared_small true = omega arith
spared_small false = omega arith

-- one slot more before the others: s as it was, t as it is once swept
module _ (s : Slot) (r p : List Slot) (u : used p ≤ used r)
    (h : used p + spared (list_any is_free r) ≤ used r + spared (list_any is_free p)) where
  More : List Slot → Type 0
  More q = used q + spared (is_free s || list_any is_free r)
      ≤ cost s + used r + spared (list_any is_free q)

  more_free : (q : List Slot) → q ≡ p
      → used (cut Free q) + spared (is_free s || list_any is_free r)
      ≤ cost s + used r + spared (list_any is_free (cut Free q))
  more_free [] e = omega (arith, spared_small (is_free s || list_any is_free r))
  more_free (x ∷ q) e = omega (arith, ap used e, spared_small (is_free s || list_any is_free r))

  more_full : (t : Slot) → is_free t ≡ false → is_free s ≡ false → capacity_of t ≤ capacity_of s
      → used (t ∷ p) + spared (is_free s || list_any is_free r)
      ≤ cost s + used r + spared (list_any is_free (t ∷ p))
  more_full t e f c = omega (
    arith,
    ap (λ (b : Bool). spared (b || list_any is_free r)) f,
    ap (λ (b : Bool). spared (b || list_any is_free p)) e,
  )

  more : (t : Slot) (b : Bool) → is_free t ≡ b → (is_free s ≡ true → is_free t ≡ true)
      → capacity_of t ≤ capacity_of s
      → used (cut t p) + spared (is_free s || list_any is_free r)
      ≤ cost s + used r + spared (list_any is_free (cut t p))
  more t true e f c = subst
      (λ (x : Slot). used (cut x p) + spared (is_free s || list_any is_free r)
      ≤ cost s + used r + spared (list_any is_free (cut x p))) (sym (free_is t e))
      (more_free p refl)
  more t false e f c = subst
      (λ (q : List Slot). used q + spared (is_free s || list_any is_free r)
      ≤ cost s + used r + spared (list_any is_free q)) (sym (cut-full t p e))
      (more_full t e (full (is_free s) refl) c)
    where
      full : (x : Bool) → is_free s ≡ x → is_free s ≡ false
      full true g = absurd (cc (f g, e))
      full false g = g

-- a purge offers no less
pub purged_offers : (live : List ℕ) (slots : List Slot)
    → used (purged live slots) + spared (list_any is_free slots)
    ≤ used slots + spared (list_any is_free (purged live slots))
purged_offers live [] = omega arith
purged_offers live (s ∷ slots) = more s slots (purged live slots) (used-swept live slots)
    (purged_offers live slots) (swept live s) (is_free (swept live s)) refl
    (λ e. ap is_free (swept_free live s e)) (capacity-swept live s)

-- what is purged once for some is purged again for all: as if for all at once

trim_cut : (live : List ℕ) (t : Slot) (r : List Slot)
    → trim (map (swept live) (cut t r)) ≡ cut (swept live t) (trim (map (swept live) r))
trim_cut live Free [] = refl
trim_cut live Free (x ∷ r) = refl
trim_cut live (Row a b) r = refl
trim_cut live (Pointer a b) r = refl
trim_cut live (Over a b d) r = refl
trim_cut live (DeadRow a b) r = refl
trim_cut live (DeadPointer a b d) r = refl
trim_cut live (DeadOver a b d) r = refl

swept_twice : (live : List ℕ) (s : Slot) → swept [] (swept live s) ≡ swept [] s
swept_twice live Free = refl
swept_twice live (Row a b) = refl
swept_twice live (Pointer a b) = refl
swept_twice live (Over a b d) = refl
swept_twice live (DeadRow a b) = go (is_ended live (DeadRow a b))
  where
    go : (x : Bool) → swept [] (if x then Free else DeadRow a b) ≡ Free
    go true = refl
    go false = refl
swept_twice live (DeadPointer a b d) = go (is_ended live (DeadPointer a b d))
  where
    go : (x : Bool) → swept [] (if x then Free else DeadPointer a b d) ≡ Free
    go true = refl
    go false = refl
swept_twice live (DeadOver a b d) = go (is_ended live (DeadOver a b d))
  where
    go : (x : Bool) → swept [] (if x then Free else DeadOver a b d) ≡ Free
    go true = refl
    go false = refl

pub purged_twice : (live : List ℕ) (slots : List Slot)
    → purged [] (purged live slots) ≡ purged [] slots
purged_twice live [] = refl
purged_twice live (s ∷ slots) = trim_cut [] (swept live s) (purged live slots)
    ∙ ap (λ (x : Slot). cut x (purged [] (purged live slots))) (swept_twice live s)
    ∙ ap (cut (swept [] s)) (purged_twice live slots)

takes_offer : (b : ℕ) (slots : List Slot) → 1 ≤ b → takes b slots ≡ true
    → b + 18 + used slots ≤ 4064 + spared (list_any is_free slots)
takes_offer b slots some e = go (list_any is_free slots) e
  where
    go : (g : Bool) → (if g then nat_le b (free slots) else nat_le (b + 18) (free slots)) ≡ true
        → b + 18 + used slots ≤ 4064 + spared g
    go true f = omega (arith, leb-true b (free slots) f)
    go false f = omega (arith, leb-true (b + 18) (free slots) f)

-- a page admits no area above its ceiling, whoever is live
pub admits_ceiling : (live : List ℕ) (b : ℕ) (slots : List Slot) → 1 ≤ b
    → admits live b slots ≡ true → b + 18 ≤ ceiling slots
admits_ceiling live b slots some e =
    let q = purged live slots in
    let t = takes_offer b q some e in
    let m = purged_offers [] q in
    let same : purged [] q ≡ purged [] slots = purged_twice live slots in
    omega (arith, t, m, ap used same, ap (λ (x : List Slot). spared (list_any is_free x)) same)

pub not_admits : (live : List ℕ) (b : ℕ) (slots : List Slot) → 1 ≤ b → ceiling slots < b + 18
    → admits live b slots ≡ false
not_admits live b slots some small = go (admits live b slots) refl
  where
    go : (g : Bool) → admits live b slots ≡ g → admits live b slots ≡ false
    go true e = absurd (omega (arith, admits_ceiling live b slots some e))
    go false e = e
