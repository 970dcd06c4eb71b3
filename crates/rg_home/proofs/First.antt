-- First fit: the page and the slot of a new area, and when there is none.
use Rattle.std.proofs.Common.{◌≡◌, ◌↔◌, ℕ, ◌+◌, ◌≤◌, ◌<◌, zero, suc, Bool, true, false, nat_lt, not}
use Rattle.std.proofs.Common.{List, [], length, get_or, Option, Some, None, IfSome, refl, sym, ◌∙◌}
use Rattle.std.proofs.Common.{ap, subst, if◌then◌else◌, arith}
use Rattle.std.proofs.lemmas.Bool.{ltb-true}
use Rattle.std.proofs.lemmas.List.Sums.{fails_before_first, passes_at_first, prefix_len-le-length}
use Rattle.rg_base.specs.declared.place.Place.{Place}
use Rattle.rg_home.specs.Slot.{Slot}
use Rattle.rg_home.specs.Slot.{Free}
use Rattle.rg_home.specs.Slots.{slot_at, is_free, capacity_of}
use Rattle.rg_home.specs.declared.plan.Area.{Area}
use Rattle.rg_home.specs.declared.plan.Fitting.{Fitting}
use Rattle.rg_home.specs.Pages.{page_at, slot_of}
use Rattle.rg_home.specs.Plan.{admits, takes, purged, first_free, first_page, area_when, area_on}
use Rattle.rg_home.specs.Plan.{new_area, fitting, to_new, from_over, away, changed, planned_put}
use Rattle.rg_home.specs.Plan.{planned_change}
use Rattle.rg_home.specs.Laws.{NoneAdmits, IsFirstFit, FitsNowhere}
use Rattle.rg_home.specs.Slot.{Row, Pointer, Over, DeadRow, DeadPointer, DeadOver}
use Rattle.rg_home.proofs.Sweep.{free_at-first}
use Rattle.rg_home.proofs.Offers.{page_at-next}
use Rattle.rg_home.proofs.Full.{full_means, means_full}

lower_full : (slots : List Slot) (i : ℕ) → i < first_free slots → is_free (slot_at slots i) ≡ false
lower_full slots i h = fails_before_first is_free slots i Free h

page_past : (pages : List (List Slot)) (n : ℕ) → 1 ≤ n → (m : ℕ) → n ≡ m + 1
    → page_at pages n ≡ get_or pages m []
page_past pages n low m e = ap (page_at pages) e ∙ page_at-next pages m

module _ (live : List ℕ) (b capacity : ℕ) (pages : List (List Slot)) where
  abbrev at_first : ℕ
  at_first = first_page live b pages

  earlier : (n : ℕ) → 1 ≤ n → n < first_page live b pages + 1
      → admits live b (page_at pages n) ≡ false
  earlier zero low h = absurd (omega arith)
  earlier (suc k) low h = fails_before_first (admits live b) pages k [] (omega arith)

  there : first_page live b pages + 1 ≤ length pages
      → admits live b (page_at pages (first_page live b pages + 1)) ≡ true
  there h = ap (admits live b) (page_at-next pages (first_page live b pages))
      ∙ passes_at_first (admits live b) pages [] (omega arith)

  on_page : first_page live b pages < capacity → (t : Bool)
      → takes b (page_at pages (first_page live b pages + 1)) ≡ t
      → IsFirstFit live b capacity pages
      (area_when live (first_page live b pages + 1) (page_at pages (first_page live b pages + 1)) t)
  on_page h true e = record {
    low = omega arith;
    within = omega (arith, h);
    next = omega (arith, prefix_len-le-length (λ (x : List Slot). not (admits live b x)) pages);
    admitted = there;
    first = earlier;
    needed = sym (ap not e);
    free = free_at-first (page_at pages (first_page live b pages + 1));
    lowest = lower_full (page_at pages (first_page live b pages + 1));
  }
  on_page h false e = record {
    low = omega arith;
    within = omega (arith, h);
    next = omega (arith, prefix_len-le-length (λ (x : List Slot). not (admits live b x)) pages);
    admitted = there;
    first = earlier;
    needed = sym (ap not e);
    free = free_at-first (purged live (page_at pages (first_page live b pages + 1)));
    lowest = lower_full (purged live (page_at pages (first_page live b pages + 1)));
  }

  -- a new area is the first fit
  pub new_first : IfSome (new_area live b capacity pages) (IsFirstFit live b capacity pages)
  new_first = go (nat_lt (first_page live b pages) capacity) refl
    where
      go : (g : Bool) → nat_lt (first_page live b pages) capacity ≡ g
          → IfSome
          (if g then Some
          (area_on live b (first_page live b pages + 1)
          (page_at pages (first_page live b pages + 1))) else None)
          (IsFirstFit live b capacity pages)
      go true e = on_page (ltb-true (first_page live b pages) capacity e)
          (takes b (page_at pages (first_page live b pages + 1))) refl
      go false e = tt

  numbered : ((k : ℕ) → k < length pages → admits live b (get_or pages k []) ≡ false)
      → NoneAdmits live b pages
  numbered none zero low h = absurd (omega arith)
  numbered none (suc k) low h = none k (omega arith)

  -- there is none only where no page admits and there are no more
  pub none_means : length pages ≤ capacity → new_area live b capacity pages ≡ None
      → (length pages ≡ capacity) × NoneAdmits live b pages
  none_means small e =
      let m = full_means live b capacity pages small e in
      (omega (arith, m.0, small), numbered m.1)

  pub means_none : length pages ≡ capacity → NoneAdmits live b pages
      → new_area live b capacity pages ≡ None
  means_none e none = means_full live b capacity pages (omega (arith, e))
      (λ k h. none (suc k) (omega arith) (omega arith))

  -- Full, of a put and of a change

  put_none : (area : Option Area) → planned_put live b pages area ≡ None → area ≡ None
  put_none None e = refl
  put_none (Some area) e = absurd (cc (e))

  pub put_full : planned_put live b pages (new_area live b capacity pages) ≡ None
      ↔ new_area live b capacity pages ≡ None
  put_full = (put_none (new_area live b capacity pages), λ e. ap (planned_put live b pages) e)

  module _ (home : Place) where
    to_new_none : (area : Option Area) → to_new live b pages home area ≡ None → area ≡ None
    to_new_none None e = refl
    to_new_none (Some area) e = absurd (cc (e))

    -- the Over area that a slot names takes no row of b bytes
    abbrev OverFull : Slot → Type 0
    OverFull s = (c : ℕ) (o : Place) → s ≡ Pointer c o
        → fitting live b (capacity_of (slot_of pages o)) (page_at pages o.page) ≡ None

    away_none : (s : Slot) → away live b capacity pages home s ≡ None
        → OverFull s × (new_area live b capacity pages ≡ None)
    away_none (Pointer c o) e =
        go (fitting live b (capacity_of (slot_of pages o)) (page_at pages o.page)) refl e
      where
        same : (d : ℕ) (p : Place) → Pointer c o ≡ Pointer d p
            → fitting live b (capacity_of (slot_of pages o)) (page_at pages o.page) ≡ None
            → fitting live b (capacity_of (slot_of pages p)) (page_at pages p.page) ≡ None
        same d p e f =
            let is : o ≡ p = cc (e) in
            subst
            (λ (q : Place). fitting live b (capacity_of (slot_of pages q)) (page_at pages q.page)
            ≡ None) is f

        go : (f : Option Fitting)
            → fitting live b (capacity_of (slot_of pages o)) (page_at pages o.page) ≡ f
            → from_over live b capacity pages home o f ≡ None
            → OverFull (Pointer c o) × (new_area live b capacity pages ≡ None)
        go (Some f) h e = absurd (cc (e))
        go None h e = (λ d p g. same d p g h, to_new_none (new_area live b capacity pages) e)
    away_none Free e = (λ c o g. absurd (cc (g)), to_new_none (new_area live b capacity pages) e)
    away_none (Row x y) e =
        (λ c o g. absurd (cc (g)), to_new_none (new_area live b capacity pages) e)
    away_none (Over x y z) e =
        (λ c o g. absurd (cc (g)), to_new_none (new_area live b capacity pages) e)
    away_none (DeadRow x y) e =
        (λ c o g. absurd (cc (g)), to_new_none (new_area live b capacity pages) e)
    away_none (DeadPointer x y z) e =
        (λ c o g. absurd (cc (g)), to_new_none (new_area live b capacity pages) e)
    away_none (DeadOver x y z) e =
        (λ c o g. absurd (cc (g)), to_new_none (new_area live b capacity pages) e)

    none_away : (s : Slot) → OverFull s → new_area live b capacity pages ≡ None
        → away live b capacity pages home s ≡ None
    none_away (Pointer c o) f e =
        ap (from_over live b capacity pages home o) (f c o refl) ∙ ap (to_new live b pages home) e
    none_away Free f e = ap (to_new live b pages home) e
    none_away (Row x y) f e = ap (to_new live b pages home) e
    none_away (Over x y z) f e = ap (to_new live b pages home) e
    none_away (DeadRow x y) f e = ap (to_new live b pages home) e
    none_away (DeadPointer x y z) f e = ap (to_new live b pages home) e
    none_away (DeadOver x y z) f e = ap (to_new live b pages home) e

    change_none : (f : Option Fitting)
        → fitting live b (capacity_of (slot_of pages home)) (page_at pages home.page) ≡ f
        → changed live b capacity pages home f ≡ None
        → FitsNowhere live b pages home × (new_area live b capacity pages ≡ None)
    change_none (Some f) h e = absurd (cc (e))
    change_none None h e =
        let a = away_none (slot_of pages home) e in
        ((h, a.0), a.1)

    pub change_full : planned_change live b capacity pages home ≡ None
        ↔ (FitsNowhere live b pages home × (new_area live b capacity pages ≡ None))
    change_full = (
      change_none (fitting live b (capacity_of (slot_of pages home)) (page_at pages home.page))
          refl,
      λ h. ap (changed live b capacity pages home) h.0.0 ∙ none_away (slot_of pages home) h.0.1 h.1,
    )
