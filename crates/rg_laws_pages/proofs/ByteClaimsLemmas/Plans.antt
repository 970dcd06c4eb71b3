-- A put and a change claim at most 18 bytes and the row's more, a drop none.
use Rattle.std.proofs.Common.{◌≡◌, ℕ, ◌+◌, ◌-◌, ◌<◌, ◌≤◌, ◌⊎◌, inl, inr, Bool, true, false, not}
use Rattle.std.proofs.Common.{nat_le, nat_lt, List, ◌∷◌, length, Option, Some, None, IfSome, refl}
use Rattle.std.proofs.Common.{sym, ◌∙◌, ap, if◌then◌else◌, arith}
use Rattle.std.proofs.lemmas.Bool.{cases_eq}
use Rattle.std.proofs.lemmas.List.{length-set}
use Rattle.std.proofs.lemmas.List.Sums.{prefix_len-le-length}
use Rattle.rg_home.specs.Slot.{Slot}
use Rattle.rg_base.specs.declared.place.Place.{Place}
use Rattle.rg_base.specs.declared.row.Row.{Row as TableRow}
use Rattle.rg_home.specs.Slot.{Free, Row, Pointer, Over, DeadRow, DeadPointer, DeadOver}
use Rattle.rg_home.specs.Slots.{is_free, capacity_of, trim, placed, IsTrimmed}
use Rattle.rg_home.proofs.Slots.{put-set, trim-set_full}
use Rattle.rg_home.specs.declared.plan.Plan.{Plan}
use Rattle.rg_home.specs.declared.plan.Area.{Area}
use Rattle.rg_home.specs.declared.plan.Fitting.{Fitting}
use Rattle.rg_base.specs.declared.part.SlotOp.TheVariants as Op
use Rattle.rg_base.specs.Place.{same_place}
use Rattle.rg_home.specs.Rows.{Tied, is_dead}
use Rattle.rg_home.specs.Pages.{page_at, slot_of, wrote, applied, Sound, part_at}
use Rattle.rg_home.specs.Plan.{purged, purge_of, first_free, takes, area_when, area_on, new_area}
use Rattle.rg_home.specs.Plan.{first_page, fitting, room, free, is_home, left_of, in_over, to_new}
use Rattle.rg_home.specs.Plan.{from_over, away, changed, planned_put, planned_change, planned_drop}
use Rattle.rg_home.proofs.Purge.{Buried, buried_alive}
use Rattle.rg_home.proofs.Moves.{pointed, differ}
use Rattle.rg_home.proofs.Writes.{page_low, wrote_there}
use Rattle.rg_home.proofs.Look.{wrote_same, wrote_other}
use Rattle.rg_home.proofs.Fit.{purged_page, purge_sound}
use Rattle.rg_home.proofs.Range.{slot_below, page_within}
use Rattle.rg_home.proofs.Planned.{IsOpen, purge_buries, new_open}
use Rattle.rg_laws_pages.specs.ByteClaims.Claim.{claim_of, claimed_all}
use Rattle.rg_laws_pages.proofs.ByteClaimsLemmas.Slots.{claim_capacity}
use Rattle.rg_laws_pages.proofs.ByteClaimsLemmas.Pages.{wrote_in, wrote_new, purge_claim}

-- a slot that is not Free is set to one that is not: as many slots as before
length_placed : (slots : List Slot) (i : ℕ) (s : Slot) → IsTrimmed slots → i < length slots
    → is_free s ≡ false → length (placed slots i s) ≡ length slots
length_placed slots i s t n f =
    ap length (ap trim (put-set slots i s n) ∙ trim-set_full slots i s n t f) ∙ length-set slots i s

length_wrote : (pages : List (List Slot)) (p : Place) (s : Slot) (m : ℕ) → Sound pages
    → is_free (slot_of pages p) ≡ false → is_free s ≡ false
    → length (page_at (wrote pages p s) m) ≡ length (page_at pages m)
length_wrote pages p s m sound full f = go (cases_eq m p.page)
  where
    go : (m ≡ p.page) ⊎ (m ≡ p.page → ⊥)
        → length (page_at (wrote pages p s) m) ≡ length (page_at pages m)
    go (inl e) = ap (λ (n : ℕ). length (page_at (wrote pages p s) n)) e
        ∙ ap length (wrote_same pages p.page p.slot s (page_within pages p.page p.slot full).0)
        ∙ length_placed (page_at pages p.page) p.slot s (sound.trimmed p.page)
        (slot_below (page_at pages p.page) p.slot full) f
        ∙ sym (ap (λ (n : ℕ). length (page_at pages n)) e)
    go (inr e) = ap length (wrote_other pages p.page p.slot m s e)

first_within : (slots : List Slot) → first_free slots ≤ length slots
first_within slots = prefix_len-le-length (λ (s : Slot). not (is_free s)) slots

fitting_small : (live : List ℕ) (b c : ℕ) (slots : List Slot)
    → IfSome (fitting live b c slots) (λ f. f.capacity ≤ c + b)
fitting_small live b c slots = go (nat_le b c) (nat_le (b - c) (room live slots))
  where
    go : (x y : Bool)
        → IfSome {T = Fitting}
        (if x then Some (record { capacity = c; purges = false }) else (if y
        then Some (record { capacity = b; purges = nat_lt (free slots) (b - c) }) else None))
        (λ f. f.capacity ≤ c + b)
    go true y = omega arith
    go false true = omega arith
    go false false = tt

module _ (h : ℕ → Bool) (owner : ℕ) (after : TableRow) (live : List ℕ) (pages : List (List Slot))
    (sound : Sound pages) (tied : Tied (slot_of pages)) where
  abbrev then_purged : ℕ → Bool → List (List Slot)
  then_purged n purges = applied owner after pages (purge_of live pages n purges)

  -- what a plan claims, at most
  abbrev pub Claims : Plan → ℕ → Type 0
  Claims p k = claimed_all h (applied owner after (applied owner after pages p.purge) p.parts)
      ≤ claimed_all h pages + k

  buries : (n : ℕ) (purges : Bool) → 1 ≤ n → Buried (slot_of pages) (slot_of (then_purged n purges))
  buries n purges low = purge_buries owner after live pages tied n purges low

  stays_then : (n : ℕ) (purges : Bool) (q : Place) (s : Slot) → 1 ≤ n → slot_of pages q ≡ s
      → is_dead s ≡ false → slot_of (then_purged n purges) q ≡ s
  stays_then n purges q s low e d = buried_alive _ _ (buries n purges low) q (ap is_dead e ∙ d) ∙ e

  sound_then : (n : ℕ) (purges : Bool) → 1 ≤ n → Sound (then_purged n purges)
  sound_then n purges low = purge_sound live owner after pages n purges low sound

  abbrev At : Area → Type 0
  At area = (1 ≤ area.place.page)
      ×
      (area.place.slot ≤ length (page_at (then_purged area.place.page area.purges) area.place.page))

  at_when : (n : ℕ) (t : Bool) → 1 ≤ n → At (area_when live n (page_at pages n) t)
  at_when n true low = (low, first_within (page_at pages n))
  at_when n false low = (
    low,
    omega (
      arith,
      first_within (purged live (page_at pages n)),
      ap length (purged_page owner after n live n pages low (omega arith) sound),
    ),
  )

  at_new : (b capacity : ℕ) → IfSome (new_area live b capacity pages) At
  at_new b capacity = go (nat_lt (first_page live b pages) capacity)
    where
      go : (g : Bool)
          → IfSome
          (if g then Some
          (area_on live b (first_page live b pages + 1)
          (page_at pages (first_page live b pages + 1))) else None) At
      go true = at_when (first_page live b pages + 1)
          (takes b (page_at pages (first_page live b pages + 1))) (omega arith)
      go false = tt

  put_area : (b : ℕ) (area : Option Area) → IfSome area At
      → IfSome (planned_put live b pages area) (λ p. Claims p (18 + b))
  put_area b None a = tt
  put_area b (Some area) a =
      omega (
        arith,
        wrote_new h (then_purged area.place.page area.purges) area.place (Row b after) a.0 a.1,
        purge_claim h owner after live pages area.place.page area.purges,
      )

  pub put_claims : (b capacity : ℕ)
      → IfSome (planned_put live b pages (new_area live b capacity pages)) (λ p. Claims p (18 + b))
  put_claims b capacity = put_area b (new_area live b capacity pages) (at_new b capacity)

  module _ (home : Place) where
    -- a slot set, where what it was is known
    pub in_known : (now : List (List Slot)) (p : Place) (was s : Slot) → slot_of now p ≡ was
        → is_free was ≡ false
        → claimed_all h (wrote now p s) + claim_of h was ≤ claimed_all h now + claim_of h s
    in_known now p was s e f =
        omega (arith, wrote_in h now p s (ap is_free e ∙ f), ap (claim_of h) e)

    -- the Over area that is left
    pub leaves : (now : List (List Slot)) (o : Place) (d g : ℕ) (b : TableRow)
        → slot_of now o ≡ Over d b home → g ≡ d
        → claimed_all h (wrote now o (DeadOver g home owner)) ≤ claimed_all h now
    leaves now o d g b e eg = omega (
      arith,
      in_known now o (Over d b home) (DeadOver g home owner) e refl,
      claim_capacity h (DeadOver g home owner),
    )

    pub apart_from : (c : ℕ) (o : Place) → slot_of pages home ≡ Pointer c o
        → same_place o home ≡ false
    apart_from c o e = differ (slot_of pages) o home
        (λ (f : slot_of pages o ≡ slot_of pages home).
        absurd (cc (e, f, (pointed (slot_of pages) home o c tied e).2)))

    pub to_home_claims : (b : ℕ) (f : Fitting) (s : Slot) → slot_of pages home ≡ s
        → is_home s ≡ true → f.capacity ≤ capacity_of s + b
        → claimed_all h
        (applied owner after (then_purged home.page f.purges)
        (part_at home (Op.Row f.capacity) ∷ left_of pages home s)) ≤ claimed_all h pages + b
    to_home_claims b f (Row c x) e is small =
        let low = page_low pages home (λ (g : slot_of pages home ≡ Free). absurd (cc (e, g))) in
        let P = then_purged home.page f.purges in
        omega (
          arith,
          in_known P home (Row c x) (Row f.capacity after)
              (stays_then home.page f.purges home (Row c x) low e refl) refl,
          purge_claim h owner after live pages home.page f.purges,
        )
    to_home_claims b f (Pointer c o) e is small =
        let low = page_low pages home (λ (g : slot_of pages home ≡ Free). absurd (cc (e, g))) in
        let P = then_purged home.page f.purges in
        let was = pointed (slot_of pages) home o c tied e in
        let over : slot_of (wrote P home (Row f.capacity after)) o ≡ Over was.0 was.1 home =
        wrote_there P home (Row f.capacity after) low o (apart_from c o e)
        ∙ stays_then home.page f.purges o (Over was.0 was.1 home) low was.2 refl in
        omega (
          arith,
          in_known P home (Pointer c o) (Row f.capacity after)
              (stays_then home.page f.purges home (Pointer c o) low e refl) refl,
          leaves (wrote P home (Row f.capacity after)) o was.0 (capacity_of (slot_of pages o)) was.1
              over (ap capacity_of was.2),
          purge_claim h owner after live pages home.page f.purges,
        )
    to_home_claims b f Free e is small = absurd (cc (is))
    to_home_claims b f (Over x y d) e is small = absurd (cc (is))
    to_home_claims b f (DeadRow x y) e is small = absurd (cc (is))
    to_home_claims b f (DeadPointer x y d) e is small = absurd (cc (is))
    to_home_claims b f (DeadOver x y d) e is small = absurd (cc (is))

    in_over_claims : (b : ℕ) (f : Fitting) (c : ℕ) (o : Place) → slot_of pages home ≡ Pointer c o
        → f.capacity ≤ capacity_of (slot_of pages o) + b → Claims (in_over live pages home o f) b
    in_over_claims b f c o e small =
        let was = pointed (slot_of pages) home o c tied e in
        let low = page_low pages o (λ (g : slot_of pages o ≡ Free). absurd (cc (g, was.2))) in
        let P = then_purged o.page f.purges in
        omega (
          arith,
          in_known P o (Over was.0 was.1 home) (Over f.capacity after home)
              (stays_then o.page f.purges o (Over was.0 was.1 home) low was.2 refl) refl,
          ap capacity_of was.2,
          purge_claim h owner after live pages o.page f.purges,
        )

    module _ (b : ℕ) (area : Area) (a : At area) (open1 : IsOpen owner after live pages area) where
      P1 : List (List Slot)
      P1 = then_purged area.place.page area.purges

      -- the home set to a Pointer, and the new area
      goes_claims : (s : Slot) (c : ℕ) → slot_of pages home ≡ s → is_dead s ≡ false
          → is_free s ≡ false → claim_of h s ≡ c
          → claimed_all h
          (wrote (wrote (then_purged area.place.page area.purges) home (Pointer c area.place))
          area.place (Over b after home)) ≤ claimed_all h pages + (18 + b)
      goes_claims s c e d f ec =
          let P = then_purged area.place.page area.purges in
          let was = stays_then area.place.page area.purges home s a.0 e d in
          let Q = wrote P home (Pointer c area.place) in
          omega (
            arith,
            in_known P home s (Pointer c area.place) was f,
            ec,
            wrote_new h Q area.place (Over b after home) a.0
                (omega (
                  arith,
                  a.1,
                  length_wrote P home (Pointer c area.place) area.place.page
                      (sound_then area.place.page area.purges a.0) (ap is_free was ∙ f) refl,
                )),
            purge_claim h owner after live pages area.place.page area.purges,
          )

      to_new_claims : (s : Slot) → slot_of pages home ≡ s → is_home s ≡ true
          → claimed_all h
          (applied owner after (then_purged area.place.page area.purges)
          (part_at home (Op.Pointer (capacity_of s) area.place)
          ∷ part_at area.place (Op.Over b home) ∷ left_of pages home s))
          ≤ claimed_all h pages + (18 + b)
      to_new_claims (Row c x) e is = goes_claims (Row c x) c e refl refl refl
      to_new_claims (Pointer c o) e is =
          let was = pointed (slot_of pages) home o c tied e in
          let low = page_low pages home (λ (g : slot_of pages home ≡ Free). absurd (cc (e, g))) in
          let P = then_purged area.place.page area.purges in
          let Q = wrote P home (Pointer c area.place) in
          let then_o : slot_of P o ≡ Over was.0 was.1 home =
          stays_then area.place.page area.purges o (Over was.0 was.1 home) a.0 was.2 refl in
          let m : same_place o area.place ≡ false = differ (slot_of P) o area.place
          (λ (f : slot_of P o ≡ slot_of P area.place). absurd (cc (f, open1.1, then_o))) in
          let over : slot_of (wrote Q area.place (Over b after home)) o ≡ Over was.0 was.1 home =
          wrote_there Q area.place (Over b after home) a.0 o m
          ∙ wrote_there P home (Pointer c area.place) low o (apart_from c o e) ∙ then_o in
          omega (
            arith,
            goes_claims (Pointer c o) c e refl refl refl,
            leaves (wrote Q area.place (Over b after home)) o was.0 (capacity_of (slot_of pages o))
                was.1 over (ap capacity_of was.2),
          )
      to_new_claims Free e is = absurd (cc (is))
      to_new_claims (Over x y d) e is = absurd (cc (is))
      to_new_claims (DeadRow x y) e is = absurd (cc (is))
      to_new_claims (DeadPointer x y d) e is = absurd (cc (is))
      to_new_claims (DeadOver x y d) e is = absurd (cc (is))

    to_new_all : (b : ℕ) (area : Option Area) → is_home (slot_of pages home) ≡ true → IfSome area At
        → IfSome area (IsOpen owner after live pages)
        → IfSome (to_new live b pages home area) (λ p. Claims p (18 + b))
    to_new_all b (Some area) is a o = to_new_claims b area a o (slot_of pages home) refl is
    to_new_all b None is a o = tt

    new_claims : (b capacity : ℕ) → is_home (slot_of pages home) ≡ true
        → IfSome (to_new live b pages home (new_area live b capacity pages))
        (λ p. Claims p (18 + b))
    new_claims b capacity is = to_new_all b (new_area live b capacity pages) is (at_new b capacity)
        (new_open owner after live pages tied home b capacity)

    away_claims : (b capacity : ℕ) (s : Slot) → slot_of pages home ≡ s
        → is_home (slot_of pages home) ≡ true
        → IfSome (away live b capacity pages home s) (λ p. Claims p (18 + b))
    away_claims b capacity (Pointer c o) e is =
        go (fitting live b (capacity_of (slot_of pages o)) (page_at pages o.page))
        (fitting_small live b (capacity_of (slot_of pages o)) (page_at pages o.page))
      where
        go : (f : Option Fitting) → IfSome f (λ f. f.capacity ≤ capacity_of (slot_of pages o) + b)
            → IfSome (from_over live b capacity pages home o f) (λ p. Claims p (18 + b))
        go (Some f) small = omega (arith, in_over_claims b f c o e small)
        go None small = new_claims b capacity is
    away_claims b capacity (Row c x) e is = new_claims b capacity is
    away_claims b capacity Free e is = new_claims b capacity is
    away_claims b capacity (Over x y d) e is = new_claims b capacity is
    away_claims b capacity (DeadRow x y) e is = new_claims b capacity is
    away_claims b capacity (DeadPointer x y d) e is = new_claims b capacity is
    away_claims b capacity (DeadOver x y d) e is = new_claims b capacity is

    pub change_claims : (b capacity : ℕ) → is_home (slot_of pages home) ≡ true
        → IfSome (planned_change live b capacity pages home) (λ p. Claims p (18 + b))
    change_claims b capacity is =
        go (fitting live b (capacity_of (slot_of pages home)) (page_at pages home.page))
        (fitting_small live b (capacity_of (slot_of pages home)) (page_at pages home.page))
      where
        go : (f : Option Fitting)
            → IfSome f (λ f. f.capacity ≤ capacity_of (slot_of pages home) + b)
            → IfSome (changed live b capacity pages home f) (λ p. Claims p (18 + b))
        go (Some f) small = omega (arith, to_home_claims b f (slot_of pages home) refl is small)
        go None small = away_claims b capacity (slot_of pages home) refl is

    pub drop_claims : (s : Slot) → slot_of pages home ≡ s → is_home s ≡ true
        → Claims (planned_drop pages home s) 0
    drop_claims (Row c x) e is = omega (
      arith,
      in_known pages home (Row c x) (DeadRow c owner) e refl,
      claim_capacity h (DeadRow c owner),
    )
    drop_claims (Pointer c o) e is =
        let was = pointed (slot_of pages) home o c tied e in
        let low = page_low pages home (λ (g : slot_of pages home ≡ Free). absurd (cc (e, g))) in
        let over : slot_of (wrote pages home (DeadPointer c o owner)) o ≡ Over was.0 was.1 home =
        wrote_there pages home (DeadPointer c o owner) low o (apart_from c o e) ∙ was.2 in
        omega (
          arith,
          in_known pages home (Pointer c o) (DeadPointer c o owner) e refl,
          claim_capacity h (DeadPointer c o owner),
          leaves (wrote pages home (DeadPointer c o owner)) o was.0 (capacity_of (slot_of pages o))
              was.1 over (ap capacity_of was.2),
        )
    drop_claims Free e is = absurd (cc (is))
    drop_claims (Over x y d) e is = absurd (cc (is))
    drop_claims (DeadRow x y) e is = absurd (cc (is))
    drop_claims (DeadPointer x y d) e is = absurd (cc (is))
    drop_claims (DeadOver x y d) e is = absurd (cc (is))
