-- The parts of a change fit their pages.
use Rattle.rg_base.specs.RowBytes.{row_size}
use Rattle.std.proofs.Common.{◌≡◌, inl, inr, ◌⊎◌, ℕ, ◌+◌, ◌-◌, ◌≤◌, ◌<◌, zero, suc, nat_le, nat_lt}
use Rattle.std.proofs.Common.{Bool, true, false, List, [], ◌∷◌, length, set, Option, Some, None}
use Rattle.std.proofs.Common.{IfSome, refl, sym, ◌∙◌, ap, subst, if◌then◌else◌, arith}
use Rattle.std.proofs.lemmas.Bool.{leb-true, leb-false, ltb-false, cases_lt, cases_eq}
use Rattle.rg_base.specs.declared.place.Place.{Place}
use Rattle.rg_base.specs.declared.row.Row.{Row as TableRow}
use Rattle.rg_home.specs.Slot.{Slot}
use Rattle.rg_home.specs.Slot.{Free, Row, Pointer, Over, DeadRow, DeadPointer, DeadOver}
use Rattle.rg_home.specs.Slots.{slot_at, capacity_of, is_free, used, put, trim, placed, Fits}
use Rattle.rg_home.specs.Slots.{IsTrimmed}
use Rattle.rg_home.proofs.Slots.{put-set, used-set, trim-set_full, trim-put_past}
use Rattle.rg_home.specs.declared.plan.Area.{Area}
use Rattle.rg_home.specs.declared.plan.Plan.{Plan}
use Rattle.rg_home.specs.declared.plan.Fitting.{Fitting}
use Rattle.rg_base.specs.declared.part.SlotOp.TheVariants as Op
use Rattle.rg_base.specs.Place.{same_place}
use Rattle.rg_home.specs.Rows.{is_dead, row_at, Tied}
use Rattle.rg_home.specs.Pages.{page_at, slot_of, wrote, applied, FitsAll, TakesAll, Sound, part_at}
use Rattle.rg_home.specs.Plan.{is_home, room, free, purged, fitting, purge_of, new_area, left_of}
use Rattle.rg_home.specs.Plan.{to_new, from_over, away, changed, planned_change, planned_drop}
use Rattle.rg_base.proofs.SamePlace.{same_place-sym, same_place-refl}
use Rattle.rg_home.proofs.Look.{wrote_same, wrote_other}
use Rattle.rg_home.proofs.Writes.{wrote_there}
use Rattle.rg_home.proofs.Range.{slot_below, page_within}
use Rattle.rg_home.proofs.Moves.{pointed, differ}
use Rattle.rg_home.proofs.Planned.{IsOpen, alive_then, new_open, away_from}
use Rattle.rg_home.proofs.Fit.{Takes, new_takes, purged_page, used-swept, wrote_sound, purge_sound}
use Rattle.rg_home.proofs.Fit.{purge_fits}
use Rattle.rg_home.proofs.Full.{sized_fits}
use Rattle.rg_home.proofs.Takes.{purge_takes}

-- an area that takes a row has the bytes for it once its page is purged
grows : (live : List ℕ) (b c : ℕ) (slots : List Slot) → Fits slots
    → IfSome (fitting live b c slots)
    (λ f. used (if f.purges then purged live slots else slots) + f.capacity ≤ 4064 + c)
grows live b c slots fits = go (nat_le b c) refl
  where
    pick : (h : Bool) → nat_lt (free slots) (b - c) ≡ h → nat_le b c ≡ false
        → b - c ≤ room live slots → used (if h then purged live slots else slots) + b ≤ 4064 + c
    pick true k e r = omega (arith, leb-false b c e, r, used-swept live slots, fits)
    pick false k e r = omega (arith, leb-false b c e, ltb-false (free slots) (b - c) k, fits)

    grown : (g : Bool) → nat_le (b - c) (room live slots) ≡ g → nat_le b c ≡ false
        → IfSome {T = Fitting}
        (if g then Some (record { capacity = b; purges = nat_lt (free slots) (b - c) }) else None)
        (λ f. used (if f.purges then purged live slots else slots) + f.capacity ≤ 4064 + c)
    grown true h e =
        pick (nat_lt (free slots) (b - c)) refl e (leb-true (b - c) (room live slots) h)
    grown false h e = tt

    go : (g : Bool) → nat_le b c ≡ g
        → IfSome {T = Fitting}
        (if g then Some (record { capacity = c; purges = false })
        else (if nat_le (b - c) (room live slots)
        then Some (record { capacity = b; purges = nat_lt (free slots) (b - c) }) else None))
        (λ f. used (if f.purges then purged live slots else slots) + f.capacity ≤ 4064 + c)
    go true e = omega (arith, fits)
    go false e = grown (nat_le (b - c) (room live slots)) refl e

-- a slot that is there is replaced by one of its size; another write finds the same bytes

used-set-put : (slots : List Slot) (i j : ℕ) (s u : Slot) → i < length slots → (j ≡ i → ⊥)
    → capacity_of s ≡ capacity_of (slot_at slots i)
    → used (put (set slots i s) j u) ≡ used (put slots j u)
used-set-put [] i j s u h n e = absurd (omega arith)
used-set-put (x ∷ slots) zero zero s u h n e = absurd (n refl)
used-set-put (x ∷ slots) zero (suc j) s u h n e = omega (arith, e)
used-set-put (x ∷ slots) (suc i) zero s u h n e = omega (arith, e, used-set slots i s (omega arith))
used-set-put (x ∷ slots) (suc i) (suc j) s u h n e =
    omega (arith, used-set-put slots i j s u (omega arith) (λ f. n (ap suc f)) e)

placed_full : (slots : List Slot) (j : ℕ) (s : Slot) → IsTrimmed slots → is_free s ≡ false
    → placed slots j s ≡ put slots j s
placed_full slots j s t f = go (cases_lt j (length slots))
  where
    go : (j < length slots) ⊎ (length slots ≤ j) → placed slots j s ≡ put slots j s
    go (inl h) =
        ap trim (put-set slots j s h) ∙ trim-set_full slots j s h t f ∙ sym (put-set slots j s h)
    go (inr h) = trim-put_past slots j s h f

placed_after : (slots : List Slot) (i j : ℕ) (s u : Slot) → IsTrimmed slots → i < length slots
    → (j ≡ i → ⊥) → capacity_of s ≡ capacity_of (slot_at slots i) → is_free s ≡ false
    → is_free u ≡ false
    → IsTrimmed (placed slots i s) → Fits (placed slots j u) → Fits (placed (placed slots i s) j u)
placed_after slots i j s u t h n e fs fu t2 fits =
    let one : placed slots i s ≡ set slots i s = placed_full slots i s t fs ∙ put-set slots i s h in
    omega (
      arith,
      fits,
      ap used (placed_full slots j u t fu),
      ap used (placed_full (placed slots i s) j u t2 fu),
      ap (λ (r : List Slot). used (put r j u)) one,
      used-set-put slots i j s u h n e,
    )

same_fits : (pages : List (List Slot)) (p : Place) (s : Slot) → Sound pages
    → is_free (slot_of pages p) ≡ false → capacity_of s ≤ capacity_of (slot_of pages p)
    → Fits (placed (page_at pages p.page) p.slot s)
same_fits pages p s sound f l = sized_fits (page_at pages p.page) p.slot s
    (slot_below (page_at pages p.page) p.slot f) (omega (arith, sound.fits p.page, l))

module _ (t : ℕ) (after : TableRow) (live : List ℕ) (limit : ℕ) (pages : List (List Slot))
    (tied : Tied (slot_of pages)) (sound : Sound pages) (within : length pages ≤ limit)
    (home : Place) where
  abbrev then_purged : ℕ → Bool → List (List Slot)
  then_purged n purges = applied t after pages (purge_of live pages n purges)

  sound_then : (n : ℕ) (purges : Bool) → 1 ≤ n → Sound (then_purged n purges)
  sound_then n purges low = purge_sound live t after pages n purges low sound

  page_then : (n : ℕ) (purges : Bool) → 1 ≤ n
      → page_at (then_purged n purges) n
      ≡ (if purges then purged live (page_at pages n) else page_at pages n)
  page_then n true low = purged_page t after n live n pages low (omega arith) sound
  page_then n false low = refl

  inside : (p : Place) (s : Slot) → slot_of pages p ≡ s → is_free s ≡ false
      → (1 ≤ p.page) × (p.page ≤ limit)
  inside p s e f =
      let w = page_within pages p.page p.slot (ap is_free e ∙ f) in
      (w.0, omega (arith, w.1, within))

  -- an area grows
  grown_fits : (f : Fitting) (p : Place) (s s2 : Slot) → slot_of pages p ≡ s → is_free s ≡ false
      → slot_of (then_purged p.page f.purges) p ≡ s → capacity_of s2 ≡ f.capacity
      → used (if f.purges then purged live (page_at pages p.page) else page_at pages p.page)
      + f.capacity ≤ 4064 + capacity_of s
      → Fits (placed (page_at (then_purged p.page f.purges) p.page) p.slot s2)
  grown_fits f p s s2 e full e2 c l =
      let low = (inside p s e full).0 in
      let f2 : is_free (slot_of (then_purged p.page f.purges) p) ≡ false = ap is_free e2 ∙ full in
      sized_fits (page_at (then_purged p.page f.purges) p.page) p.slot s2
      (slot_below (page_at (then_purged p.page f.purges) p.page) p.slot f2)
      (omega (arith, l, c, ap used (page_then p.page f.purges low), ap capacity_of e2))

  -- the Over area that is left
  left_fits : (now : List (List Slot)) (o : Place) (d : ℕ) (x : TableRow)
      → slot_of pages o ≡ Over d x home → slot_of now o ≡ Over d x home → Sound now
      → FitsAll t after limit now
      (part_at o (Op.DeadOver (capacity_of (slot_of pages o)) home) ∷ [])
  left_fits now o d x e e2 s =
      let w = inside o (Over d x home) e refl in (
        w.0,
        w.1,
        same_fits now o (DeadOver (capacity_of (slot_of pages o)) home t) s (ap is_free e2)
            (omega (arith, ap capacity_of e, ap capacity_of e2)),
        tt,
      )

  home_fits : (f : Fitting) (s : Slot) → slot_of pages home ≡ s → is_home s ≡ true
      → used (if f.purges then purged live (page_at pages home.page) else page_at pages home.page)
      + f.capacity ≤ 4064 + capacity_of s
      → FitsAll t after limit (then_purged home.page f.purges)
      (part_at home (Op.Row f.capacity) ∷ left_of pages home s)
  home_fits f (Row c x) e is l =
      let w = inside home (Row c x) e refl in (
        w.0,
        w.1,
        grown_fits f home (Row c x) (Row f.capacity after) e refl
            (alive_then t after live pages tied home home.page f.purges (Row c x) w.0 e refl) refl
            l,
        tt,
      )
  home_fits f (Pointer c o) e is l =
      let w = inside home (Pointer c o) e refl in
      let was = pointed (slot_of pages) home o c tied e in
      let a = away_from t after pages tied home c o e in
      let now = then_purged home.page f.purges in
      let fit = grown_fits f home (Pointer c o) (Row f.capacity after) e refl
      (alive_then t after live pages tied home home.page f.purges (Pointer c o) w.0 e refl) refl
      l in (
        w.0,
        w.1,
        fit,
        left_fits (wrote now home (Row f.capacity after)) o was.0 was.1 was.2
            (wrote_there now home (Row f.capacity after) w.0 o (same_place-sym home o a.0)
            ∙ alive_then t after live pages tied o home.page f.purges (Over was.0 was.1 home) w.0
            was.2 refl)
            (wrote_sound now home.page home.slot (Row f.capacity after) w.0 fit
            (sound_then home.page f.purges w.0)),
      )
  home_fits f Free e is l = absurd (cc (is))
  home_fits f (Over a b d) e is l = absurd (cc (is))
  home_fits f (DeadRow a b) e is l = absurd (cc (is))
  home_fits f (DeadPointer a b d) e is l = absurd (cc (is))
  home_fits f (DeadOver a b d) e is l = absurd (cc (is))

  over_fits : (f : Fitting) (c : ℕ) (o : Place) → slot_of pages home ≡ Pointer c o
      → used (if f.purges then purged live (page_at pages o.page) else page_at pages o.page)
      + f.capacity ≤ 4064 + capacity_of (slot_of pages o)
      → FitsAll t after limit (then_purged o.page f.purges)
      (part_at o (Op.Over f.capacity home) ∷ [])
  over_fits f c o e l =
      let was = pointed (slot_of pages) home o c tied e in
      let w = inside o (Over was.0 was.1 home) was.2 refl in (
        w.0,
        w.1,
        grown_fits f o (Over was.0 was.1 home) (Over f.capacity after home) was.2 refl
            (alive_then t after live pages tied o o.page f.purges (Over was.0 was.1 home) w.0 was.2
            refl) refl (omega (arith, l, ap capacity_of was.2)),
        tt,
      )

  -- the new area, once the home has become a Pointer of its size
  second_fits : (now : List (List Slot)) (p : Place) (s u : Slot) → Sound now → 1 ≤ home.page
      → is_free (slot_of now home) ≡ false → capacity_of s ≡ capacity_of (slot_of now home)
      → is_free s ≡ false → is_free u ≡ false → same_place home p ≡ false
      → Sound (wrote now home s) → Fits (placed (page_at now p.page) p.slot u)
      → Fits (placed (page_at (wrote now home s) p.page) p.slot u)
  second_fits now p s u so low full c fs fu n so2 fits = go (cases_eq p.page home.page)
    where
      go : (p.page ≡ home.page) ⊎ (p.page ≡ home.page → ⊥)
          → Fits (placed (page_at (wrote now home s) p.page) p.slot u)
      go (inr h) = subst (λ (slots : List Slot). Fits (placed slots p.slot u))
          (sym (wrote_other now home.page home.slot p.page s h)) fits
      go (inl h) =
          let is : page_at (wrote now home s) home.page
          ≡ placed (page_at now home.page) home.slot s = wrote_same now home.page home.slot s low in
          let off : p.slot ≡ home.slot → ⊥ = λ e. same_not home p h e n in
          subst (λ (m : ℕ). Fits (placed (page_at (wrote now home s) m) p.slot u)) (sym h)
          (subst (λ (slots : List Slot). Fits (placed slots p.slot u)) (sym is)
          (placed_after (page_at now home.page) home.slot p.slot s u (so.trimmed home.page)
          (slot_below (page_at now home.page) home.slot full) off c fs fu
          (subst IsTrimmed is (so2.trimmed home.page))
          (subst (λ (m : ℕ). Fits (placed (page_at now m) p.slot u)) h fits)))
        where
          same_not : (a b : Place) → b.page ≡ a.page → b.slot ≡ a.slot → same_place a b ≡ false → ⊥
          same_not a b e f g =
              let is : a ≡ b = λ i. record { page = sym e i; slot = sym f i } in
              cc (g, ap (same_place a) is, same_place-refl a)

  first : (area : Area) (s : Slot) (c : ℕ) → capacity_of s ≡ c → slot_of pages home ≡ s
      → is_free s ≡ false → is_dead s ≡ false → IsOpen t after live pages area
      → Fits
      (placed (page_at (then_purged area.place.page area.purges) home.page) home.slot
      (Pointer c area.place))
      × Sound (wrote (then_purged area.place.page area.purges) home (Pointer c area.place))
  first area s c k e full lives open1 =
      let now = then_purged area.place.page area.purges in
      let there =
      alive_then t after live pages tied home area.place.page area.purges s open1.0 e lives in
      let so = sound_then area.place.page area.purges open1.0 in
      let fit = same_fits now home (Pointer c area.place) so (ap is_free there ∙ full)
      (omega (arith, k, ap capacity_of there)) in (
        fit,
        wrote_sound now home.page home.slot (Pointer c area.place) (inside home s e full).0 fit so,
      )

  second : (area : Area) (s : Slot) (c : ℕ) → capacity_of s ≡ c → slot_of pages home ≡ s
      → is_free s ≡ false → is_dead s ≡ false → IsOpen t after live pages area
      → Takes t after limit live pages sound (row_size after) area
      → Sound (wrote (then_purged area.place.page area.purges) home (Pointer c area.place))
      → Fits
      (placed
      (page_at (wrote (then_purged area.place.page area.purges) home (Pointer c area.place))
      area.place.page) area.place.slot (Over (row_size after) after home))
  second area s c k e full lives open1 takes so2 =
      let now = then_purged area.place.page area.purges in
      let there =
      alive_then t after live pages tied home area.place.page area.purges s open1.0 e lives in
      let n : same_place home area.place ≡ false = differ (slot_of now) home area.place
      (λ (g : slot_of now home ≡ slot_of now area.place).
      absurd (cc (full, ap is_free (sym there ∙ g ∙ open1.1)))) in
      second_fits now area.place (Pointer c area.place) (Over (row_size after) after home)
      (sound_then area.place.page area.purges open1.0) (inside home s e full).0
      (ap is_free there ∙ full) (sym (ap capacity_of there ∙ k)) refl refl n so2
      (takes.3 (Over (row_size after) after home) refl)

  new_fits : (area : Area) (s : Slot) → slot_of pages home ≡ s → is_home s ≡ true
      → IsOpen t after live pages area → Takes t after limit live pages sound (row_size after) area
      → FitsAll t after limit (then_purged area.place.page area.purges)
      (part_at home (Op.Pointer (capacity_of s) area.place)
      ∷ part_at area.place (Op.Over (row_size after) home) ∷ left_of pages home s)
  new_fits area (Row c x) e is open1 takes =
      let w = inside home (Row c x) e refl in
      let f = first area (Row c x) c refl e refl refl open1 in (
        w.0,
        w.1,
        f.0,
        (takes.0, takes.1, second area (Row c x) c refl e refl refl open1 takes f.1, tt),
      )
  new_fits area (Pointer c o) e is open1 takes =
      let w = inside home (Pointer c o) e refl in
      let was = pointed (slot_of pages) home o c tied e in
      let a = away_from t after pages tied home c o e in
      let p = area.place in
      let now = then_purged p.page area.purges in
      let f = first area (Pointer c o) c refl e refl refl open1 in
      let g = second area (Pointer c o) c refl e refl refl open1 takes f.1 in
      let there : slot_of now o ≡ Over was.0 was.1 home = alive_then t after live pages tied o
      p.page area.purges (Over was.0 was.1 home) open1.0 was.2 refl in
      let off : same_place o p ≡ false = differ (slot_of now) o p
      (λ (h : slot_of now o ≡ slot_of now p). absurd (cc (there, h, open1.1))) in
      let one = wrote now home (Pointer c p) in (
        w.0,
        w.1,
        f.0,
        (
          takes.0,
          takes.1,
          g,
          left_fits (wrote one p (Over (row_size after) after home)) o was.0 was.1 was.2
              (wrote_there one p (Over (row_size after) after home) takes.0 o off
              ∙ wrote_there now home (Pointer c p) w.0 o (same_place-sym home o a.0) ∙ there)
              (wrote_sound one p.page p.slot (Over (row_size after) after home) takes.0 g f.1),
        ),
      )
  new_fits area Free e is open1 takes = absurd (cc (is))
  new_fits area (Over a b d) e is open1 takes = absurd (cc (is))
  new_fits area (DeadRow a b) e is open1 takes = absurd (cc (is))
  new_fits area (DeadPointer a b d) e is open1 takes = absurd (cc (is))
  new_fits area (DeadOver a b d) e is open1 takes = absurd (cc (is))

  -- all that a change's parts ask for
  abbrev pub PartsFit : Plan → Type 0
  PartsFit p = FitsAll t after limit (applied t after pages p.purge) p.parts

  new_all : (area : Option Area) → is_home (slot_of pages home) ≡ true
      → IfSome area (IsOpen t after live pages)
      → IfSome area (Takes t after limit live pages sound (row_size after))
      → IfSome (to_new live (row_size after) pages home area) PartsFit
  new_all (Some area) is h k = new_fits area (slot_of pages home) refl is h k
  new_all None is h k = tt

  module _ (capacity : ℕ) (small : row_size after ≤ 4046) (limited : capacity ≤ limit)
      (is : is_home (slot_of pages home) ≡ true) where
    new_one : IfSome
        (to_new live (row_size after) pages home (new_area live (row_size after) capacity pages))
        PartsFit
    new_one = new_all (new_area live (row_size after) capacity pages) is
        (new_open t after live pages tied home (row_size after) capacity)
        (new_takes t after limit live pages sound (row_size after) capacity small limited)

    away_fits : (s : Slot) → slot_of pages home ≡ s
        → IfSome (away live (row_size after) capacity pages home s) PartsFit
    away_fits (Pointer c o) e =
        go (fitting live (row_size after) (capacity_of (slot_of pages o)) (page_at pages o.page))
        (grows live (row_size after) (capacity_of (slot_of pages o)) (page_at pages o.page)
        (sound.fits o.page))
      where
        go : (f : Option Fitting)
            → IfSome f
            (λ f.
            used (if f.purges then purged live (page_at pages o.page) else page_at pages o.page)
            + f.capacity ≤ 4064 + capacity_of (slot_of pages o))
            → IfSome (from_over live (row_size after) capacity pages home o f) PartsFit
        go (Some f) h = over_fits f c o e h
        go None h = new_one
    away_fits (Row c x) e = new_one
    away_fits Free e = new_one
    away_fits (Over x y d) e = new_one
    away_fits (DeadRow x y) e = new_one
    away_fits (DeadPointer x y d) e = new_one
    away_fits (DeadOver x y d) e = new_one

    pub change_fits : IfSome (planned_change live (row_size after) capacity pages home) PartsFit
    change_fits = go
        (fitting live (row_size after) (capacity_of (slot_of pages home)) (page_at pages home.page))
        (grows live (row_size after) (capacity_of (slot_of pages home)) (page_at pages home.page)
        (sound.fits home.page))
      where
        go : (f : Option Fitting)
            → IfSome f
            (λ f. used
            (if f.purges then purged live (page_at pages home.page) else page_at pages home.page)
            + f.capacity ≤ 4064 + capacity_of (slot_of pages home))
            → IfSome (changed live (row_size after) capacity pages home f) PartsFit
        go (Some f) h = home_fits f (slot_of pages home) refl is h
        go None h = away_fits (slot_of pages home) refl

  -- the purge of a plan
  purge_of_fits : (n : ℕ) (purges : Bool) → 1 ≤ n → n ≤ limit
      → FitsAll t after limit pages (purge_of live pages n purges)
  purge_of_fits n true low high =
      purge_fits t after limit live n 0 (page_at pages n) pages low high sound
  purge_of_fits n false low high = tt

  home_inside : (s : Slot) → slot_of pages home ≡ s → is_home s ≡ true
      → (1 ≤ home.page) × (home.page ≤ limit)
  home_inside (Row c x) e is = inside home (Row c x) e refl
  home_inside (Pointer c o) e is = inside home (Pointer c o) e refl
  home_inside Free e is = absurd (cc (is))
  home_inside (Over a b d) e is = absurd (cc (is))
  home_inside (DeadRow a b) e is = absurd (cc (is))
  home_inside (DeadPointer a b d) e is = absurd (cc (is))
  home_inside (DeadOver a b d) e is = absurd (cc (is))

  -- what a plan says of itself, and its purge
  abbrev pub PurgeFits : Plan → Type 0
  PurgeFits p = (p.home ≡ home) × (p.before ≡ row_at (slot_of pages) home)
      × FitsAll t after limit pages p.purge × TakesAll (Some after) p.purge

  to_new_purge : (b : ℕ) (area : Option Area) → IfSome area (Takes t after limit live pages sound b)
      → IfSome (to_new live b pages home area) PurgeFits
  to_new_purge b None k = tt
  to_new_purge b (Some area) k =
      (refl, refl, k.2, purge_takes (Some after) live pages area.place.page area.purges)

  module _ (capacity : ℕ) (small : row_size after ≤ 4046) (limited : capacity ≤ limit)
      (is : is_home (slot_of pages home) ≡ true) where
    new_purge : IfSome
        (to_new live (row_size after) pages home (new_area live (row_size after) capacity pages))
        PurgeFits
    new_purge = to_new_purge (row_size after) (new_area live (row_size after) capacity pages)
        (new_takes t after limit live pages sound (row_size after) capacity small limited)

    away_purge : (s : Slot) → slot_of pages home ≡ s
        → IfSome (away live (row_size after) capacity pages home s) PurgeFits
    away_purge (Pointer c o) e =
        go (fitting live (row_size after) (capacity_of (slot_of pages o)) (page_at pages o.page))
      where
        go : (f : Option Fitting)
            → IfSome (from_over live (row_size after) capacity pages home o f) PurgeFits
        go (Some f) =
            let was = pointed (slot_of pages) home o c tied e in
            let w = inside o (Over was.0 was.1 home) was.2 refl in (
              refl,
              refl,
              purge_of_fits o.page f.purges w.0 w.1,
              purge_takes (Some after) live pages o.page f.purges,
            )
        go None = new_purge
    away_purge (Row c x) e = new_purge
    away_purge Free e = new_purge
    away_purge (Over x y d) e = new_purge
    away_purge (DeadRow x y) e = new_purge
    away_purge (DeadPointer x y d) e = new_purge
    away_purge (DeadOver x y d) e = new_purge

    pub change_purge : IfSome (planned_change live (row_size after) capacity pages home) PurgeFits
    change_purge = go
        (fitting live (row_size after) (capacity_of (slot_of pages home)) (page_at pages home.page))
      where
        go : (f : Option Fitting)
            → IfSome (changed live (row_size after) capacity pages home f) PurgeFits
        go (Some f) =
            let w = home_inside (slot_of pages home) refl is in (
              refl,
              refl,
              purge_of_fits home.page f.purges w.0 w.1,
              purge_takes (Some after) live pages home.page f.purges,
            )
        go None = away_purge (slot_of pages home) refl

  -- a drop needs no space, and purges nothing
  pub drop_fits : (s : Slot) → slot_of pages home ≡ s → is_home s ≡ true
      → FitsAll t after limit pages (planned_drop pages home s).parts
  drop_fits (Row c x) e is =
      let w = inside home (Row c x) e refl in (
        w.0,
        w.1,
        same_fits pages home (DeadRow c t) sound (ap is_free e) (omega (arith, ap capacity_of e)),
        tt,
      )
  drop_fits (Pointer c o) e is =
      let w = inside home (Pointer c o) e refl in
      let was = pointed (slot_of pages) home o c tied e in
      let a = away_from t after pages tied home c o e in
      let fit = same_fits pages home (DeadPointer c o t) sound (ap is_free e)
      (omega (arith, ap capacity_of e)) in (
        w.0,
        w.1,
        fit,
        left_fits (wrote pages home (DeadPointer c o t)) o was.0 was.1 was.2
            (wrote_there pages home (DeadPointer c o t) w.0 o (same_place-sym home o a.0) ∙ was.2)
            (wrote_sound pages home.page home.slot (DeadPointer c o t) w.0 fit sound),
      )
  drop_fits Free e is = absurd (cc (is))
  drop_fits (Over a b d) e is = absurd (cc (is))
  drop_fits (DeadRow a b) e is = absurd (cc (is))
  drop_fits (DeadPointer a b d) e is = absurd (cc (is))
  drop_fits (DeadOver a b d) e is = absurd (cc (is))

pub drop_itself : (pages : List (List Slot)) (home : Place) (s : Slot)
    → ((planned_drop pages home s).home ≡ home) × ((planned_drop pages home s).purge ≡ [])
    × ((planned_drop pages home s).before ≡ row_at (slot_of pages) home)
drop_itself pages home (Pointer c o) = (refl, refl, refl)
drop_itself pages home Free = (refl, refl, refl)
drop_itself pages home (Row a b) = (refl, refl, refl)
drop_itself pages home (Over a b d) = (refl, refl, refl)
drop_itself pages home (DeadRow a b) = (refl, refl, refl)
drop_itself pages home (DeadPointer a b d) = (refl, refl, refl)
drop_itself pages home (DeadOver a b d) = (refl, refl, refl)
