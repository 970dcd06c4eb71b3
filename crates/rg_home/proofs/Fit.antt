-- The parts of a plan fit their pages.
use Rattle.std.proofs.Common.{◌≡◌, ℕ, ◌+◌, ◌≤◌, ◌<◌, ◌⊎◌, inl, inr, zero, suc, Bool, true, false}
use Rattle.std.proofs.Common.{nat_le, nat_lt, List, [], ◌∷◌, map, length, get_or, Option, Some}
use Rattle.std.proofs.Common.{None, IfSome, refl, sym, ◌∙◌, ap, subst, if◌then◌else◌, arith}
use Rattle.std.specs.List.{list_any}
use Rattle.std.proofs.lemmas.Bool.{leb-true, ltb-true, le-leb, cases_lt, cases_eq}
use Rattle.std.proofs.lemmas.List.{get_or_past}
use Rattle.std.proofs.lemmas.List.Sums.{passes_at_first}
use Rattle.rg_home.specs.Slot.{Slot}
use Rattle.rg_base.specs.declared.row.Row.{Row as TableRow}
use Rattle.rg_home.specs.Slot.{Free, Row, Pointer, Over, DeadRow, DeadPointer, DeadOver}
use Rattle.rg_home.specs.Slots.{slot_at, is_free, trim, capacity_of, used, cut, put, placed, Fits}
use Rattle.rg_home.specs.Slots.{IsTrimmed}
use Rattle.rg_home.proofs.Slots.{put-set, used-set, trim-put_free}
use Rattle.rg_home.proofs.Steps.{trim-trim}
use Rattle.rg_base.specs.declared.part.Part.{Part}
use Rattle.rg_home.specs.declared.plan.Area.{Area}
use Rattle.rg_base.specs.declared.part.SlotOp.TheVariants as Op
use Rattle.rg_home.specs.Plan.{is_ended, swept, purged, free, takes, admits, first_free, area_when}
use Rattle.rg_home.specs.Plan.{area_on, purge_from, purge_of, planned_put, first_page, new_area}
use Rattle.rg_home.specs.Pages.{page_at, wrote, wrote_page, made, applied, FitsAll, Sound, place_of}
use Rattle.rg_home.specs.Pages.{part_at}
use Rattle.rg_home.proofs.Look.{wrote_same, wrote_other}
use Rattle.rg_home.proofs.Offers.{used-trim, page_at-next, capacity-swept}
use Rattle.rg_home.proofs.Sweep.{spot, purge_look, slot_at-purged}

-- trimmed slots that look alike are the same

free_head : (x : Slot) (slots : List Slot) → IsTrimmed (x ∷ slots) → trim slots ≡ slots
free_head Free slots t = go slots (trim slots) t
  where
    go : (slots r : List Slot) → cut Free r ≡ Free ∷ slots → r ≡ slots
    go slots [] e = absurd (cc (e))
    go slots (y ∷ r) e = cc (e)
free_head (Row a b) slots t = cc (t)
free_head (Pointer a b) slots t = cc (t)
free_head (Over a b d) slots t = cc (t)
free_head (DeadRow a b) slots t = cc (t)
free_head (DeadPointer a b d) slots t = cc (t)
free_head (DeadOver a b d) slots t = cc (t)

all_free : (slots : List Slot) → ((k : ℕ) → slot_at slots k ≡ Free) → trim slots ≡ []
all_free [] h = refl
all_free (x ∷ slots) h =
    ap (λ (s : Slot). cut s (trim slots)) (h zero) ∙ ap (cut Free) (all_free slots (λ k. h (suc k)))

pub trimmed_same : (a b : List Slot) → IsTrimmed a → IsTrimmed b
    → ((k : ℕ) → slot_at a k ≡ slot_at b k) → a ≡ b
trimmed_same [] b ta tb h = sym (sym tb ∙ all_free b (λ k. sym (h k)))
trimmed_same (x ∷ a) [] ta tb h = sym ta ∙ all_free (x ∷ a) h
trimmed_same (x ∷ a) (y ∷ b) ta tb h =
    ap (λ (s : Slot). s ∷ a) (h zero)
    ∙ ap (λ (r : List Slot). y ∷ r)
    (trimmed_same a b (free_head x a ta) (free_head y b tb) (λ k. h (suc k)))

wrote_trimmed : (pages : List (List Slot)) (n i : ℕ) (s : Slot) → 1 ≤ n
    → ((m : ℕ) → IsTrimmed (page_at pages m)) → (m : ℕ)
    → IsTrimmed (page_at (wrote_page pages n i s) m)
wrote_trimmed pages n i s low t m = go (cases_eq m n)
  where
    go : (m ≡ n) ⊎ (m ≡ n → ⊥) → IsTrimmed (page_at (wrote_page pages n i s) m)
    go (inl e) =
        subst IsTrimmed (sym (ap (page_at (wrote_page pages n i s)) e ∙ wrote_same pages n i s low))
        (trim-trim (put (page_at pages n) i s))
    go (inr e) = subst IsTrimmed (sym (wrote_other pages n i m s e)) (t m)

wrote_fits : (pages : List (List Slot)) (n i : ℕ) (s : Slot) → 1 ≤ n
    → Fits (placed (page_at pages n) i s) → ((m : ℕ) → Fits (page_at pages m)) → (m : ℕ)
    → Fits (page_at (wrote_page pages n i s) m)
wrote_fits pages n i s low f t m = go (cases_eq m n)
  where
    go : (m ≡ n) ⊎ (m ≡ n → ⊥) → Fits (page_at (wrote_page pages n i s) m)
    go (inl e) =
        subst Fits (sym (ap (page_at (wrote_page pages n i s)) e ∙ wrote_same pages n i s low)) f
    go (inr e) = subst Fits (sym (wrote_other pages n i m s e)) (t m)

pub wrote_sound : (pages : List (List Slot)) (n i : ℕ) (s : Slot) → 1 ≤ n
    → Fits (placed (page_at pages n) i s) → Sound pages → Sound (wrote_page pages n i s)
wrote_sound pages n i s low f sound = record {
  trimmed = wrote_trimmed pages n i s low sound.trimmed;
  fits = wrote_fits pages n i s low f sound.fits;
}

-- parts that fit keep the pages sound
pub applied_sound :
    (owner : ℕ) (after : TableRow) (limit : ℕ) (pages : List (List Slot)) (parts : List Part)
    → FitsAll owner after limit pages parts → Sound pages → Sound (applied owner after pages parts)
applied_sound owner after limit pages [] f s = s
applied_sound owner after limit pages (x ∷ parts) f s =
    applied_sound owner after limit (wrote pages (place_of x) (made owner after x.op)) parts f.3
    (wrote_sound pages x.page x.slot (made owner after x.op) f.0 f.2 s)

-- a slot that is freed fits

used-freed : (slots : List Slot) (i : ℕ) → used (placed slots i Free) ≤ used slots
used-freed slots i = go (cases_lt i (length slots))
  where
    go : (i < length slots) ⊎ (length slots ≤ i) → used (placed slots i Free) ≤ used slots
    go (inl h) = omega (
      arith,
      used-trim (put slots i Free),
      ap used (put-set slots i Free h),
      used-set slots i Free h,
    )
    go (inr h) = omega (arith, used-trim slots, ap used (trim-put_free slots i h))

freed_fits : (slots : List Slot) (i : ℕ) → Fits slots → Fits (placed slots i Free)
freed_fits slots i f = omega (arith, used-freed slots i)

pub purge_fits : (owner : ℕ) (after : TableRow) (limit : ℕ) (live : List ℕ) (n i : ℕ)
    (slots : List Slot) (pages : List (List Slot))
    → 1 ≤ n → n ≤ limit → Sound pages → FitsAll owner after limit pages (purge_from live n i slots)
purge_fits owner after limit live n i [] pages low high sound = tt
purge_fits owner after limit live n i (s ∷ slots) pages low high sound =
    let f : Fits (placed (page_at pages n) i Free) =
    freed_fits (page_at pages n) i (sound.fits n) in
    go (is_ended live s) f
    (purge_fits owner after limit live n (i + 1) slots (wrote pages (spot n i) Free) low high
    (wrote_sound pages n i Free low f sound))
    (purge_fits owner after limit live n (i + 1) slots pages low high sound)
  where
    go : (b : Bool) → Fits (placed (page_at pages n) i Free)
        → FitsAll owner after limit (wrote pages (spot n i) Free) (purge_from live n (i + 1) slots)
        → FitsAll owner after limit pages (purge_from live n (i + 1) slots)
        → FitsAll owner after limit pages
        (if b then part_at (spot n i) Op.Free ∷ purge_from live n (i + 1) slots
        else purge_from live n (i + 1) slots)
    go true f g h = (low, high, f, g)
    go false f g h = h

-- a purge keeps the pages sound
pub purge_sound :
    (live : List ℕ) (t : ℕ) (after : TableRow) (pages : List (List Slot)) (n : ℕ) (purges : Bool)
    → 1 ≤ n → Sound pages → Sound (applied t after pages (purge_of live pages n purges))
purge_sound live t after pages n true low sound = applied_sound t after n pages _
    (purge_fits t after n live n 0 (page_at pages n) pages low (omega arith) sound) sound
purge_sound live t after pages n false low sound = sound

-- a page that is purged by its parts is the purged page
pub purged_page :
    (owner : ℕ) (after : TableRow) (limit : ℕ) (live : List ℕ) (n : ℕ) (pages : List (List Slot))
    → 1 ≤ n → n ≤ limit → Sound pages
    → page_at (applied owner after pages (purge_from live n 0 (page_at pages n))) n
    ≡ purged live (page_at pages n)
purged_page owner after limit live n pages low high sound =
    let parts = purge_from live n 0 (page_at pages n) in
    let f = purge_fits owner after limit live n 0 (page_at pages n) pages low high sound in
    let look = purge_look owner after live n low 0 (page_at pages n) pages
    (λ k. ap (slot_at (page_at pages n)) (plus k)) in
    trimmed_same _ _ ((applied_sound owner after limit pages parts f sound).trimmed n)
    (trim-trim (map (swept live) (page_at pages n)))
    (λ k. ap (slot_at (page_at (applied owner after pages parts) n)) (plus k) ∙ look.1 k
    ∙ sym (slot_at-purged live (page_at pages n) k))
  where
    plus : (k : ℕ) → k ≡ 0 + k
    plus k = omega arith

-- a new area at the lowest Free slot, else a new one

more : (x : Slot) (slots : List Slot) (s : Slot) (m k : ℕ) → used (put slots m s) ≡ used slots + k
    → used (put (x ∷ slots) (1 + m) s) ≡ used (x ∷ slots) + k
more x slots s m k e = omega (arith, e, ap (λ (n : ℕ). used (put (x ∷ slots) n s)) (plus m))
  where
    plus : (m : ℕ) → 1 + m ≡ suc m
    plus m = omega arith

used-new : (slots : List Slot) (s : Slot)
    → used (put slots (first_free slots) s)
    ≡ used slots + (if list_any is_free slots then capacity_of s else 18 + capacity_of s)
used-new [] s = omega arith
used-new (Free ∷ slots) s = omega arith
used-new (Row a b ∷ slots) s = more (Row a b) slots s (first_free slots) _ (used-new slots s)
used-new (Pointer a b ∷ slots) s =
    more (Pointer a b) slots s (first_free slots) _ (used-new slots s)
used-new (Over a b d ∷ slots) s = more (Over a b d) slots s (first_free slots) _ (used-new slots s)
used-new (DeadRow a b ∷ slots) s =
    more (DeadRow a b) slots s (first_free slots) _ (used-new slots s)
used-new (DeadPointer a b d ∷ slots) s =
    more (DeadPointer a b d) slots s (first_free slots) _ (used-new slots s)
used-new (DeadOver a b d ∷ slots) s =
    more (DeadOver a b d) slots s (first_free slots) _ (used-new slots s)

takes_fits : (b : ℕ) (slots : List Slot) (s : Slot) → capacity_of s ≡ b → Fits slots
    → takes b slots ≡ true → Fits (placed slots (first_free slots) s)
takes_fits b slots s e fits t = go (list_any is_free slots) t (used-new slots s)
  where
    go : (g : Bool) → (if g then nat_le b (free slots) else nat_le (b + 18) (free slots)) ≡ true
        → used (put slots (first_free slots) s)
        ≡ used slots + (if g then capacity_of s else 18 + capacity_of s)
        → Fits (placed slots (first_free slots) s)
    go true t u =
        omega (arith, used-trim (put slots (first_free slots) s), leb-true b (free slots) t)
    go false t u =
        omega (arith, used-trim (put slots (first_free slots) s), leb-true (b + 18) (free slots) t)

pub used-swept : (live : List ℕ) (slots : List Slot) → used (purged live slots) ≤ used slots
used-swept live slots = omega (arith, used-trim (map (swept live) slots), all live slots)
  where
    all : (live : List ℕ) (slots : List Slot) → used (map (swept live) slots) ≤ used slots
    all live [] = omega arith
    all live (s ∷ slots) = omega (arith, capacity-swept live s, all live slots)

module _ (owner : ℕ) (after : TableRow) (limit : ℕ) (live : List ℕ) (pages : List (List Slot))
    (sound : Sound pages) where
  -- the purge and a new slot of b bytes fit
  abbrev pub Takes : ℕ → Area → Type 0
  Takes b area = (1 ≤ area.place.page) × (area.place.page ≤ limit)
      × FitsAll owner after limit pages (purge_of live pages area.place.page area.purges)
      × ((s : Slot) → capacity_of s ≡ b
      → Fits
      (placed
      (page_at (applied owner after pages (purge_of live pages area.place.page area.purges))
      area.place.page) area.place.slot s))

  area_takes : (b n : ℕ) → 1 ≤ n → n ≤ limit → admits live b (page_at pages n) ≡ true → (t : Bool)
      → takes b (page_at pages n) ≡ t → Takes b (area_when live n (page_at pages n) t)
  area_takes b n low high a true e =
      (low, high, tt, λ s c. takes_fits b (page_at pages n) s c (sound.fits n) e)
  area_takes b n low high a false e = (
    low,
    high,
    purge_fits owner after limit live n 0 (page_at pages n) pages low high sound,
    each,
  )
    where
      each : (s : Slot) → capacity_of s ≡ b
          → Fits
          (placed (page_at (applied owner after pages (purge_from live n 0 (page_at pages n))) n)
          (first_free (purged live (page_at pages n))) s)
      each s c = subst
          (λ (slots : List Slot).
          Fits (placed slots (first_free (purged live (page_at pages n))) s))
          (sym (purged_page owner after limit live n pages low high sound))
          (takes_fits b (purged live (page_at pages n)) s c
          (omega (arith, used-swept live (page_at pages n), sound.fits n)) a)

  page_past : (n : ℕ) → length pages ≤ n → get_or pages n [] ≡ []
  page_past n h = get_or_past pages n [] h

  empty_takes : (b : ℕ) → b ≤ 4046 → admits live b [] ≡ true
  empty_takes b h = le-leb (b + 18) 4064 (omega arith)

  first_admits : (b : ℕ) → b ≤ 4046
      → admits live b (page_at pages (first_page live b pages + 1)) ≡ true
  first_admits b h = ap (admits live b) (page_at-next pages (first_page live b pages))
      ∙ go (cases_lt (first_page live b pages) (length pages))
    where
      go : (first_page live b pages < length pages) ⊎ (length pages ≤ first_page live b pages)
          → admits live b (get_or pages (first_page live b pages) []) ≡ true
      go (inl l) = passes_at_first (admits live b) pages [] l
      go (inr l) = ap (admits live b) (get_or_past pages (first_page live b pages) [] l)
          ∙ le-leb (b + 18) 4064 (omega arith)

  pub new_takes : (b capacity : ℕ) → b ≤ 4046 → capacity ≤ limit
      → IfSome (new_area live b capacity pages) (Takes b)
  new_takes b capacity h c = go (nat_lt (first_page live b pages) capacity) refl
    where
      go : (g : Bool) → nat_lt (first_page live b pages) capacity ≡ g
          → IfSome
          (if g then Some
          (area_on live b (first_page live b pages + 1)
          (page_at pages (first_page live b pages + 1))) else None) (Takes b)
      go true e = area_takes b (first_page live b pages + 1) (omega arith)
          (omega (arith, ltb-true (first_page live b pages) capacity e)) (first_admits b h)
          (takes b (page_at pages (first_page live b pages + 1))) refl
      go false e = tt

  -- both records of a put fit, one after the other
  pub put_fits : (b : ℕ) (area : Option Area) → IfSome area (Takes b)
      → IfSome (planned_put live b pages area)
      (λ p. FitsAll owner after limit pages p.purge
      × FitsAll owner after limit (applied owner after pages p.purge) p.parts)
  put_fits b None h = tt
  put_fits b (Some area) h = (h.2, (h.0, h.1, h.3 (Row b after) refl, tt))
