-- All that plans read of a page is the same of its headers.
use Rattle.std.proofs.Common.{◌≡◌, ◌||◌, ℕ, ◌+◌, ◌-◌, ◌≤◌, zero, suc, Bool, true, false, not}
use Rattle.std.proofs.Common.{nat_le, nat_lt, Some, None, List, [], ◌∷◌, map, take, length, get_or}
use Rattle.std.proofs.Common.{refl, sym, ◌∙◌, ap, if◌then◌else◌, cond, arith}
use Rattle.std.specs.List.{list_any}
use Rattle.rg_home.specs.Slot.{Slot}
use Rattle.rg_base.specs.declared.place.Place.{Place}
use Rattle.rg_home.specs.Slot.{Free, Row, Pointer, Over, DeadRow, DeadPointer, DeadOver}
use Rattle.rg_home.specs.Slots.{is_free, trim, capacity_of, used, cut, put, placed}
use Rattle.rg_base.specs.declared.part.Part.{Part}
use Rattle.rg_base.specs.declared.part.SlotOp.TheVariants as Op
use Rattle.rg_home.specs.Pages.{page_at, altered, wrote_page, wrote, part_at}
use Rattle.rg_home.specs.declared.plan.Area.{Area}
use Rattle.rg_home.specs.Plan.{is_ended, swept, purged, free, room, takes, admits, first_free}
use Rattle.rg_home.specs.Plan.{first_page, purge_from, area_when, area_on, new_area, fitting}
use Rattle.rg_page.specs.Bare.{bare}

pub bare_capacity : (s : Slot) → capacity_of (bare s) ≡ capacity_of s
bare_capacity Free = refl
bare_capacity (Row a b) = refl
bare_capacity (Pointer a b) = refl
bare_capacity (Over a b d) = refl
bare_capacity (DeadRow a b) = refl
bare_capacity (DeadPointer a b d) = refl
bare_capacity (DeadOver a b d) = refl

pub bare_free : (s : Slot) → is_free (bare s) ≡ is_free s
bare_free Free = refl
bare_free (Row a b) = refl
bare_free (Pointer a b) = refl
bare_free (Over a b d) = refl
bare_free (DeadRow a b) = refl
bare_free (DeadPointer a b d) = refl
bare_free (DeadOver a b d) = refl

pub bare_ended : (live : List ℕ) (s : Slot) → is_ended live (bare s) ≡ is_ended live s
bare_ended live Free = refl
bare_ended live (Row a b) = refl
bare_ended live (Pointer a b) = refl
bare_ended live (Over a b d) = refl
bare_ended live (DeadRow a b) = refl
bare_ended live (DeadPointer a b d) = refl
bare_ended live (DeadOver a b d) = refl

bare_swept : (live : List ℕ) (s : Slot) → swept live (bare s) ≡ bare (swept live s)
bare_swept live s =
    ap (λ (b : Bool). if b then Free else bare s) (bare_ended live s) ∙ go (is_ended live s)
  where
    go : (b : Bool) → (if b then Free else bare s) ≡ bare (if b then Free else s)
    go true = refl
    go false = refl

bare_cut : (s : Slot) (r : List Slot) → map bare (cut s r) ≡ cut (bare s) (map bare r)
bare_cut Free [] = refl
bare_cut Free (x ∷ r) = refl
bare_cut (Row a b) r = refl
bare_cut (Pointer a b) r = refl
bare_cut (Over a b d) r = refl
bare_cut (DeadRow a b) r = refl
bare_cut (DeadPointer a b d) r = refl
bare_cut (DeadOver a b d) r = refl

pub bare_trim : (slots : List Slot) → map bare (trim slots) ≡ trim (map bare slots)
bare_trim [] = refl
bare_trim (s ∷ slots) = bare_cut s (trim slots) ∙ ap (cut (bare s)) (bare_trim slots)

bare_all_swept : (live : List ℕ) (slots : List Slot)
    → map (swept live) (map bare slots) ≡ map bare (map (swept live) slots)
bare_all_swept live [] = refl
bare_all_swept live (s ∷ slots) =
    ap (λ (x : Slot). x ∷ map (swept live) (map bare slots)) (bare_swept live s)
    ∙ ap (λ (r : List Slot). bare (swept live s) ∷ r) (bare_all_swept live slots)

-- the headers of a page purged are its headers, purged
pub bare_purged : (live : List ℕ) (slots : List Slot)
    → purged live (map bare slots) ≡ map bare (purged live slots)
bare_purged live slots =
    ap trim (bare_all_swept live slots) ∙ sym (bare_trim (map (swept live) slots))

pub bare_used : (slots : List Slot) → used (map bare slots) ≡ used slots
bare_used [] = refl
bare_used (s ∷ slots) = omega (arith, bare_capacity s, bare_used slots)

pub bare_any : (slots : List Slot) → list_any is_free (map bare slots) ≡ list_any is_free slots
bare_any [] = refl
bare_any (s ∷ slots) = ap (λ (b : Bool). b || list_any is_free (map bare slots)) (bare_free s)
    ∙ ap (λ (b : Bool). is_free s || b) (bare_any slots)

pub bare_first_free : (slots : List Slot) → first_free (map bare slots) ≡ first_free slots
bare_first_free [] = refl
bare_first_free (s ∷ slots) =
    ap (λ (b : Bool). cond (not b) (1 + first_free (map bare slots)) 0) (bare_free s)
    ∙ ap (λ (n : ℕ). cond (not (is_free s)) (1 + n) 0) (bare_first_free slots)

pub bare_takes : (b : ℕ) (slots : List Slot) → takes b (map bare slots) ≡ takes b slots
bare_takes b slots = ap
    (λ (g : Bool). if g then nat_le b (4064 - used (map bare slots))
    else nat_le (b + 18) (4064 - used (map bare slots))) (bare_any slots)
    ∙ ap
    (λ (u : ℕ). if list_any is_free slots then nat_le b (4064 - u) else nat_le (b + 18) (4064 - u))
    (bare_used slots)

-- whether a page admits an area is read off its headers
pub bare_admits : (live : List ℕ) (b : ℕ) (slots : List Slot)
    → admits live b (map bare slots) ≡ admits live b slots
bare_admits live b slots = ap (takes b) (bare_purged live slots) ∙ bare_takes b (purged live slots)

pub bare_room : (live : List ℕ) (slots : List Slot) → room live (map bare slots) ≡ room live slots
bare_room live slots =
    ap free (bare_purged live slots) ∙ ap (λ (u : ℕ). 4064 - u) (bare_used (purged live slots))

-- so the first page that admits is found over the headers
pub bare_first_page : (live : List ℕ) (b : ℕ) (pages : List (List Slot))
    → first_page live b (map (map bare) pages) ≡ first_page live b pages
bare_first_page live b [] = refl
bare_first_page live b (p ∷ pages) =
    ap (λ (g : Bool). cond (not g) (1 + first_page live b (map (map bare) pages)) 0)
    (bare_admits live b p)
    ∙ ap (λ (n : ℕ). cond (not (admits live b p)) (1 + n) 0) (bare_first_page live b pages)

pub bare_purge_from : (live : List ℕ) (n i : ℕ) (slots : List Slot)
    → purge_from live n i (map bare slots) ≡ purge_from live n i slots
bare_purge_from live n i [] = refl
bare_purge_from live n i (s ∷ slots) =
    ap
    (λ (b : Bool). if b then part_at (record { page = n; slot = i }) Op.Free
    ∷ purge_from live n (i + 1) (map bare slots) else purge_from live n (i + 1) (map bare slots))
    (bare_ended live s)
    ∙ ap
    (λ (r : List Part). if is_ended live s then part_at (record { page = n; slot = i }) Op.Free ∷ r
    else r) (bare_purge_from live n (i + 1) slots)

pub bare_put : (slots : List Slot) (i : ℕ) (s : Slot)
    → map bare (put slots i s) ≡ put (map bare slots) i (bare s)
bare_put [] zero s = refl
bare_put [] (suc i) s = ap (λ (r : List Slot). Free ∷ r) (bare_put [] i s)
bare_put (x ∷ slots) zero s = refl
bare_put (x ∷ slots) (suc i) s = ap (λ (r : List Slot). bare x ∷ r) (bare_put slots i s)

-- a slot set keeps the headers in step
pub bare_placed : (slots : List Slot) (i : ℕ) (s : Slot)
    → map bare (placed slots i s) ≡ placed (map bare slots) i (bare s)
bare_placed slots i s = bare_trim (put slots i s) ∙ ap trim (bare_put slots i s)

bare_altered : (pages : List (List Slot)) (n i : ℕ) (s : Slot)
    → map (map bare) (altered [] (λ slots. placed slots i s) pages n)
    ≡ altered [] (λ slots. placed slots i (bare s)) (map (map bare) pages) n
bare_altered [] zero i s = ap (λ (r : List Slot). r ∷ []) (bare_placed [] i s)
bare_altered [] (suc n) i s = ap (λ (r : List (List Slot)). [] ∷ r) (bare_altered [] n i s)
bare_altered (p ∷ pages) zero i s =
    ap (λ (r : List Slot). r ∷ map (map bare) pages) (bare_placed p i s)
bare_altered (p ∷ pages) (suc n) i s =
    ap (λ (r : List (List Slot)). map bare p ∷ r) (bare_altered pages n i s)

pub bare_wrote : (pages : List (List Slot)) (p : Place) (s : Slot)
    → map (map bare) (wrote pages p s) ≡ wrote (map (map bare) pages) p (bare s)
bare_wrote pages p s = go p.page
  where
    go : (n : ℕ)
        → map (map bare) (wrote_page pages n p.slot s)
        ≡ wrote_page (map (map bare) pages) n p.slot (bare s)
    go zero = refl
    go (suc n) = bare_altered pages n p.slot s

-- the headers of the first slots, of all

pub bare_some : (slots : List Slot) (i : ℕ) → length (map bare (take i slots)) ≤ length slots
bare_some [] zero = omega arith
bare_some [] (suc i) = omega arith
bare_some (s ∷ slots) zero = omega arith
bare_some (s ∷ slots) (suc i) = omega (arith, bare_some slots i)

pub bare_some_less : (slots : List Slot) (i : ℕ) → length (map bare (take i slots)) ≤ i
bare_some_less [] zero = omega arith
bare_some_less [] (suc i) = omega arith
bare_some_less (s ∷ slots) zero = omega arith
bare_some_less (s ∷ slots) (suc i) = omega (arith, bare_some_less slots i)

pub bare_whole : (slots : List Slot) (i : ℕ) → length slots ≤ i
    → map bare (take i slots) ≡ map bare slots
bare_whole [] zero h = refl
bare_whole [] (suc i) h = refl
bare_whole (s ∷ slots) zero h = absurd (omega arith)
bare_whole (s ∷ slots) (suc i) h =
    ap (λ (r : List Slot). bare s ∷ r) (bare_whole slots i (omega arith))

pub bare_fits : (slots : List Slot) → used slots ≤ 4064 → used (map bare slots) ≤ 4064
bare_fits slots h = omega (arith, bare_used slots)

pub bare_trimmed : (slots : List Slot) → trim slots ≡ slots → trim (map bare slots) ≡ map bare slots
bare_trimmed slots h = sym (bare_trim slots) ∙ ap (map bare) h

-- what the plans read beside: where a new area lies, and how an area that is there takes a row

bare_area_when : (live : List ℕ) (n : ℕ) (slots : List Slot) (t : Bool)
    → area_when live n (map bare slots) t ≡ area_when live n slots t
bare_area_when live n slots true =
    ap (λ (k : ℕ). record { place = record { page = n; slot = k }; purges = false })
    (bare_first_free slots)
bare_area_when live n slots false =
    ap (λ (k : ℕ). record { place = record { page = n; slot = k }; purges = true })
    (ap first_free (bare_purged live slots) ∙ bare_first_free (purged live slots))

pub bare_area_on : (live : List ℕ) (b n : ℕ) (slots : List Slot)
    → area_on live b n (map bare slots) ≡ area_on live b n slots
bare_area_on live b n slots = ap (area_when live n (map bare slots)) (bare_takes b slots)
    ∙ bare_area_when live n slots (takes b slots)

bare_get : (pages : List (List Slot)) (n : ℕ)
    → get_or (map (map bare) pages) n [] ≡ map bare (get_or pages n [])
bare_get [] n = refl
bare_get (p ∷ pages) zero = refl
bare_get (p ∷ pages) (suc n) = bare_get pages n

pub bare_page_at : (pages : List (List Slot)) (n : ℕ)
    → page_at (map (map bare) pages) n ≡ map bare (page_at pages n)
bare_page_at pages n = bare_get ([] ∷ pages) n

pub bare_new_area : (live : List ℕ) (b capacity : ℕ) (pages : List (List Slot))
    → new_area live b capacity (map (map bare) pages) ≡ new_area live b capacity pages
bare_new_area live b capacity pages =
    ap
    (λ (n : ℕ). if nat_lt n capacity
    then Some (area_on live b (n + 1) (page_at (map (map bare) pages) (n + 1))) else None)
    (bare_first_page live b pages)
    ∙ ap (λ (a : Area). if nat_lt m capacity then Some a else None)
    (ap (area_on live b (m + 1)) (bare_page_at pages (m + 1))
    ∙ bare_area_on live b (m + 1) (page_at pages (m + 1)))
  where
    m : ℕ
    m = first_page live b pages

pub bare_fitting : (live : List ℕ) (b c : ℕ) (slots : List Slot)
    → fitting live b c (map bare slots) ≡ fitting live b c slots
bare_fitting live b c slots =
    ap
    (λ (r : ℕ). if nat_le b c then Some (record { capacity = c; purges = false })
    else (if nat_le (b - c) r
    then Some (record { capacity = b; purges = nat_lt (4064 - used (map bare slots)) (b - c) })
    else None)) (bare_room live slots)
    ∙ ap
    (λ (u : ℕ). if nat_le b c then Some (record { capacity = c; purges = false })
    else (if nat_le (b - c) (room live slots)
    then Some (record { capacity = b; purges = nat_lt (4064 - u) (b - c) }) else None))
    (bare_used slots)
