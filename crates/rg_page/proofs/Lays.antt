-- Slots laid out of headers, places and bytes.
use Rattle.std.proofs.Common.{◌≡◌, ◌≤◌, ◌<◌, ℕ, zero, suc, List, [], ◌∷◌, length, map, get_or, refl}
use Rattle.std.proofs.Common.{sym, ap, ◌∙◌, arith}
use Rattle.std.specs.declared.vec.Vec.{Vec}
use Rattle.std.specs.declared.alloc.Global.{Global}
use Rattle.rg_base.specs.declared.place.Place.{Place}
use Rattle.rg_home.specs.Slot.{Slot}
use Rattle.rg_home.specs.Slot.{Free, Row, Pointer, Over, DeadRow, DeadPointer, DeadOver}
use Rattle.rg_home.specs.Slots.{used, slot_at, cut, trim, IsTrimmed}
use Rattle.rg_home.specs.Plan.{room}
use Rattle.rg_page.specs.Bare.{bare}
use Rattle.rg_page.specs.Laid.{whole_slot, laid, IsArea, AreAreas, IsLaid}
use Rattle.rg_page.proofs.BareSlots.{bare_used, bare_trim, bare_room}

-- as many areas as headers
pub areas_count : (headers : List Slot) (areas : List (List ℕ)) → AreAreas headers areas
    → length areas ≡ length headers
areas_count [] areas are = ap (λ (xs : List (List ℕ)). length xs) are
areas_count (h ∷ headers) [] are = absurd are
areas_count (h ∷ headers) (bytes ∷ areas) are = omega (arith, areas_count headers areas are.1)

bare_whole : (h : Slot) (other : Place) (bytes : List ℕ) → bare (whole_slot h other bytes) ≡ bare h
bare_whole Free other bytes = refl
bare_whole (Row a b) other bytes = refl
bare_whole (Pointer a b) other bytes = refl
bare_whole (Over a b d) other bytes = refl
bare_whole (DeadRow a b) other bytes = refl
bare_whole (DeadPointer a b d) other bytes = refl
bare_whole (DeadOver a b d) other bytes = refl

-- the headers are the slots laid, without rows and places
pub bare_laid : (headers : List Slot) (others : List Place) (areas : List (List ℕ))
    → length others ≡ length headers → length areas ≡ length headers
    → map bare (laid headers others areas) ≡ map bare headers
bare_laid [] others areas p a = refl
bare_laid (h ∷ headers) [] areas p a = absurd (omega arith)
bare_laid (h ∷ headers) (other ∷ others) [] p a = absurd (omega arith)
bare_laid (h ∷ headers) (other ∷ others) (bytes ∷ areas) p a =
    ap (λ (s : Slot). s ∷ map bare (laid headers others areas)) (bare_whole h other bytes)
    ∙ ap (λ (r : List Slot). bare h ∷ r)
    (bare_laid headers others areas (omega arith) (omega arith))

pub length-map_bare : (slots : List Slot) → length (map bare slots) ≡ length slots
length-map_bare [] = refl
length-map_bare (s ∷ slots) = omega (arith, length-map_bare slots)

pub laid_at : (headers : List Slot) (others : List Place) (areas : List (List ℕ)) (i : ℕ)
    (d : Place)
    → length others ≡ length headers → length areas ≡ length headers → i < length headers
    → slot_at (laid headers others areas) i
    ≡ whole_slot (slot_at headers i) (get_or others i d) (get_or areas i [])
laid_at [] others areas i d p a below = absurd (omega arith)
laid_at (h ∷ headers) [] areas i d p a below = absurd (omega arith)
laid_at (h ∷ headers) (other ∷ others) [] i d p a below = absurd (omega arith)
laid_at (h ∷ headers) (other ∷ others) (bytes ∷ areas) zero d p a below = refl
laid_at (h ∷ headers) (other ∷ others) (bytes ∷ areas) (suc i) d p a below =
    laid_at headers others areas i d (omega arith) (omega arith) (omega arith)

pub area_at : (headers : List Slot) (areas : List (List ℕ)) (i : ℕ) → AreAreas headers areas
    → i < length headers
    → IsArea (slot_at headers i) (get_or areas i [])
area_at [] areas i are below = absurd (omega arith)
area_at (h ∷ headers) [] i are below = absurd are
area_at (h ∷ headers) (bytes ∷ areas) zero are below = are.0
area_at (h ∷ headers) (bytes ∷ areas) (suc i) are below =
    area_at headers areas i are.1 (omega arith)

-- a page is trimmed where its headers are
cut_longer : (s : Slot) (slots : List Slot) → length (cut s slots) ≤ suc (length slots)
cut_longer Free [] = omega arith
cut_longer Free (x ∷ slots) = omega arith
cut_longer (Row a b) slots = omega arith
cut_longer (Pointer a b) slots = omega arith
cut_longer (Over a b d) slots = omega arith
cut_longer (DeadRow a b) slots = omega arith
cut_longer (DeadPointer a b d) slots = omega arith
cut_longer (DeadOver a b d) slots = omega arith

pub trim_no_longer : (slots : List Slot) → length (trim slots) ≤ length slots
trim_no_longer [] = omega arith
trim_no_longer (s ∷ slots) = omega (arith, cut_longer s (trim slots), trim_no_longer slots)

-- a page of as many slots once trimmed is trimmed
trim_whole : (slots : List Slot) → length (trim slots) ≡ length slots → trim slots ≡ slots
trim_whole [] e = refl
trim_whole (s ∷ slots) e =
    let rest : trim slots ≡ slots =
    trim_whole slots (omega (arith, cut_longer s (trim slots), trim_no_longer slots, e)) in
    ap (cut s) rest ∙ kept s slots (ap (λ (xs : List Slot). length (cut s xs)) (sym rest) ∙ e)
  where
    kept : (s : Slot) (slots : List Slot) → length (cut s slots) ≡ suc (length slots)
        → cut s slots ≡ s ∷ slots
    kept Free [] e = absurd (omega arith)
    kept Free (x ∷ slots) e = refl
    kept (Row a b) slots e = refl
    kept (Pointer a b) slots e = refl
    kept (Over a b d) slots e = refl
    kept (DeadRow a b) slots e = refl
    kept (DeadPointer a b d) slots e = refl
    kept (DeadOver a b d) slots e = refl

trimmed_bare : (slots : List Slot) → trim (map bare slots) ≡ map bare slots → trim slots ≡ slots
trimmed_bare slots e =
    trim_whole slots (sym (length-map_bare (trim slots))
    ∙ ap (λ (xs : List Slot). length xs) (bare_trim slots ∙ e) ∙ length-map_bare slots)

-- what a page's fields say of the slots seen
module _ (headers : List Slot) (others : Vec Place Global) (areas : List (List ℕ))
    (slots : List Slot) (is : IsLaid headers others areas)
    (seen : laid headers others.items areas ≡ slots) where
  pub seen_bare : headers ≡ map bare slots
  seen_bare =
      sym is.headers_are
      ∙
      sym (bare_laid headers others.items areas is.places (areas_count headers areas is.areas_are))
      ∙ ap (map bare) seen

  pub seen_count : length headers ≡ length slots
  seen_count = ap (λ (xs : List Slot). length xs) seen_bare ∙ length-map_bare slots

  pub seen_used : used headers ≡ used slots
  seen_used = ap used seen_bare ∙ bare_used slots

  pub seen_trimmed : IsTrimmed headers → IsTrimmed slots
  seen_trimmed e = trimmed_bare slots (sym (ap trim seen_bare) ∙ e ∙ seen_bare)

  pub seen_room : (live : List ℕ) → room live headers ≡ room live slots
  seen_room live = ap (room live) seen_bare ∙ bare_room live slots
