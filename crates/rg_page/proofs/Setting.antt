-- A slot of a page is set: its header, its place and its bytes, each in its list.
use Rattle.std.proofs.Common.{◌≡◌, ◌≤◌, ◌<◌, ℕ, zero, suc, ◌+◌, Bool, true, false, List, [], ◌∷◌}
use Rattle.std.proofs.Common.{length, map, take, get_or, refl, sym, ap, subst, ◌∙◌, arith, inl, inr}
use Rattle.std.proofs.lemmas.Bool.{cases_lt}
use Rattle.std.proofs.lemmas.List.{length-take-le, length-set}
use Rattle.rg_base.specs.declared.place.Place.{Place}
use Rattle.rg_home.specs.Slot.{Slot}
use Rattle.rg_home.specs.Slot.{Free, Row, Pointer, Over, DeadRow, DeadPointer, DeadOver}
use Rattle.rg_home.specs.Slots.{capacity_of, is_free, used, cut, trim, put, placed, Fits, IsTrimmed}
use Rattle.rg_home.specs.Pages.{altered}
use Rattle.rg_home.proofs.Slots.{free_is, put-set, trim-put_past, trim-set_full}
use Rattle.rg_home.proofs.Steps.{past_free}
use Rattle.rg_page.specs.Bare.{bare, nowhere}
use Rattle.rg_page.specs.Changed.{IsLeft}
use Rattle.rg_page.specs.Laid.{whole_slot, laid, IsArea, AreAreas}
use Rattle.rg_page.specs.Stretches.{filled_by}
use Rattle.rg_page.proofs.BareSlots.{bare_trim}
use Rattle.rg_page.proofs.Lays.{areas_count, bare_laid, length-map_bare, trim_no_longer}

put_length : (headers : List Slot) (i : ℕ) (h : Slot) → length headers ≤ i
    → length (put headers i h) ≡ i + 1
put_length [] zero h past = omega arith
put_length [] (suc i) h past = omega (arith, put_length [] i h (omega arith))
put_length (x ∷ headers) zero h past = absurd (omega arith)
put_length (x ∷ headers) (suc i) h past = omega (arith, put_length headers i h (omega arith))

pub length-put_alike : {A : Type 0} (d x : A) (xs : List A) (headers : List Slot) (i : ℕ) (h : Slot)
    → length xs ≡ length headers
    → length (altered d (λ _. x) xs i) ≡ length (put headers i h)
length-put_alike d x [] [] zero h e = refl
length-put_alike d x [] [] (suc i) h e = omega (arith, length-put_alike d x [] [] i h refl)
length-put_alike d x [] (y ∷ headers) i h e = absurd (omega arith)
length-put_alike d x (z ∷ xs) [] i h e = absurd (omega arith)
length-put_alike d x (z ∷ xs) (y ∷ headers) zero h e = e
length-put_alike d x (z ∷ xs) (y ∷ headers) (suc i) h e =
    omega (arith, length-put_alike d x xs headers i h (omega arith))

-- setting and laying out change places
pub laid_put : (headers : List Slot) (others : List Place) (areas : List (List ℕ)) (i : ℕ)
    (h : Slot) (other : Place) (bytes : List ℕ)
    → length others ≡ length headers → length areas ≡ length headers
    → laid (put headers i h) (altered nowhere (λ _. other) others i)
    (altered [] (λ _. bytes) areas i)
    ≡ put (laid headers others areas) i (whole_slot h other bytes)
laid_put [] [] [] zero h other bytes p a = refl
laid_put [] [] [] (suc i) h other bytes p a =
    ap (λ (r : List Slot). Free ∷ r) (laid_put [] [] [] i h other bytes refl refl)
laid_put [] (x ∷ others) areas i h other bytes p a = absurd (omega arith)
laid_put [] [] (x ∷ areas) i h other bytes p a = absurd (omega arith)
laid_put (g ∷ headers) [] areas i h other bytes p a = absurd (omega arith)
laid_put (g ∷ headers) (x ∷ others) [] i h other bytes p a = absurd (omega arith)
laid_put (g ∷ headers) (x ∷ others) (y ∷ areas) zero h other bytes p a = refl
laid_put (g ∷ headers) (x ∷ others) (y ∷ areas) (suc i) h other bytes p a =
    ap (λ (r : List Slot). whole_slot g x y ∷ r)
    (laid_put headers others areas i h other bytes (omega arith) (omega arith))

pub laid_take : (n : ℕ) (headers : List Slot) (others : List Place) (areas : List (List ℕ))
    → length others ≡ length headers → length areas ≡ length headers
    → laid (take n headers) (take n others) (take n areas) ≡ take n (laid headers others areas)
laid_take zero headers others areas p a = refl
laid_take (suc n) [] [] [] p a = refl
laid_take (suc n) [] (x ∷ others) areas p a = absurd (omega arith)
laid_take (suc n) [] [] (x ∷ areas) p a = absurd (omega arith)
laid_take (suc n) (g ∷ headers) [] areas p a = absurd (omega arith)
laid_take (suc n) (g ∷ headers) (x ∷ others) [] p a = absurd (omega arith)
laid_take (suc n) (g ∷ headers) (x ∷ others) (y ∷ areas) p a =
    ap (λ (r : List Slot). whole_slot g x y ∷ r)
    (laid_take n headers others areas (omega arith) (omega arith))

-- trimmed slots are the first ones
cut_first : (s : Slot) (rest slots : List Slot) → rest ≡ take (length rest) slots
    → cut s rest ≡ take (length (cut s rest)) (s ∷ slots)
cut_first Free [] slots e = refl
cut_first Free (x ∷ rest) slots e = ap (λ (r : List Slot). Free ∷ r) e
cut_first (Row a b) rest slots e = ap (λ (r : List Slot). Row a b ∷ r) e
cut_first (Pointer a b) rest slots e = ap (λ (r : List Slot). Pointer a b ∷ r) e
cut_first (Over a b d) rest slots e = ap (λ (r : List Slot). Over a b d ∷ r) e
cut_first (DeadRow a b) rest slots e = ap (λ (r : List Slot). DeadRow a b ∷ r) e
cut_first (DeadPointer a b d) rest slots e = ap (λ (r : List Slot). DeadPointer a b d ∷ r) e
cut_first (DeadOver a b d) rest slots e = ap (λ (r : List Slot). DeadOver a b d ∷ r) e

pub trim_first : (slots : List Slot) → trim slots ≡ take (length (trim slots)) slots
trim_first [] = refl
trim_first (s ∷ slots) = cut_first s (trim slots) slots (trim_first slots)

pub areas_put : (headers : List Slot) (areas : List (List ℕ)) (i : ℕ) (h : Slot) (bytes : List ℕ)
    → AreAreas headers areas → IsArea h bytes
    → AreAreas (put headers i h) (altered [] (λ _. bytes) areas i)
areas_put [] [] zero h bytes are is = (is, refl)
areas_put [] [] (suc i) h bytes are is = (refl, areas_put [] [] i h bytes refl is)
areas_put [] (x ∷ areas) i h bytes are is =
    absurd (omega (arith, ap (λ (xs : List (List ℕ)). length xs) are))
areas_put (g ∷ headers) [] i h bytes are is = absurd are
areas_put (g ∷ headers) (x ∷ areas) zero h bytes are is = (is, are.1)
areas_put (g ∷ headers) (x ∷ areas) (suc i) h bytes are is =
    (are.0, areas_put headers areas i h bytes are.1 is)

pub areas_take : (n : ℕ) (headers : List Slot) (areas : List (List ℕ)) → AreAreas headers areas
    → AreAreas (take n headers) (take n areas)
areas_take zero headers areas are = refl
areas_take (suc n) [] [] are = refl
areas_take (suc n) [] (x ∷ areas) are =
    absurd (omega (arith, ap (λ (xs : List (List ℕ)). length xs) are))
areas_take (suc n) (g ∷ headers) [] are = absurd are
areas_take (suc n) (g ∷ headers) (x ∷ areas) are = (are.0, areas_take n headers areas are.1)

-- rows take no more than the slots do
area_within : (h : Slot) (bytes : List ℕ) → IsArea h bytes → length bytes ≤ capacity_of h
area_within Free bytes is = omega (arith, ap (λ (xs : List ℕ). length xs) is)
area_within (Row a b) bytes is = is.within
area_within (Pointer a b) bytes is = omega (arith, ap (λ (xs : List ℕ). length xs) is)
area_within (Over a b d) bytes is = is.within
area_within (DeadRow a b) bytes is = omega (arith, ap (λ (xs : List ℕ). length xs) is)
area_within (DeadPointer a b d) bytes is = omega (arith, ap (λ (xs : List ℕ). length xs) is)
area_within (DeadOver a b d) bytes is = omega (arith, ap (λ (xs : List ℕ). length xs) is)

pub areas_within : (headers : List Slot) (areas : List (List ℕ)) → AreAreas headers areas
    → filled_by areas ≤ used headers
areas_within [] [] are = omega arith
areas_within [] (x ∷ areas) are = absurd (omega (arith, ap (λ (xs : List (List ℕ)). length xs) are))
areas_within (g ∷ headers) [] are = absurd are
areas_within (g ∷ headers) (x ∷ areas) are =
    omega (arith, area_within g x are.0, areas_within headers areas are.1)

filled_altered : (areas : List (List ℕ)) (i : ℕ) (bytes : List ℕ)
    → filled_by (altered [] (λ _. bytes) areas i) + length (get_or areas i [])
    ≡ filled_by areas + length bytes
filled_altered [] zero bytes = omega arith
filled_altered [] (suc i) bytes = omega (arith, filled_altered [] i bytes)
filled_altered (x ∷ areas) zero bytes = omega arith
filled_altered (x ∷ areas) (suc i) bytes = omega (arith, filled_altered areas i bytes)

module _ (headers : List Slot) (i : ℕ) (h : Slot) (trimmed : IsTrimmed headers) where
  put_full : is_free h ≡ false → trim (put headers i h) ≡ put headers i h
  put_full full = elim (cases_lt i (length headers)) [
    | inl below ↦
        ap trim (put-set headers i h below) ∙ trim-set_full headers i h below trimmed full
        ∙ sym (put-set headers i h below)
    | inr past ↦ trim-put_past headers i h past full
  ]

  -- what is left where slot i was set
  pub is_left : IsLeft i (length headers) (length (placed headers i h))
  is_left = record {
    inside = λ below. omega (
      arith,
      trim_no_longer (put headers i h),
      ap (λ (xs : List Slot). length xs) (put-set headers i h below),
      length-set headers i h,
    );
    none = λ past low. go_none (is_free h) refl past low;
    past = λ past low. go_past (is_free h) refl past low;
  }
    where
      long : length headers ≤ i → length (put headers i h) ≡ i + 1
      long past = put_length headers i h past

      go_none : (b : Bool) → is_free h ≡ b → length headers ≤ i → length (placed headers i h) ≤ i
          → length (placed headers i h) ≤ length headers
      go_none true free past low = omega
          (arith, ap (λ (xs : List Slot). length xs) (past_free headers i h past free trimmed))
      go_none false full past low =
          absurd (omega (arith, ap (λ (xs : List Slot). length xs) (put_full full), long past))

      go_past : (b : Bool) → is_free h ≡ b → length headers ≤ i → i < length (placed headers i h)
          → length (placed headers i h) ≡ i + 1
      go_past true free past low = absurd
          (omega
          (arith, ap (λ (xs : List Slot). length xs) (past_free headers i h past free trimmed)))
      go_past false full past low = ap (λ (xs : List Slot). length xs) (put_full full) ∙ long past

  -- the row's bytes fit the buffer
  pub bytes_fit : (areas : List (List ℕ)) (bytes : List ℕ) → AreAreas headers areas → IsArea h bytes
      → Fits headers → Fits (placed headers i h)
      → filled_by areas + length bytes ≤ 4064 + length (get_or areas i [])
  bytes_fit areas bytes are is fits fit = go (is_free h) refl
    where
      go : (b : Bool) → is_free h ≡ b
          → filled_by areas + length bytes ≤ 4064 + length (get_or areas i [])
      go true free =
          let none : length bytes ≡ 0 = ap (λ (xs : List ℕ). length xs)
          (subst (λ (s : Slot). IsArea s bytes) (free_is h free) is) in
          omega (arith, none, areas_within headers areas are, fits)
      go false full =
          let all = areas_within (put headers i h) (altered [] (λ _. bytes) areas i)
          (areas_put headers areas i h bytes are is) in
          omega (arith, all, filled_altered areas i bytes, ap used (put_full full), fit)

-- what a page keeps where a slot was set
module _ (headers : List Slot) (others : List Place) (areas : List (List ℕ)) (i : ℕ) (h : Slot)
    (other : Place) (bytes : List ℕ)
    (p : length others ≡ length headers) (are : AreAreas headers areas) (is : IsArea h bytes) where
  left : ℕ
  left = length (placed headers i h)

  a : length areas ≡ length headers
  a = areas_count headers areas are

  pub others_now : List Place
  others_now = take (length (placed headers i h)) (altered nowhere (λ _. other) others i)

  pub set_places :
      length (take (length (placed headers i h)) (altered nowhere (λ _. other) others i))
      ≡ length (placed headers i h)
  set_places =
      length-take-le (length (placed headers i h)) (altered nowhere (λ _. other) others i)
      (omega (
        arith,
        trim_no_longer (put headers i h),
        length-put_alike nowhere other others headers i h p,
      ))

  pub set_areas : AreAreas (placed headers i h)
      (take (length (placed headers i h)) (altered [] (λ _. bytes) areas i))
  set_areas =
      subst
      (λ (xs : List Slot). AreAreas xs
      (take (length (placed headers i h)) (altered [] (λ _. bytes) areas i)))
      (sym (trim_first (put headers i h)))
      (areas_take (length (placed headers i h)) (put headers i h) (altered [] (λ _. bytes) areas i)
      (areas_put headers areas i h bytes are is))

  pub set_laid : laid (placed headers i h)
      (take (length (placed headers i h)) (altered nowhere (λ _. other) others i))
      (take (length (placed headers i h)) (altered [] (λ _. bytes) areas i))
      ≡ placed (laid headers others areas) i (whole_slot h other bytes)
  set_laid =
      let X : List Slot = put headers i h in
      let P : List Place = altered nowhere (λ _. other) others i in
      let A : List (List ℕ) = altered [] (λ _. bytes) areas i in
      let Y : List Slot = put (laid headers others areas) i (whole_slot h other bytes) in
      let n : ℕ = length (placed headers i h) in
      let ep : length P ≡ length X = length-put_alike nowhere other others headers i h p in
      let ea : length A ≡ length X = length-put_alike [] bytes areas headers i h a in
      let one : laid (placed headers i h) (take n P) (take n A)
      ≡ laid (take n X) (take n P) (take n A) =
      ap (λ (xs : List Slot). laid xs (take n P) (take n A)) (trim_first X) in
      let two : laid (take n X) (take n P) (take n A) ≡ take n (laid X P A) =
      laid_take n X P A ep ea in
      let three : laid X P A ≡ Y = laid_put headers others areas i h other bytes p a in
      let same : length (trim Y) ≡ n =
      sym (length-map_bare (trim Y))
      ∙ ap (λ (xs : List Slot). length xs) (bare_trim Y)
      ∙ ap (λ (xs : List Slot). length (trim (map bare xs))) (sym three)
      ∙ ap (λ (xs : List Slot). length (trim xs)) (bare_laid X P A ep ea)
      ∙ ap (λ (xs : List Slot). length xs) (sym (bare_trim X))
      ∙ length-map_bare (trim X) in
      one ∙ two ∙ ap (take n) three ∙ ap (λ k. take k Y) (sym same) ∙ sym (trim_first Y)
