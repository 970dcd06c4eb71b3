-- The spots of a page, one slot after the other, and of all pages, one after the other.
use Rattle.std.proofs.Common.{◌≡◌, ℕ, suc, ◌+◌, List, [], ◌∷◌, ◌++◌, refl, sym, ap, ◌∙◌, arith}
use Rattle.std.proofs.Common.{append_assoc, append-nil, length}
use Rattle.std.specs.List.{flat_map}
use Rattle.rg_base.specs.declared.place.Place.{Place}
use Rattle.rg_home.specs.Pages.{page_at, slot_of}
use Rattle.rg_home.specs.Slot.{Slot}
use Rattle.rg_layout.specs.Spots.{places_on, places_to, spot_at, spots_on}
use Rattle.rg_space.specs.Homes.{place_on}
use Rattle.rg_stmt.specs.declared.layout.Spot.{Spot}

pub flat_map-append : {A B : Type 0} (f : A → List B) (xs ys : List A)
    → flat_map f (xs ++ ys) ≡ flat_map f xs ++ flat_map f ys
flat_map-append f [] ys = refl
flat_map-append {B = B} f (x ∷ xs) ys =
    ap (λ (rest : List B). f x ++ rest) (flat_map-append f xs ys)
    ∙ sym (append_assoc (f x) (flat_map f xs) (flat_map f ys))

pub flat_map-push : {A B : Type 0} (f : A → List B) (xs : List A) (y : A)
    → flat_map f (xs ++ y ∷ []) ≡ flat_map f xs ++ f y
flat_map-push {B = B} f xs y =
    flat_map-append f xs (y ∷ []) ∙ ap (λ (rest : List B). flat_map f xs ++ rest) (append-nil (f y))

-- the spot of slot i added to those before it
pub spot_added : (at : Place → Slot) (n i : ℕ) (before spots after : List Spot)
    → spots ≡ before ++ flat_map (spot_at at) (places_on n i)
    → after ≡ spots ++ spot_at at (place_on n i)
    → after ≡ before ++ flat_map (spot_at at) (places_on n (i + 1))
spot_added at n i before spots after so_far is =
    is ∙ ap (λ (ss : List Spot). ss ++ spot_at at (place_on n i)) so_far
    ∙ append_assoc before (flat_map (spot_at at) (places_on n i)) (spot_at at (place_on n i))
    ∙ ap (λ (ss : List Spot). before ++ ss)
    (sym (flat_map-push (spot_at at) (places_on n i) (place_on n i)))
    ∙ ap (λ (k : ℕ). before ++ flat_map (spot_at at) (places_on n k)) (next i)
  where
    next : (i : ℕ) → suc i ≡ i + 1
    next i = omega arith

-- the spots of page n + 1 added to those of the pages before it
pub page_added : (pages : List (List Slot)) (n : ℕ) (spots after : List Spot)
    → spots ≡ flat_map (spot_at (slot_of pages)) (places_to pages n)
    → after ≡ spots ++ spots_on pages (n + 1)
    → after ≡ flat_map (spot_at (slot_of pages)) (places_to pages (n + 1))
page_added pages n spots after so_far is =
    is ∙ ap (λ (ss : List Spot). ss ++ spots_on pages (n + 1)) so_far
    ∙ ap (λ (k : ℕ). flat_map (spot_at (slot_of pages)) (places_to pages n) ++ spots_on pages k)
    (sym (next n))
    ∙ sym
    (flat_map-append (spot_at (slot_of pages)) (places_to pages n)
    (places_on (suc n) (length (page_at pages (suc n)))))
    ∙ ap (λ (k : ℕ). flat_map (spot_at (slot_of pages)) (places_to pages k)) (next n)
  where
    next : (i : ℕ) → suc i ≡ i + 1
    next i = omega arith
