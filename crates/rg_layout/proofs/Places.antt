-- The places of all slots: they rise, they are on the pages, and each slot that is not Free has its
-- place among them.
use Rattle.std.proofs.Common.{◌≡◌, ◌<◌, ◌≤◌, ◌||◌, ℕ, zero, suc, true, false, List, [], ◌∷◌, ◌++◌}
use Rattle.std.proofs.Common.{refl, sym, ap, subst, ◌∙◌, arith, length, inl, inr}
use Rattle.std.specs.List.{list_any, AllByRecursion}
use Rattle.std.proofs.lemmas.Bool.{cases_lt, or_left, or_right}
use Rattle.std.proofs.lemmas.Bool.Decides.{nat_tests}
use Rattle.std.proofs.lemmas.List.Folds.{list_any-append}
use Rattle.std.proofs.lemmas.List.{get_or_past}
use Rattle.rg_base.specs.declared.place.Place.{Place}
use Rattle.rg_home.specs.Pages.{page_at, slot_of}
use Rattle.rg_home.specs.Slot.{Slot}
use Rattle.rg_home.specs.Slot.{Free}
use Rattle.rg_layout.specs.Spots.{places_on, places_to}
use Rattle.rg_base.specs.Place.{same_place}
use Rattle.rg_base.proofs.Each.{Each-map, Each-append}
use Rattle.rg_model.specs.Layout.{is_place_before}
use Rattle.rg_space.specs.Homes.{place_on}

-- each place is before all that come after it
abbrev pub Rise : List Place → Type 0
Rise [] = Unit {0}
Rise (p ∷ ps) = AllByRecursion (λ q. is_place_before p q ≡ true) ps × Rise ps

rise-append : (xs ys : List Place) → Rise xs → Rise ys
    → AllByRecursion (λ x. AllByRecursion (λ y. is_place_before x y ≡ true) ys) xs → Rise (xs ++ ys)
rise-append [] ys a b across = b
rise-append (x ∷ xs) ys a b across = (
  Each-append (λ y. is_place_before x y ≡ true) xs ys a.0 across.0,
  rise-append xs ys a.1 b across.1,
)

-- a place on page n, before slot i
abbrev IsOn : ℕ → ℕ → Place → Type 0
IsOn n i p = (p.page ≡ n) × (p.slot < i)

on_page : (n i : ℕ) → AllByRecursion (IsOn n i) (places_on n i)
on_page n zero = tt
on_page n (suc i) = Each-append (IsOn n (suc i)) (places_on n i) (place_on n i ∷ [])
    (Each-map (IsOn n i) (IsOn n (suc i)) (λ p on. (on.0, omega (arith, on.1))) (places_on n i)
    (on_page n i)) ((refl, omega arith), tt)

before_on : (n i : ℕ) (p : Place) → IsOn n i p → is_place_before p (place_on n i) ≡ true
before_on n i p on = go p.page p.slot on.0 on.1
  where
    go : (m k : ℕ) → m ≡ n → k < i
        → is_place_before (record { page = m; slot = k }) (place_on n i) ≡ true
    go m k e lt = grind (arith, nat_tests)

rise_on : (n i : ℕ) → Rise (places_on n i)
rise_on n zero = tt
rise_on n (suc i) = rise-append (places_on n i) (place_on n i ∷ []) (rise_on n i) (tt, tt)
    (Each-map (IsOn n i) (λ x. AllByRecursion (λ y. is_place_before x y ≡ true) (place_on n i ∷ []))
    (λ p on. (before_on n i p on, tt)) (places_on n i) (on_page n i))

-- a place on one of the pages 1 to n
abbrev pub IsWithin : ℕ → Place → Type 0
IsWithin n p = (1 ≤ p.page) × (p.page ≤ n)

pub all_within : (pages : List (List Slot)) (n : ℕ)
    → AllByRecursion (IsWithin n) (places_to pages n)
all_within pages zero = tt
all_within pages (suc n) =
    let count = length (page_at pages (suc n)) in
    Each-append (IsWithin (suc n)) (places_to pages n) (places_on (suc n) count)
    (Each-map (IsWithin n) (IsWithin (suc n)) (λ p w. (w.0, omega (arith, w.1))) (places_to pages n)
    (all_within pages n))
    (Each-map (IsOn (suc n) count) (IsWithin (suc n))
    (λ p on. (omega (arith, on.0), omega (arith, on.0))) (places_on (suc n) count)
    (on_page (suc n) count))

before_page : (m k a b : ℕ) → m < a
    → is_place_before (record { page = m; slot = k }) (record { page = a; slot = b }) ≡ true
before_page m k a b lt = grind (arith, nat_tests)

pub all_rise : (pages : List (List Slot)) (n : ℕ) → Rise (places_to pages n)
all_rise pages zero = tt
all_rise pages (suc n) =
    let count = length (page_at pages (suc n)) in
    rise-append (places_to pages n) (places_on (suc n) count) (all_rise pages n)
    (rise_on (suc n) count) (Each-map (IsWithin n)
    (λ x. AllByRecursion (λ y. is_place_before x y ≡ true) (places_on (suc n) count))
    (λ x w. Each-map (IsOn (suc n) count) (λ y. is_place_before x y ≡ true)
    (λ y on. before_page x.page x.slot y.page y.slot (omega (arith, w.1, on.0)))
    (places_on (suc n) count) (on_page (suc n) count))
    (places_to pages n) (all_within pages n))

-- ---- the places of slots that are there

-- a slot that is not Free is one of a page that is there
pub record IsSlot (pages : List (List Slot)) (p : Place) : Type 0 where
  pub low : 1 ≤ p.page
  pub high : p.page ≤ length pages
  pub slot : p.slot < length (page_at pages p.page)

pub is_slot : (pages : List (List Slot)) (p : Place) → (slot_of pages p ≡ Free → ⊥) → IsSlot pages p
is_slot pages p taken = record { low = low p.page within; high = high; slot = within }
  where
    within : p.slot < length (page_at pages p.page)
    within = elim (cases_lt p.slot (length (page_at pages p.page))) [
      | inl lt ↦ lt
      | inr le ↦ absurd (taken (get_or_past (page_at pages p.page) p.slot Free le))
    ]

    low : (n : ℕ) → p.slot < length (page_at pages n) → 1 ≤ n
    low zero lt = absurd (omega arith)
    low (suc n) lt = omega arith

    high : p.page ≤ length pages
    high = elim (cases_lt (length pages) p.page) [
      | inl lt ↦ (let none : page_at pages p.page ≡ [] =
          get_or_past ([] ∷ pages) p.page [] (omega arith) in
          absurd (omega (arith, within, ap length none)))
      | inr le ↦ le
    ]

same_itself : (p : Place) → same_place p p ≡ true
same_itself p = grind (arith, nat_tests)

any_last : (p : Place) (ps : List Place) → list_any (same_place p) (ps ++ p ∷ []) ≡ true
any_last p ps = list_any-append (same_place p) ps (p ∷ [])
    ∙ or_right (list_any (same_place p) ps) (same_place p p || false)
    (or_left (same_place p p) false (same_itself p))

any_on : (n i count : ℕ) → i < count
    → list_any (same_place (place_on n i)) (places_on n count) ≡ true
any_on n i zero lt = absurd (omega arith)
any_on n i (suc count) lt = elim (cases_lt i count) [
  | inl below ↦
      list_any-append (same_place (place_on n i)) (places_on n count) (place_on n count ∷ [])
      ∙ or_left (list_any (same_place (place_on n i)) (places_on n count))
      (list_any (same_place (place_on n i)) (place_on n count ∷ [])) (any_on n i count below)
  | inr le ↦
      (let e : count ≡ i = omega arith in subst
      (λ k. list_any (same_place (place_on n i)) (places_on n count ++ place_on n k ∷ []) ≡ true)
      (sym e) (any_last (place_on n i) (places_on n count)))
]

pub any_to : (pages : List (List Slot)) (n : ℕ) (p : Place) → 1 ≤ p.page → p.page ≤ n
    → p.slot < length (page_at pages p.page) → list_any (same_place p) (places_to pages n) ≡ true
any_to pages zero p low high lt = absurd (omega arith)
any_to pages (suc n) p low high lt = elim (cases_lt p.page (suc n)) [
  | inl below ↦ list_any-append (same_place p) (places_to pages n) page
      ∙ or_left (list_any (same_place p) (places_to pages n)) (list_any (same_place p) page)
      (any_to pages n p low (omega arith) lt)
  | inr le ↦ (let e : p.page ≡ suc n = omega arith in
      list_any-append (same_place p) (places_to pages n) page
      ∙ or_right (list_any (same_place p) (places_to pages n)) (list_any (same_place p) page)
      (subst (λ k. list_any (same_place p) (places_on k (length (page_at pages k))) ≡ true) e
      (any_on p.page p.slot (length (page_at pages p.page)) lt)))
]
  where
    page : List Place
    page = places_on (suc n) (length (page_at pages (suc n)))

-- so it is one of the places of all slots
pub is_among : (pages : List (List Slot)) (p : Place) → (slot_of pages p ≡ Free → ⊥)
    → list_any (same_place p) (places_to pages (length pages)) ≡ true
is_among pages p taken = let is = is_slot pages p taken in
    any_to pages (length pages) p is.low is.high is.slot
