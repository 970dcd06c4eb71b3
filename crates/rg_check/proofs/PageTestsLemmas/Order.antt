-- Places in order, and rules that hold of places so far.
use Rattle.std.proofs.Common.{◌≡◌, ◌≤◌, ◌<◌, inl, inr, true, false, ℕ, ◌+◌, List, []}
use Rattle.std.proofs.Common.{◌∷◌, Option, Some, None, length, sym, ap, subst, ◌∙◌}
use Rattle.std.proofs.Common.{arith}
use Rattle.std.specs.Option.{is_some}
use Rattle.std.proofs.lemmas.Bool.{cases_lt}
use Rattle.std.proofs.lemmas.List.{get_or_past}
use Rattle.rg_base.specs.declared.place.Place.{Place}
use Rattle.rg_base.proofs.SamePlace.{place_is}
use Rattle.rg_home.specs.Pages.{page_at, slot_of}
use Rattle.rg_home.specs.Slot.{Slot}
use Rattle.rg_home.specs.Slot.{Free}
use Rattle.rg_home.specs.Slots.{slot_at}
use Rattle.rg_space.specs.Homes.{place_on}
use Rattle.rg_check.specs.PageTests.Places.{IsBefore, IsLeastBreach, IsLeastOnPage}

pub before_trans : (p q r : Place) → IsBefore p q → IsBefore q r → IsBefore p r
before_trans p q r (inl a) (inl b) = inl (omega arith)
before_trans p q r (inl a) (inr b) = inl (omega (arith, b.0))
before_trans p q r (inr a) (inl b) = inl (omega (arith, a.0))
before_trans p q r (inr a) (inr b) = inr (a.0 ∙ b.0, omega (arith, a.1, b.1))

pub not_before : (p : Place) → IsBefore p p → ⊥
not_before p (inl a) = omega arith
not_before p (inr a) = omega (arith, a.1)

-- one is before the other, or they are one
pub data Ordered (p q : Place) : Type 0 where
  Before : IsBefore p q → Ordered p q
  Same : p ≡ q → Ordered p q
  After : IsBefore q p → Ordered p q

pub order : (p q : Place) → Ordered p q
order p q = elim (cases_lt p.page q.page) [
  | inl lt ↦ Before (inl lt)
  | inr le ↦ elim (cases_lt q.page p.page) [
    | inl gt ↦ After (inl gt)
    | inr ge ↦ (let page : p.page ≡ q.page = omega arith in elim (cases_lt p.slot q.slot) [
      | inl lt ↦ Before (inr (page, lt))
      | inr le ↦ elim (cases_lt q.slot p.slot) [
        | inl gt ↦ After (inr (sym page, gt))
        | inr ge ↦ Same (place_is p q page (omega arith))
      ]
    ])
  ]
]

-- ---- slots that are not there

pub no_slot : (pages : List (List Slot)) (p : Place) → length (page_at pages p.page) ≤ p.slot
    → slot_of pages p ≡ Free
no_slot pages p le = get_or_past (page_at pages p.page) p.slot Free le

pub no_page : (pages : List (List Slot)) (p : Place) → length pages < p.page
    → slot_of pages p ≡ Free
no_page pages p above =
    ap (λ (slots : List Slot). slot_at slots p.slot)
    (get_or_past ([] ∷ pages) p.page [] (omega arith))

pub page_zero : (pages : List (List Slot)) (p : Place) → p.page ≡ 0 → slot_of pages p ≡ Free
page_zero pages p e = ap (λ (n : ℕ). slot_at (page_at pages n) p.slot) e

-- ---- a rule that holds of places so far

module _ (Rule : Place → Type 0) where
  -- of the first slots of a page
  abbrev pub HoldsOn : (n i : ℕ) → Type 0
  HoldsOn n i = (p : Place) → p.page ≡ n → p.slot < i → Rule p

  -- of the first pages
  abbrev pub HoldsTo : (n : ℕ) → Type 0
  HoldsTo n = (p : Place) → p.page ≤ n → Rule p

  pub on_none : (n : ℕ) → HoldsOn n 0
  on_none n p e lt = absurd (omega arith)

  pub on_more : (n i : ℕ) → HoldsOn n i → Rule (place_on n i) → HoldsOn n (i + 1)
  on_more n i so_far here p e lt = elim (cases_lt p.slot i) [
    | inl below ↦ so_far p e below
    | inr le ↦ subst Rule (sym (place_is p (place_on n i) e (omega arith))) here
  ]

  pub to_more : (n : ℕ) → HoldsTo n → IsLeastOnPage Rule (n + 1) None → HoldsTo (n + 1)
  to_more n so_far page p le = elim (cases_lt n p.page) [
    | inl above ↦ page p (omega arith)
    | inr below ↦ so_far p below
  ]

  pub least_found : (n : ℕ) (p : Place) → HoldsTo n → IsLeastOnPage Rule (n + 1) (Some p)
      → IsLeastBreach Rule (Some p)
  least_found n p so_far found = (found.1, go)
    where
      go : (q : Place) → IsBefore q p → Rule q
      go q (inl lt) = so_far q (omega (arith, found.0))
      go q (inr both) = found.2 q (both.0 ∙ found.0) both.1

  -- the same of what a walk of the next page answers
  pub to_more_of : (n : ℕ) (found : Option Place) → is_some found ≡ false → HoldsTo n
      → IsLeastOnPage Rule (n + 1) found → HoldsTo (n + 1)
  to_more_of n None e so_far page = to_more n so_far page
  to_more_of n (Some p) e so_far page = absurd (cc (e))

  pub least_of : (n : ℕ) (found : Option Place) → is_some found ≡ true → HoldsTo n
      → IsLeastOnPage Rule (n + 1) found → IsLeastBreach Rule found
  least_of n None e so_far page = absurd (cc (e))
  least_of n (Some p) e so_far page = least_found n p so_far page

  -- where it holds of each slot that is Free
  module _ (pages : List (List Slot)) (free : (p : Place) → slot_of pages p ≡ Free → Rule p) where
    pub on_all : (n count : ℕ) → count ≡ length (page_at pages n) → HoldsOn n count
        → IsLeastOnPage Rule n None
    on_all n count is so_far p e = elim (cases_lt p.slot count) [
      | inl below ↦ so_far p e below
      | inr le ↦ free p
          (no_slot pages p (omega (arith, le, is, ap (λ (k : ℕ). length (page_at pages k)) e)))
    ]

    pub to_none : HoldsTo 0
    to_none p le = free p (page_zero pages p (omega arith))

    pub to_all : (n : ℕ) → length pages ≤ n → HoldsTo n → IsLeastBreach Rule None
    to_all n past so_far p = elim (cases_lt n p.page) [
      | inl above ↦ free p (no_page pages p (omega (arith, above, past)))
      | inr below ↦ so_far p below
    ]
