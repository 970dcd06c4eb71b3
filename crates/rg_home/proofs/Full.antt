-- A put is Full exactly where no page admits and the copy is at its capacity.
use Rattle.std.proofs.Common.{◌≡◌, ℕ, ◌+◌, ◌≤◌, ◌<◌, ◌⊎◌, inl, inr, Bool, true, false, nat_lt, not}
use Rattle.std.proofs.Common.{List, [], length, get_or, Some, None, refl, ap, if◌then◌else◌, arith}
use Rattle.std.proofs.lemmas.Bool.{ltb-false, le-ltb, cases_lt}
use Rattle.std.proofs.lemmas.List.Sums.{fails_before_first, position_or_len_is}
use Rattle.std.proofs.lemmas.List.Sums.{prefix_len-le-length}
use Rattle.rg_home.specs.Slot.{Slot}
use Rattle.rg_home.specs.Slots.{slot_at, capacity_of, used, put, placed, Fits}
use Rattle.rg_home.proofs.Slots.{put-set, used-set}
use Rattle.rg_home.specs.Plan.{admits, first_page, new_area, area_on}
use Rattle.rg_home.specs.Pages.{page_at}
use Rattle.rg_home.proofs.Offers.{used-trim}

none_area : (live : List ℕ) (b capacity : ℕ) (pages : List (List Slot))
    → new_area live b capacity pages ≡ None → capacity ≤ first_page live b pages
none_area live b capacity pages e = go (nat_lt (first_page live b pages) capacity) refl e
  where
    go : (g : Bool) → nat_lt (first_page live b pages) capacity ≡ g
        → (if g then Some
        (area_on live b (first_page live b pages + 1) (page_at pages (first_page live b pages + 1)))
        else None) ≡ None
        → capacity ≤ first_page live b pages
    go true h e = absurd (cc (e))
    go false h e = ltb-false (first_page live b pages) capacity h

pub full_means : (live : List ℕ) (b capacity : ℕ) (pages : List (List Slot))
    → length pages ≤ capacity → new_area live b capacity pages ≡ None
    → (capacity ≤ length pages)
    × ((k : ℕ) → k < length pages → admits live b (get_or pages k []) ≡ false)
full_means live b capacity pages small e =
    let far = none_area live b capacity pages e in (
      go (cases_lt (length pages) capacity) far,
      λ k h. fails_before_first (admits live b) pages k [] (omega arith),
    )
  where
    go : (length pages < capacity) ⊎ (capacity ≤ length pages) → capacity ≤ first_page live b pages
        → capacity ≤ length pages
    go (inr h) far = h
    go (inl h) far =
        omega (arith, prefix_len-le-length (λ (x : List Slot). not (admits live b x)) pages)

pub means_full : (live : List ℕ) (b capacity : ℕ) (pages : List (List Slot))
    → capacity ≤ length pages
    → ((k : ℕ) → k < length pages → admits live b (get_or pages k []) ≡ false)
    → new_area live b capacity pages ≡ None
means_full live b capacity pages over none =
    let is : first_page live b pages ≡ length pages = position_or_len_is (admits live b) pages
    (length pages) [] (omega arith) none (λ h. absurd (omega arith)) in
    ap
    (λ (g : Bool). if g then Some
    (area_on live b (first_page live b pages + 1) (page_at pages (first_page live b pages + 1)))
    else None) (le-ltb (first_page live b pages) capacity (omega arith))

-- a slot that is there is replaced
pub sized_fits : (slots : List Slot) (i : ℕ) (s : Slot) → i < length slots
    → used slots + capacity_of s ≤ 4064 + capacity_of (slot_at slots i) → Fits (placed slots i s)
sized_fits slots i s h e =
    omega (arith, used-trim (put slots i s), ap used (put-set slots i s h), used-set slots i s h)
