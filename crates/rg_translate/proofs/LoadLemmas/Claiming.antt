-- What the pages of packed rows claim.
use Rattle.std.proofs.Common.{◌≡◌, ◌==◌, ◌≤◌, ◌<◌, ◌+◌, ◌-◌, ℕ, zero, suc, nat_le, Bool, true}
use Rattle.std.proofs.Common.{false, List, [], ◌∷◌, Some, get_or, length, refl, ◌∙◌, ap, subst}
use Rattle.std.proofs.Common.{arith, if◌then◌else◌}
use Rattle.std.proofs.lemmas.Bool.{eqb-true}
use Rattle.rg_base.specs.declared.options.Options.{Options}
use Rattle.rg_base.specs.declared.place.Place.{Place}
use Rattle.rg_base.specs.declared.row.Row.{Row}
use Rattle.rg_base.proofs.Small.{plus_suc}
use Rattle.rg_laws_pages.specs.ByteClaims.Claim.{claimed, claimed_all, nobody}
use Rattle.rg_laws_pages.specs.ByteClaims.Weight.{weight}
use Rattle.rg_home.specs.Pages.{page_at as slots_at}
use Rattle.rg_home.specs.Slot.{Slot}
use Rattle.rg_model.specs.Packed.{area_of, free_part, page_at}
use Rattle.rg_laws_utility.specs.CopyWeight.Weighed.{weigh_rows}
use Rattle.rg_reload.specs.Moved.{Moved, moved_from, moved_to, packed_rows}
use Rattle.rg_reload.specs.Pages.{row_slot, slots_on}

abbrev weigh_moved : List Moved → ℕ
weigh_moved [] = 0
weigh_moved (m ∷ ms) = weight (Some m.row) + weigh_moved ms

-- what k pages claim, from page n on
abbrev on_pages : List Moved → (n k : ℕ) → ℕ
on_pages ms n zero = 0
on_pages ms n (suc k) = claimed nobody (slots_on n ms) + on_pages ms (n + 1) k

on_none : (n k : ℕ) → on_pages [] n k ≡ 0
on_none n zero = refl
on_none n (suc k) = omega (arith, on_none (n + 1) k)

-- a row on a page before
none_low : (m : Moved) (ms : List Moved) (n k : ℕ) → m.target.page < n
    → on_pages (m ∷ ms) n k ≡ on_pages ms n k
none_low m ms n zero low = refl
none_low m ms n (suc k) low =
    go (m.target.page == n) refl (none_low m ms (n + 1) k (omega (arith, low)))
  where
    go : (b : Bool) → (m.target.page == n) ≡ b → on_pages (m ∷ ms) (n + 1) k ≡ on_pages ms (n + 1) k
        → claimed nobody (if b then row_slot m.row ∷ slots_on n ms else slots_on n ms)
        + on_pages (m ∷ ms) (n + 1) k ≡ claimed nobody (slots_on n ms) + on_pages ms (n + 1) k
    go true e rest = absurd (omega (arith, eqb-true m.target.page n e, low))
    go false e rest = omega (arith, rest)

-- one row more
one_more : (m : Moved) (ms : List Moved) (n k : ℕ)
    → on_pages (m ∷ ms) n k ≤ weight (Some m.row) + on_pages ms n k
one_more m ms n zero = omega arith
one_more m ms n (suc k) = go (m.target.page == n) refl (one_more m ms (n + 1) k)
  where
    go : (b : Bool) → (m.target.page == n) ≡ b
        → on_pages (m ∷ ms) (n + 1) k ≤ weight (Some m.row) + on_pages ms (n + 1) k
        → claimed nobody (if b then row_slot m.row ∷ slots_on n ms else slots_on n ms)
        + on_pages (m ∷ ms) (n + 1) k
        ≤ weight (Some m.row) + (claimed nobody (slots_on n ms) + on_pages ms (n + 1) k)
    go true e rest =
        omega (arith, none_low m ms (n + 1) k (omega (arith, eqb-true m.target.page n e)))
    go false e rest = omega (arith, rest)

on_few : (ms : List Moved) (n k : ℕ) → on_pages ms n k ≤ weigh_moved ms
on_few [] n k = omega (arith, on_none n k)
on_few (m ∷ ms) n k = omega (arith, one_more m ms n k, on_few ms n k)

-- pages that have these rows
claims_on : (ms : List Moved) (pages : List (List Slot)) (n : ℕ)
    → ((j : ℕ) → get_or pages j [] ≡ slots_on (n + j) ms)
    → claimed_all nobody pages ≤ on_pages ms n (length pages)
claims_on ms [] n same = omega arith
claims_on ms (p ∷ pages) n same =
    omega (
      arith,
      ap (claimed nobody) (same zero ∙ ap (λ (x : ℕ). slots_on x ms) (nought n)),
      claims_on ms pages (n + 1) (λ j. same (suc j) ∙ ap (λ (x : ℕ). slots_on x ms) (plus_suc n j)),
    )
  where
    nought : (n : ℕ) → n + 0 ≡ n
    nought n = omega arith

weigh_from : (options : Options) (k slot free : ℕ) (rows : List (Place × Row))
    → weigh_moved (moved_from options k slot free rows) ≡ weigh_rows rows
weigh_from options k slot free [] = refl
weigh_from options k slot free (x ∷ rows) =
    go (nat_le (free_part options + area_of x.1) free)
    (weigh_from options k (slot + 1) (free - area_of x.1) rows)
    (weigh_from options (k + 1) 1 (4064 - area_of x.1) rows)
  where
    go : (b : Bool)
        → weigh_moved (moved_from options k (slot + 1) (free - area_of x.1) rows) ≡ weigh_rows rows
        → weigh_moved (moved_from options (k + 1) 1 (4064 - area_of x.1) rows) ≡ weigh_rows rows
        → weigh_moved (if b then moved_to (page_at options.freepage k) slot x
        ∷ moved_from options k (slot + 1) (free - area_of x.1) rows
        else moved_to (page_at options.freepage (k + 1)) 0 x
        ∷ moved_from options (k + 1) 1 (4064 - area_of x.1) rows) ≡ weigh_rows (x ∷ rows)
    go true here next = ap (λ n. weight (Some x.1) + n) here
    go false here next = ap (λ n. weight (Some x.1) + n) next

-- so pages of packed rows claim no more than the rows weigh
pub packed_claims : (options : Options) (rows : List (Place × Row)) (pages : List (List Slot))
    → ((n : ℕ) → slots_at pages n ≡ slots_on n (packed_rows options rows))
    → claimed_all nobody pages ≤ weigh_rows rows
packed_claims options rows pages same =
    let ms : List Moved = packed_rows options rows in
    omega (
      arith,
      claims_on ms pages 1 (λ j. same (suc j) ∙ ap (λ (x : ℕ). slots_on x ms) (next j)),
      on_few ms 1 (length pages),
      weigh_from options 0 0 0 rows,
    )
  where
    next : (j : ℕ) → suc j ≡ 1 + j
    next j = omega arith
