-- Summaries stay in step with pages.
use Rattle.std.proofs.Common.{◌≡◌, ◌≤◌, ℕ, ◌-◌, List, [], ◌∷◌, Option, map, length, set, refl, sym}
use Rattle.std.proofs.Common.{ap, ◌∙◌, arith}
use Rattle.std.proofs.lemmas.List.{map-set}
use Rattle.rg_base.specs.declared.part.Part.{Part}
use Rattle.rg_base.specs.declared.row.Row.{Row as TableRow}
use Rattle.rg_home.specs.Pages.{page_at, wrote, made, row_or_empty, place_of, PartFits}
use Rattle.rg_home.specs.Slot.{Slot}
use Rattle.rg_home.specs.Slots.{placed, used, Fits}
use Rattle.rg_home.proofs.PageLists.{wrote-set}
use Rattle.rg_page.specs.Bare.{bare}
use Rattle.rg_page.specs.Changed.{changed}
use Rattle.rg_page.specs.Content.{Content, content_at, slots_of}
use Rattle.rg_page.specs.Seen.{set_content}
use Rattle.rg_page.proofs.BareSlots.{bare_wrote, bare_page_at, bare_placed, bare_used}
use Rattle.rg_space.specs.Summarized.{HasRoom}
use Rattle.rg_space.proofs.Took.{page_slots}

-- setting a slot of a page is a write to the slots of all
pub slots_set : (pages : List Content) (x : Part) (owner : ℕ) (after : Option TableRow)
    (position : ℕ)
    → 1 ≤ x.page → x.page ≤ length pages
    → slots_of (set_content pages x owner after position)
    ≡ wrote (slots_of pages) (place_of x) (made owner (row_or_empty after) x.op)
slots_set pages x owner after position low high =
    let s : Slot = made owner (row_or_empty after) x.op in
    let n : ℕ = x.page in
    map-set (λ (p : Content). p.slots) pages (n - 1)
    (changed (content_at pages n) x owner after position)
    ∙ ap (λ (slots : List Slot). set (slots_of pages) (n - 1) (placed slots x.slot s))
    (sym (page_slots pages n))
    ∙ sym (wrote-set (slots_of pages) n x.slot s low (omega (arith, length-slots pages)))
  where
    length-slots : (pages : List Content) → length (slots_of pages) ≡ length pages
    length-slots [] = refl
    length-slots (p ∷ pages) = omega (arith, length-slots pages)

module _ (pages : List Content) (summaries : List (List Slot))
    (agree : map (map bare) (slots_of pages) ≡ summaries) where
  pub agree_page : (n : ℕ) → page_at summaries n ≡ map bare (content_at pages n).slots
  agree_page n =
      ap (λ (ix : List (List Slot)). page_at ix n) (sym agree) ∙ bare_page_at (slots_of pages) n
      ∙ ap (map bare) (page_slots pages n)

  pub agree_count : length summaries ≡ length pages
  agree_count = ap (λ (ix : List (List Slot)). length ix) (sym agree) ∙ go pages
    where
      go : (pages : List Content) → length (map (map bare) (slots_of pages)) ≡ length pages
      go [] = refl
      go (p ∷ pages) = omega (arith, go pages)

  -- a slot that fits its page fits the summary
  pub has_room : (x : Part) (owner : ℕ) (after : Option TableRow) (header : Slot) → 1 ≤ x.page
      → x.page ≤ length pages
      → ((row : TableRow) → header ≡ bare (made owner row x.op))
      → PartFits x.page (content_at pages x.page).slots owner after x
      → HasRoom summaries (place_of x) header
  has_room x owner after header low high is fits =
      let slots : List Slot = (content_at pages x.page).slots in
      let s : Slot = made owner (row_or_empty after) x.op in
      let bare_fits : Fits (placed (map bare slots) x.slot (bare s)) =
      omega
      (arith, bare_used (placed slots x.slot s), ap used (bare_placed slots x.slot s), fits.fits) in
      record {
        low = low;
        high = omega (arith, agree_count);
        fits = rw (agree_page x.page, is (row_or_empty after)) bare_fits;
      }

  pub agree_set : (x : Part) (owner : ℕ) (after : Option TableRow) (position : ℕ) (header : Slot)
      → 1 ≤ x.page → x.page ≤ length pages
      → ((row : TableRow) → header ≡ bare (made owner row x.op))
      → map (map bare) (slots_of (set_content pages x owner after position))
      ≡ wrote summaries (place_of x) header
  agree_set x owner after position header low high is =
      ap (map (map bare)) (slots_set pages x owner after position low high)
      ∙ bare_wrote (slots_of pages) (place_of x) (made owner (row_or_empty after) x.op)
      ∙ ap
      (λ (ix : List (List Slot)). wrote ix (place_of x)
      (bare (made owner (row_or_empty after) x.op))) agree
      ∙ ap (wrote summaries (place_of x)) (sym (is (row_or_empty after)))
