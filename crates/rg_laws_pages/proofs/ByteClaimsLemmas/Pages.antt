-- The claimed bytes of pages, with parts applied.
use Rattle.std.proofs.Common.{◌≡◌, ℕ, ◌+◌, ◌*◌, ◌≤◌, Bool, true, false, zero, suc, List, [], ◌∷◌}
use Rattle.std.proofs.Common.{length, get_or, refl, ap, if◌then◌else◌, arith}
use Rattle.rg_home.specs.Slot.{Slot}
use Rattle.rg_base.specs.declared.place.Place.{Place}
use Rattle.rg_base.specs.declared.row.Row.{Row as TableRow}
use Rattle.rg_home.specs.Slot.{Free}
use Rattle.rg_home.specs.Slots.{is_free, capacity_of, placed, Fits}
use Rattle.rg_base.specs.declared.part.Part.{Part}
use Rattle.rg_base.specs.declared.part.SlotOp.TheVariants as Op
use Rattle.rg_home.specs.Pages.{page_at, slot_of, altered, wrote_page, wrote, made, applied}
use Rattle.rg_home.specs.Pages.{place_of, part_at}
use Rattle.rg_home.specs.Plan.{is_ended, purge_from, purge_of}
use Rattle.rg_home.proofs.Range.{slot_below, page_within}
use Rattle.rg_laws_pages.specs.ByteClaims.Claim.{claim_of, claimed, claimed_all, Fewer}
use Rattle.rg_laws_pages.proofs.ByteClaimsLemmas.Slots.{claimed_used, claim_capacity, placed_in}
use Rattle.rg_laws_pages.proofs.ByteClaimsLemmas.Slots.{placed_new, placed_free, claimed-fewer}

module _ (h : ℕ → Bool) where
  altered-claim : (f : List Slot → List Slot) (pages : List (List Slot)) (n : ℕ)
      → claimed_all h (altered [] f pages n) + claimed h (get_or pages n [])
      ≡ claimed_all h pages + claimed h (f (get_or pages n []))
  altered-claim f [] zero = omega arith
  altered-claim f [] (suc n) = omega (arith, altered-claim f [] n)
  altered-claim f (x ∷ pages) zero = omega arith
  altered-claim f (x ∷ pages) (suc n) = omega (arith, altered-claim f pages n)

  wrote-claim : (pages : List (List Slot)) (n i : ℕ) (s : Slot) → 1 ≤ n
      → claimed_all h (wrote_page pages n i s) + claimed h (page_at pages n)
      ≡ claimed_all h pages + claimed h (placed (page_at pages n) i s)
  wrote-claim pages zero i s low = absurd (omega arith)
  wrote-claim pages (suc n) i s low = altered-claim (λ slots. placed slots i s) pages n

  -- a slot that is not Free is set
  pub wrote_in : (pages : List (List Slot)) (p : Place) (s : Slot)
      → is_free (slot_of pages p) ≡ false
      → claimed_all h (wrote pages p s) + claim_of h (slot_of pages p)
      ≤ claimed_all h pages + claim_of h s
  wrote_in pages p s full =
      omega (
        arith,
        wrote-claim pages p.page p.slot s (page_within pages p.page p.slot full).0,
        placed_in h (page_at pages p.page) p.slot s (slot_below (page_at pages p.page) p.slot full),
      )

  -- a slot that is there is set, or the next one
  pub wrote_new : (pages : List (List Slot)) (p : Place) (s : Slot) → 1 ≤ p.page
      → p.slot ≤ length (page_at pages p.page)
      → claimed_all h (wrote pages p s) ≤ claimed_all h pages + 18 + claim_of h s
  wrote_new pages p s low there = omega (
    arith,
    wrote-claim pages p.page p.slot s low,
    placed_new h (page_at pages p.page) p.slot s there,
  )

  wrote_free : (pages : List (List Slot)) (n i : ℕ)
      → claimed_all h (wrote_page pages n i Free) ≤ claimed_all h pages
  wrote_free pages zero i = omega arith
  wrote_free pages (suc n) i = omega (
    arith,
    wrote-claim pages (suc n) i Free (omega arith),
    placed_free h (page_at pages (suc n)) i,
  )

  -- parts that only free slots
  abbrev pub OnlyFrees : List Part → Type 0
  OnlyFrees [] = Unit {0}
  OnlyFrees (x ∷ parts) = (x.op ≡ Op.Free) × OnlyFrees parts

  only_frees : (live : List ℕ) (n i : ℕ) (slots : List Slot) → OnlyFrees (purge_from live n i slots)
  only_frees live n i [] = tt
  only_frees live n i (s ∷ slots) = go (is_ended live s) (only_frees live n (i + 1) slots)
    where
      go : (b : Bool) → OnlyFrees (purge_from live n (i + 1) slots)
          → OnlyFrees
          (if b
          then part_at (record { page = n; slot = i }) Op.Free ∷ purge_from live n (i + 1) slots
          else purge_from live n (i + 1) slots)
      go true rest = (refl, rest)
      go false rest = rest

  frees_claim : (owner : ℕ) (after : TableRow) (pages : List (List Slot)) (parts : List Part)
      → OnlyFrees parts → claimed_all h (applied owner after pages parts) ≤ claimed_all h pages
  frees_claim owner after pages [] f = omega arith
  frees_claim owner after pages (x ∷ parts) f =
      let e : made owner after x.op ≡ Free = ap (made owner after) f.0 in
      omega (
        arith,
        frees_claim owner after (wrote pages (place_of x) (made owner after x.op)) parts f.1,
        ap (λ (s : Slot). claimed_all h (wrote pages (place_of x) s)) e,
        wrote_free pages x.page x.slot,
      )

  -- a purge claims no more
  pub purge_claim : (owner : ℕ) (after : TableRow) (live : List ℕ) (pages : List (List Slot))
      (n : ℕ) (purges : Bool)
      → claimed_all h (applied owner after pages (purge_of live pages n purges))
      ≤ claimed_all h pages
  purge_claim owner after live pages n true = frees_claim owner after pages
      (purge_from live n 0 (page_at pages n)) (only_frees live n 0 (page_at pages n))
  purge_claim owner after live pages n false = omega arith

  -- each part sets a claimed area to one of no greater capacity, as a drop and an undo do
  abbrev pub KeepsAll : ℕ → TableRow → List (List Slot) → List Part → Type 0
  KeepsAll owner after pages [] = Unit {0}
  KeepsAll owner after pages (x ∷ parts) = (is_free (slot_of pages (place_of x)) ≡ false)
      × (capacity_of (made owner after x.op) ≤ claim_of h (slot_of pages (place_of x)))
      × KeepsAll owner after (wrote pages (place_of x) (made owner after x.op)) parts

  pub keeps_claim : (owner : ℕ) (after : TableRow) (pages : List (List Slot)) (parts : List Part)
      → KeepsAll owner after pages parts
      → claimed_all h (applied owner after pages parts) ≤ claimed_all h pages
  keeps_claim owner after pages [] k = omega arith
  keeps_claim owner after pages (x ∷ parts) k =
      let s : Slot = made owner after x.op in
      omega (
        arith,
        keeps_claim owner after (wrote pages (place_of x) s) parts k.2,
        wrote_in pages (place_of x) s k.0,
        claim_capacity h s,
        k.1,
      )

pub claimed_all-fewer :
    (before after : ℕ → Bool) (fewer : Fewer before after) (pages : List (List Slot))
    → claimed_all after pages ≤ claimed_all before pages
claimed_all-fewer before after fewer [] = omega arith
claimed_all-fewer before after fewer (x ∷ pages) =
    omega (arith, claimed-fewer before after fewer x, claimed_all-fewer before after fewer pages)

-- pages that fit, as at an opening
pub claimed_all-used : (h : ℕ → Bool) (pages : List (List Slot))
    → ((k : ℕ) → Fits (get_or pages k [])) → claimed_all h pages ≤ 4064 * length pages
claimed_all-used h [] f = omega arith
claimed_all-used h (x ∷ pages) f =
    omega (arith, claimed_used h x, f zero, claimed_all-used h pages (λ k. f (suc k)))
