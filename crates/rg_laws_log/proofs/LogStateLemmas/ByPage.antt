-- A page after the parts of a record is that page after its own.
use Rattle.std.proofs.Common.{◌≡◌, ◌==◌, ℕ, ◌≤◌, Bool, true, false, List, [], ◌∷◌, refl, sym, ◌∙◌}
use Rattle.std.proofs.Common.{ap, subst, if◌then◌else◌}
use Rattle.std.proofs.lemmas.Bool.{eqb-true, eqb-false}
use Rattle.rg_base.specs.declared.place.Place.{Place}
use Rattle.rg_base.specs.declared.row.Row.{Row as TableRow}
use Rattle.rg_home.specs.Slot.{Slot}
use Rattle.rg_home.specs.Slots.{placed, Fits}
use Rattle.rg_base.specs.declared.part.Part.{Part}
use Rattle.rg_home.specs.Pages.{page_at, wrote, made, applied, FitsAll, place_of}
use Rattle.rg_home.proofs.Look.{wrote_same, wrote_other}
use Rattle.rg_laws_log.specs.LogState.ByPage.{page_with, Where, FitsOn}

page_wrote : (pages : List (List Slot)) (p : Place) (s : Slot) (n : ℕ) → 1 ≤ p.page
    → page_at (wrote pages p s) n
    ≡ (if p.page == n then placed (page_at pages n) p.slot s else page_at pages n)
page_wrote pages p s n low = go (p.page == n) refl
  where
    go : (b : Bool) → (p.page == n) ≡ b
        → page_at (wrote pages p s) n
        ≡ (if b then placed (page_at pages n) p.slot s else page_at pages n)
    go true e =
        let is = eqb-true p.page n e in
        ap (page_at (wrote pages p s)) (sym is) ∙ wrote_same pages p.page p.slot s low
        ∙ ap (λ (m : ℕ). placed (page_at pages m) p.slot s) is
    go false e = wrote_other pages p.page p.slot n s (λ is. eqb-false p.page n e (sym is))

fits_one : (pages : List (List Slot)) (p : Place) (s : Slot) (n : ℕ)
    → Fits (placed (page_at pages p.page) p.slot s)
    → Where (p.page == n) (Fits (placed (page_at pages n) p.slot s))
fits_one pages p s n f = go (p.page == n) refl
  where
    go : (b : Bool) → (p.page == n) ≡ b → Where b (Fits (placed (page_at pages n) p.slot s))
    go true e = subst (λ (m : ℕ). Fits (placed (page_at pages m) p.slot s)) (eqb-true p.page n e) f
    go false e = tt

pub page_by_page :
    (t : ℕ) (after : TableRow) (limit : ℕ) (pages : List (List Slot)) (parts : List Part) (n : ℕ)
    → FitsAll t after limit pages parts
    → (page_at (applied t after pages parts) n ≡ page_with t after n (page_at pages n) parts)
    × FitsOn t after n (page_at pages n) parts
page_by_page t after limit pages [] n f = (refl, tt)
page_by_page t after limit pages (x ∷ parts) n f =
    let rest =
    page_by_page t after limit (wrote pages (place_of x) (made t after x.op)) parts n f.3 in
    let one = page_wrote pages (place_of x) (made t after x.op) n f.0 in (
      rest.0 ∙ ap (λ (slots : List Slot). page_with t after n slots parts) one,
      (
        fits_one pages (place_of x) (made t after x.op) n f.2,
        subst (λ (slots : List Slot). FitsOn t after n slots parts) one rest.1,
      ),
    )
