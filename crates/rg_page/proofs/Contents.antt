-- Pages by their numbers.
use Rattle.std.proofs.Common.{◌≡◌, ◌≤◌, ℕ, zero, suc, ◌-◌, List, Option, length, get_or, sym, ap}
use Rattle.std.proofs.Common.{subst, ◌∙◌, arith}
use Rattle.std.proofs.lemmas.List.{get_or_default}
use Rattle.rg_base.specs.declared.part.Part.{Part}
use Rattle.rg_base.specs.declared.row.Row.{Row}
use Rattle.rg_home.specs.Pages.{PartFits}
use Rattle.rg_page.specs.Content.{Content, content_at, empty}

pub content_at-get : (pages : List Content) (n : ℕ) (d : Content) → 1 ≤ n → n ≤ length pages
    → content_at pages n ≡ get_or pages (n - 1) d
content_at-get pages zero d low high = absurd (omega arith)
content_at-get pages (suc k) d low high =
    let e : suc k - 1 ≡ k = omega arith in
    rw e (get_or_default pages k (empty 0 0) d (omega arith))

-- a part fits the page of its number where it fits that page
pub fits_here : (pages : List Content) (x : Part) (owner : ℕ) (after : Option Row) (page : Content)
    → 1 ≤ x.page → x.page ≤ length pages → page ≡ get_or pages (x.page - 1) page
    → (content_at pages x.page).number ≡ x.page
    → PartFits x.page (content_at pages x.page).slots owner after x
    → PartFits page.number page.slots owner after x
fits_here pages x owner after page low high is number fits =
    let e : content_at pages x.page ≡ page = content_at-get pages x.page page low high ∙ sym is in
    let n : x.page ≡ page.number = sym number ∙ ap (λ (p : Content). p.number) e in
    subst (λ (p : Content). PartFits page.number p.slots owner after x) e
    (subst (λ (k : ℕ). PartFits k (content_at pages x.page).slots owner after x) n fits)
