-- The list of pages, as the code changes it.
use Rattle.std.proofs.Common.{◌≡◌, ℕ, ◌-◌, ◌<◌, ◌≤◌, zero, suc, List, [], ◌∷◌, ◌++◌, length, get_or}
use Rattle.std.proofs.Common.{set, refl, ◌∙◌, ap, arith}
use Rattle.std.proofs.lemmas.List.{get_or_default}
use Rattle.rg_home.specs.Slot.{Slot}
use Rattle.rg_home.specs.Slots.{placed}
use Rattle.rg_home.specs.Pages.{page_at, altered, wrote_page}

altered-set : (f : List Slot → List Slot) (pages : List (List Slot)) (n : ℕ) → n < length pages
    → altered [] f pages n ≡ set pages n (f (get_or pages n []))
altered-set f [] n h = absurd (omega arith)
altered-set f (x ∷ pages) zero h = refl
altered-set f (x ∷ pages) (suc n) h =
    ap (λ (r : List (List Slot)). x ∷ r) (altered-set f pages n (omega arith))

pub wrote-set : (pages : List (List Slot)) (n i : ℕ) (s : Slot) → 1 ≤ n → n ≤ length pages
    → wrote_page pages n i s ≡ set pages (n - 1) (placed (page_at pages n) i s)
wrote-set pages zero i s l h = absurd (omega arith)
wrote-set pages (suc n) i s l h =
    let e : n ≡ suc n - 1 = omega arith in
    altered-set (λ slots. placed slots i s) pages n (omega arith)
    ∙ ap (λ (m : ℕ). set pages m (placed (page_at pages (suc n)) i s)) e

pub page_at-get : (pages : List (List Slot)) (n : ℕ) (x : List Slot) → 1 ≤ n → n ≤ length pages
    → get_or pages (n - 1) x ≡ page_at pages n
page_at-get pages zero x l h = absurd (omega arith)
page_at-get pages (suc n) x l h =
    let e : suc n - 1 ≡ n = omega arith in
    ap (λ (m : ℕ). get_or pages m x) e ∙ get_or_default pages n x [] (omega arith)

altered-more : {A : Type 0} (d : A) (f : A → A) (xs : List A) (n : ℕ) → length xs ≤ n
    → altered d f (xs ++ d ∷ []) n ≡ altered d f xs n
altered-more d f [] zero h = refl
altered-more d f [] (suc n) h = refl
altered-more d f (x ∷ xs) zero h = absurd (omega arith)
altered-more d f (x ∷ xs) (suc n) h =
    ap (λ (r : List _). x ∷ r) (altered-more d f xs n (omega arith))

-- an empty page at the end changes no write past it
pub wrote-more : (pages : List (List Slot)) (n i : ℕ) (s : Slot) → length pages < n
    → wrote_page (pages ++ [] ∷ []) n i s ≡ wrote_page pages n i s
wrote-more pages zero i s h = absurd (omega arith)
wrote-more pages (suc n) i s h = altered-more [] (λ slots. placed slots i s) pages n (omega arith)

pub page_at-more : (pages : List (List Slot)) (n : ℕ)
    → page_at (pages ++ [] ∷ []) n ≡ page_at pages n
page_at-more pages zero = refl
page_at-more [] (suc zero) = refl
page_at-more [] (suc (suc n)) = refl
page_at-more (x ∷ pages) (suc zero) = refl
page_at-more (x ∷ pages) (suc (suc n)) = page_at-more pages (suc n)

altered-length : {A : Type 0} (d : A) (f : A → A) (xs : List A) (n : ℕ) → n < length xs
    → length (altered d f xs n) ≡ length xs
altered-length d f [] n h = absurd (omega arith)
altered-length d f (x ∷ xs) zero h = refl
altered-length d f (x ∷ xs) (suc n) h = ap suc (altered-length d f xs n (omega arith))

pub wrote-length : (pages : List (List Slot)) (n i : ℕ) (s : Slot) → n ≤ length pages
    → length (wrote_page pages n i s) ≡ length pages
wrote-length pages zero i s h = refl
wrote-length pages (suc n) i s h =
    altered-length [] (λ slots. placed slots i s) pages n (omega arith)
