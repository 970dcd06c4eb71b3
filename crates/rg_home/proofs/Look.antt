-- Look-up after a write.
use Rattle.std.proofs.Common.{◌≡◌, ◌==◌, ◌&&◌, ℕ, ◌≤◌, zero, suc, Bool, true, false, List, [], ◌∷◌}
use Rattle.std.proofs.Common.{get_or, refl, sym, ◌∙◌, ap, if◌then◌else◌, arith}
use Rattle.std.proofs.lemmas.Bool.{eqb-true, eqb-false}
use Rattle.rg_base.specs.declared.place.Place.{Place}
use Rattle.rg_home.specs.Slot.{Slot}
use Rattle.rg_home.specs.Slots.{slot_at, placed}
use Rattle.rg_home.proofs.Slots.{slot_at-placed_same, slot_at-placed_other}
use Rattle.rg_home.specs.Rows.{override}
use Rattle.rg_home.specs.Pages.{page_at, slot_of, altered, wrote_page, wrote}

pub altered_same : {A : Type 0} → (d : A) (f : A → A) (xs : List A) (n : ℕ)
    → get_or (altered d f xs n) n d ≡ f (get_or xs n d)
altered_same d f [] zero = refl
altered_same d f [] (suc n) = altered_same d f [] n
altered_same d f (x ∷ xs) zero = refl
altered_same d f (x ∷ xs) (suc n) = altered_same d f xs n

pub altered_other : {A : Type 0} → (d : A) (f : A → A) (xs : List A) (n m : ℕ) → (m ≡ n → ⊥)
    → get_or (altered d f xs n) m d ≡ get_or xs m d
altered_other d f [] zero zero h = absurd (h refl)
altered_other d f [] zero (suc m) h = refl
altered_other d f [] (suc n) zero h = refl
altered_other d f [] (suc n) (suc m) h = altered_other d f [] n m (λ e. h (ap suc e))
altered_other d f (x ∷ xs) zero zero h = absurd (h refl)
altered_other d f (x ∷ xs) zero (suc m) h = refl
altered_other d f (x ∷ xs) (suc n) zero h = refl
altered_other d f (x ∷ xs) (suc n) (suc m) h = altered_other d f xs n m (λ e. h (ap suc e))

pub wrote_same : (pages : List (List Slot)) (n i : ℕ) (s : Slot) → 1 ≤ n
    → page_at (wrote_page pages n i s) n ≡ placed (page_at pages n) i s
wrote_same pages zero i s h = absurd (omega arith)
wrote_same pages (suc n) i s h = altered_same [] (λ slots. placed slots i s) pages n

pub wrote_other : (pages : List (List Slot)) (n i m : ℕ) (s : Slot) → (m ≡ n → ⊥)
    → page_at (wrote_page pages n i s) m ≡ page_at pages m
wrote_other pages zero i m s h = refl
wrote_other pages (suc n) i zero s h = refl
wrote_other pages (suc n) i (suc m) s h =
    altered_other [] (λ slots. placed slots i s) pages n m (λ e. h (ap suc e))

at_test : (pages : List (List Slot)) (p q : Place) (s : Slot) → 1 ≤ p.page → (a b : Bool)
    → (q.page == p.page) ≡ a → (q.slot == p.slot) ≡ b
    → slot_of (wrote pages p s) q ≡ (if a && b then s else slot_of pages q)
at_test pages p q s h true true e f =
    let page = eqb-true q.page p.page e in
    let slot = eqb-true q.slot p.slot f in
    ap (λ (n : ℕ). slot_at (page_at (wrote pages p s) n) q.slot) page
    ∙ ap (λ (i : ℕ). slot_at (page_at (wrote pages p s) p.page) i) slot
    ∙ ap (λ (slots : List Slot). slot_at slots p.slot) (wrote_same pages p.page p.slot s h)
    ∙ slot_at-placed_same (page_at pages p.page) p.slot s
at_test pages p q s h true false e f =
    let page = eqb-true q.page p.page e in
    ap (λ (n : ℕ). slot_at (page_at (wrote pages p s) n) q.slot) page
    ∙ ap (λ (slots : List Slot). slot_at slots q.slot) (wrote_same pages p.page p.slot s h)
    ∙ slot_at-placed_other (page_at pages p.page) p.slot q.slot s (eqb-false q.slot p.slot f)
    ∙ sym (ap (λ (n : ℕ). slot_at (page_at pages n) q.slot) page)
at_test pages p q s h false b e f = ap (λ (slots : List Slot). slot_at slots q.slot)
    (wrote_other pages p.page p.slot q.page s (eqb-false q.page p.page e))

-- a slot looked up after a write
pub slot_of-wrote : (pages : List (List Slot)) (p q : Place) (s : Slot) → 1 ≤ p.page
    → slot_of (wrote pages p s) q ≡ override (slot_of pages) p s q
slot_of-wrote pages p q s h = at_test pages p q s h (q.page == p.page) (q.slot == p.slot) refl refl
