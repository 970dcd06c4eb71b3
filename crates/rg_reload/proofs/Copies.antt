-- The pages of a new copy, as they are added.
use Rattle.std.proofs.Common.{◌≡◌, ℕ, zero, suc, ◌+◌, ◌==◌, Bool, true, false, List, []}
use Rattle.std.proofs.Common.{◌∷◌, ◌++◌, if◌then◌else◌, length, get_or, refl, sym, ap, subst, ◌∙◌}
use Rattle.std.proofs.Common.{arith, append-nil}
use Rattle.std.proofs.lemmas.Bool.{eqb-true, eqb-false}
use Rattle.rg_space.proofs.Took.{past_page}
use Rattle.rg_base.specs.declared.place.Place.{Place}
use Rattle.rg_base.specs.declared.row.Row.{Row as TableRow}
use Rattle.rg_base.proofs.Small.{nat_itself, nat_apart_turned}
use Rattle.rg_home.specs.Pages.{page_at}
use Rattle.rg_home.specs.Slot.{Slot}
use Rattle.rg_home.specs.Slots.{Fits}
use Rattle.rg_page.specs.Content.{Content, content_at, slots_of}
use Rattle.rg_reload.specs.Moved.{Moved, moved_on}
use Rattle.rg_reload.specs.Pages.{HasRows, page_of, row_slot, row_slots, slots_on}

-- a page added at the end

get-new : (pages : List Content) (x : Content) (k : ℕ) → k ≡ length pages
    → get_or (slots_of (pages ++ x ∷ [])) k [] ≡ x.slots
get-new [] x zero e = refl
get-new [] x (suc k) e = absurd (omega arith)
get-new (y ∷ pages) x zero e = absurd (omega arith)
get-new (y ∷ pages) x (suc k) e = get-new pages x k (omega arith)

get-old : (pages : List Content) (x : Content) (k : ℕ) → (k ≡ length pages → ⊥)
    → get_or (slots_of (pages ++ x ∷ [])) k [] ≡ get_or (slots_of pages) k []
get-old [] x zero e = absurd (e refl)
get-old [] x (suc k) e = refl
get-old (y ∷ pages) x zero e = refl
get-old (y ∷ pages) x (suc k) e = get-old pages x k (λ f. e (ap suc f))

pub page_at-new : (pages : List Content) (x : Content) (n : ℕ) → n ≡ length pages + 1
    → page_at (slots_of (pages ++ x ∷ [])) n ≡ x.slots
page_at-new pages x zero e = absurd (omega arith)
page_at-new pages x (suc k) e = get-new pages x k (omega arith)

pub page_at-old : (pages : List Content) (x : Content) (n : ℕ) → (n ≡ length pages + 1 → ⊥)
    → page_at (slots_of (pages ++ x ∷ [])) n ≡ page_at (slots_of pages) n
page_at-old pages x zero e = refl
page_at-old pages x (suc k) e = get-old pages x k (λ f. e (omega arith))

position-add : (pages : List Content) (x : Content) (n : ℕ) → x.position ≡ 0
    → (content_at pages n).position ≡ 0 → (content_at (pages ++ x ∷ []) n).position ≡ 0
position-add pages x zero e f = refl
position-add [] x (suc zero) e f = e
position-add [] x (suc (suc n)) e f = refl
position-add (y ∷ pages) x (suc zero) e f = f
position-add (y ∷ pages) x (suc (suc n)) e f = position-add pages x (suc n) e f

-- an empty page has no row
pub rows-pad : (pages : List Content) (x : Content) (rows : List Moved) → x.position ≡ 0
    → x.slots ≡ [] → HasRows pages rows → HasRows (pages ++ x ∷ []) rows
rows-pad pages x rows e f h = record {
  slots = λ n. go n (n == length pages + 1) refl;
  fits = λ n. within n (n == length pages + 1) refl;
  positions = λ n. position-add pages x n e (h.positions n);
}
  where
    within : (n : ℕ) (b : Bool) → (n == length pages + 1) ≡ b
        → Fits (page_at (slots_of (pages ++ x ∷ [])) n)
    within n true t =
        subst Fits (sym (page_at-new pages x n (eqb-true n (length pages + 1) t) ∙ f)) (omega arith)
    within n false t =
        subst Fits (sym (page_at-old pages x n (eqb-false n (length pages + 1) t))) (h.fits n)

    go : (n : ℕ) (b : Bool) → (n == length pages + 1) ≡ b
        → page_at (slots_of (pages ++ x ∷ [])) n ≡ slots_on n rows
    go n true t =
        let same : n ≡ length pages + 1 = eqb-true n (length pages + 1) t in
        page_at-new pages x n same ∙ f ∙ sym (past_page pages n (omega arith)) ∙ h.slots n
    go n false t = page_at-old pages x n (eqb-false n (length pages + 1) t) ∙ h.slots n

-- the slots of rows that were moved

pub slots_on-append : (n : ℕ) (a b : List Moved)
    → slots_on n (a ++ b) ≡ slots_on n a ++ slots_on n b
slots_on-append n [] b = refl
slots_on-append n (m ∷ a) b = go (m.target.page == n) (slots_on-append n a b)
  where
    go : (t : Bool) → slots_on n (a ++ b) ≡ slots_on n a ++ slots_on n b
        → (if t then row_slot m.row ∷ slots_on n (a ++ b) else slots_on n (a ++ b))
        ≡ (if t then row_slot m.row ∷ slots_on n a else slots_on n a) ++ slots_on n b
    go true e = ap (λ (s : List Slot). row_slot m.row ∷ s) e
    go false e = e

pub slots_on-here : (page slot : ℕ) (rows : List (Place × TableRow))
    → slots_on page (moved_on page slot rows) ≡ row_slots rows
slots_on-here page slot [] = refl
slots_on-here page slot (x ∷ rows) =
    ap
    (λ (b : Bool). if b then row_slot x.1 ∷ slots_on page (moved_on page (slot + 1) rows)
    else slots_on page (moved_on page (slot + 1) rows)) (nat_itself page)
    ∙ ap (λ (s : List Slot). row_slot x.1 ∷ s) (slots_on-here page (slot + 1) rows)

pub slots_on-other : (n page slot : ℕ) (rows : List (Place × TableRow)) → (page == n) ≡ false
    → slots_on n (moved_on page slot rows) ≡ []
slots_on-other n page slot [] e = refl
slots_on-other n page slot (x ∷ rows) e =
    ap
    (λ (b : Bool). if b then row_slot x.1 ∷ slots_on n (moved_on page (slot + 1) rows)
    else slots_on n (moved_on page (slot + 1) rows)) e
    ∙ slots_on-other n page (slot + 1) rows e

-- the next page, with rows
pub rows-fill : (pages : List Content) (copy number : ℕ) (rows : List Moved)
    (taken : List (Place × TableRow))
    → number ≡ length pages + 1 → Fits (row_slots taken) → HasRows pages rows
    → HasRows (pages ++ page_of copy number (row_slots taken) ∷ [])
    (rows ++ moved_on number 0 taken)
rows-fill pages copy number rows taken e f h = record {
  slots = λ n. go n (n == number) refl;
  fits = λ n. within n (n == number) refl;
  positions =
      λ n. position-add pages (page_of copy number (row_slots taken)) n refl (h.positions n);
}
  where
    within : (n : ℕ) (b : Bool) → (n == number) ≡ b
        → Fits (page_at (slots_of (pages ++ page_of copy number (row_slots taken) ∷ [])) n)
    within n true t =
        subst Fits
        (sym
        (page_at-new pages (page_of copy number (row_slots taken)) n (eqb-true n number t ∙ e))) f
    within n false t =
        subst Fits
        (sym
        (page_at-old pages (page_of copy number (row_slots taken)) n
        (λ q. eqb-false n number t (q ∙ sym e)))) (h.fits n)

    go : (n : ℕ) (b : Bool) → (n == number) ≡ b
        → page_at (slots_of (pages ++ page_of copy number (row_slots taken) ∷ [])) n
        ≡ slots_on n (rows ++ moved_on number 0 taken)
    go n true t =
        let same : n ≡ number = eqb-true n number t in
        page_at-new pages (page_of copy number (row_slots taken)) n (same ∙ e)
        ∙ sym (slots_on-append n rows (moved_on number 0 taken)
        ∙ ap (λ (s : List Slot). s ++ slots_on n (moved_on number 0 taken))
        (sym (h.slots n) ∙ past_page pages n (omega arith))
        ∙ ap (λ (k : ℕ). slots_on k (moved_on number 0 taken)) same
        ∙ slots_on-here number 0 taken)
    go n false t =
        page_at-old pages (page_of copy number (row_slots taken)) n
        (λ f. eqb-false n number t (f ∙ sym e))
        ∙ h.slots n
        ∙ sym (slots_on-append n rows (moved_on number 0 taken)
        ∙ ap (λ (s : List Slot). slots_on n rows ++ s)
        (slots_on-other n number 0 taken (nat_apart_turned n number t))
        ∙ append-nil (slots_on n rows))
