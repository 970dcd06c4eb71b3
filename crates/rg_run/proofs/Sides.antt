-- A side that is read from a volume is the only one of as many pages.
use Rattle.std.proofs.Common.{◌≡◌, ◌==◌, ◌≤◌, ℕ, zero, suc, Bool, true, false, List, [], ◌∷◌}
use Rattle.std.proofs.Common.{length}
use Rattle.std.proofs.Common.{Some, refl, sym, ◌∙◌, ap, arith}
use Rattle.std.proofs.lemmas.Bool.{eqb-true, and_parts}
use Rattle.std.proofs.lemmas.List.{length-map}
use Rattle.rg_home.specs.Slot.{Slot}
use Rattle.rg_page.specs.Content.{Content, content_at, slots_of}
use Rattle.rg_page.specs.Bytes.PageBytes.{bytes_if, is_blank, page_bytes}
use Rattle.rg_page.specs.Bytes.Reading.{page_shown}
use Rattle.rg_page.specs.Bytes.Content.{FitsPage}
use Rattle.rg_page.proofs.BytesLemmas.ReadBack.{page_again, zeros_are_blank}
use Rattle.rg_outside.specs.Calls.{Told}
use Rattle.rg_run.specs.Fit.{HasSide}
use Rattle.rg_stmt.specs.declared.layout.Side.{Side}

no_slots : (slots : List Slot) → length slots ≡ 0 → slots ≡ []
no_slots [] none = refl
no_slots (s ∷ slots) none = absurd (omega (arith, none))

blank_slots : (x : Content) → is_blank x ≡ true → x.slots ≡ []
blank_slots x blank =
    no_slots x.slots (eqb-true (length x.slots) 0
    (and_parts (x.position == 0) (length x.slots == 0) blank).1)

some_one : (x y : Content) → Some x ≡ Some y → x ≡ y
some_one x y e = cc (e)

-- bytes spell the slots of one page
one_page : (x y : Content) → FitsPage x → FitsPage y → page_bytes x ≡ page_bytes y
    → x.slots ≡ y.slots
one_page x y fits_x fits_y same = go (is_blank x) (is_blank y) refl refl same
  where
    go : (a b : Bool) → is_blank x ≡ a → is_blank y ≡ b → bytes_if a x ≡ bytes_if b y
        → x.slots ≡ y.slots
    go true true blank_x blank_y e = blank_slots x blank_x ∙ sym (blank_slots y blank_y)
    go true false blank_x some_y e =
        let blank_y : is_blank y ≡ true =
        zeros_are_blank y (ap (λ b. bytes_if b y) some_y ∙ sym e) in
        absurd (cc (blank_y, some_y))
    go false true some_x blank_y e =
        let blank_x : is_blank x ≡ true =
        zeros_are_blank x (ap (λ b. bytes_if b x) some_x ∙ e) in
        absurd (cc (blank_x, some_x))
    go false false some_x some_y e =
        ap (λ (z : Content). z.slots)
        (some_one x y (sym (page_again x fits_x) ∙ ap page_shown e ∙ page_again y fits_y))

-- lists of pages with the same slots at each place
one_list : (xs ys : List Content) → length xs ≡ length ys
    → ((p : ℕ) → 1 ≤ p → p ≤ length xs → (content_at xs p).slots ≡ (content_at ys p).slots)
    → slots_of xs ≡ slots_of ys
one_list [] [] count same = refl
one_list [] (y ∷ ys) count same = absurd (omega (arith, count))
one_list (x ∷ xs) [] count same = absurd (omega (arith, count))
one_list (x ∷ xs) (y ∷ ys) count same =
    let head : x.slots ≡ y.slots = same 1 (omega arith) (omega arith) in
    let counts : length xs ≡ length ys = omega (arith, count) in
    let later : slots_of xs ≡ slots_of ys = one_list xs ys counts next in
    cc (head, later)
  where
    next : (p : ℕ) → 1 ≤ p → p ≤ length xs → (content_at xs p).slots ≡ (content_at ys p).slots
    next zero low high = absurd (omega (arith, low))
    next (suc p) low high = same (suc (suc p)) (omega arith) (omega (arith, high))

pub one_side : (copy start calls : ℕ) (a b : Side) (t : Told) → HasSide copy start calls a t
    → HasSide copy start calls b t → a.pages ≡ b.pages → a.spots ≡ b.spots
one_side copy start calls a b t of_a of_b pages =
    cc (of_a.side_is.1, of_b.side_is.1, slots)
  where
    counts : length of_a.pages ≡ length of_b.pages
    counts =
        sym (length-map of_a.pages (λ (x : Content). x.slots)) ∙ sym of_a.side_is.0 ∙ pages
        ∙ of_b.side_is.0 ∙ length-map of_b.pages (λ (x : Content). x.slots)

    slots : slots_of of_a.pages ≡ slots_of of_b.pages
    slots = one_list of_a.pages of_b.pages counts at
      where
        at : (p : ℕ) → 1 ≤ p → p ≤ length of_a.pages
            → (content_at of_a.pages p).slots ≡ (content_at of_b.pages p).slots
        at p low high =
            let x = of_a.reads p low high in
            let y = of_b.reads p low (omega (arith, high, counts)) in
            one_page (content_at of_a.pages p) (content_at of_b.pages p) x.fits y.fits
            (sym x.is ∙ y.is)
