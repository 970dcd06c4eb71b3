-- Records on pages.
use Rattle.std.proofs.Common.{◌≡◌, ⊎_elim, ℕ, zero, suc, ◌+◌, ◌<◌, ◌≤◌, ◌==◌, nat_le, Bool, true}
use Rattle.std.proofs.Common.{false, List, [], ◌∷◌, ◌++◌, length, take, drop, refl, sym, ◌∙◌, subst}
use Rattle.std.proofs.Common.{ap, arith, if◌then◌else◌}
use Rattle.rg_record.specs.declared.record.Record.{Record}
use Rattle.std.proofs.lemmas.List.{take-append-drop}
use Rattle.std.proofs.lemmas.Bool.{eq-eqb, leb-true, le-leb}
use Rattle.std.proofs.lemmas.Bool.Decides.{eqb_tells}
use Rattle.rg_image.specs.Pack.{Spot, start, on_page, end_of, next_spot, size_of, room, fitting}

-- the next record stands on this page or on the next one
next_page : (at : Spot) (r : Record) → at.page ≤ (next_spot at r).page
next_page at r =
    elim (nat_le (at.used + size_of r) room) as
    (λ t. let s : Spot = if t then record { page = at.page; used = at.used + size_of r }
    else record { page = at.page + 1; used = size_of r } in at.page ≤ s.page) [
      | true ↦ omega arith
      | false ↦ omega arith
    ]

pub end_page : (at : Spot) (rs : List Record) → at.page ≤ (end_of at rs).page
end_page at [] = omega arith
end_page at (r ∷ rs) = omega (arith, next_page at r, end_page (next_spot at r) rs)

pub on_page_append : (p : ℕ) (at : Spot) (xs ys : List Record)
    → on_page p at (xs ++ ys) ≡ on_page p at xs ++ on_page p (end_of at xs) ys
on_page_append p at [] ys = refl
on_page_append p at (r ∷ xs) ys =
    elim ((next_spot at r).page == p) as (λ t.
    (if t then r ∷ on_page p (next_spot at r) (xs ++ ys) else on_page p (next_spot at r) (xs ++ ys))
    ≡ (if t then r ∷ on_page p (next_spot at r) xs else on_page p (next_spot at r) xs)
    ++ on_page p (end_of (next_spot at r) xs) ys) [
      | true ↦ ap (λ (l : List Record). r ∷ l) (on_page_append p (next_spot at r) xs ys)
      | false ↦ on_page_append p (next_spot at r) xs ys
    ]

pub end_of_append : (at : Spot) (xs ys : List Record)
    → end_of at (xs ++ ys) ≡ end_of (end_of at xs) ys
end_of_append at [] ys = refl
end_of_append at (r ∷ xs) ys = end_of_append (next_spot at r) xs ys

-- a record that is not on page p
other : (p : ℕ) (at : Spot) (r : Record) (rs : List Record) → ((next_spot at r).page ≡ p → ⊥)
    → on_page p at (r ∷ rs) ≡ on_page p (next_spot at r) rs
other p at r rs off =
    ⊎_elim (λ on. absurd (off on.1))
    (λ ne. ap
    (λ (t : Bool). if t then r ∷ on_page p (next_spot at r) rs else on_page p (next_spot at r) rs)
    ne.0) (eqb_tells (next_spot at r).page p)

here : (p : ℕ) (at : Spot) (r : Record) (rs : List Record) → (next_spot at r).page ≡ p
    → on_page p at (r ∷ rs) ≡ r ∷ on_page p (next_spot at r) rs
here p at r rs on = ap
    (λ (t : Bool). if t then r ∷ on_page p (next_spot at r) rs else on_page p (next_spot at r) rs)
    (eq-eqb (next_spot at r).page p on)

-- the log has passed that page
pub none_below : (p : ℕ) (at : Spot) (rs : List Record) → p < at.page → on_page p at rs ≡ []
none_below p at [] lt = refl
none_below p at (r ∷ rs) lt =
    let next : at.page ≤ (next_spot at r).page = next_page at r in
    other p at r rs (λ e. absurd (omega (arith, e, next, lt)))
    ∙ none_below p (next_spot at r) rs (omega (arith, next, lt))

-- the log has not come to that page
pub none_above : (p : ℕ) (at : Spot) (rs : List Record) → (end_of at rs).page < p
    → on_page p at rs ≡ []
none_above p at [] lt = refl
none_above p at (r ∷ rs) lt =
    let last : (next_spot at r).page ≤ (end_of (next_spot at r) rs).page =
    end_page (next_spot at r) rs in
    other p at r rs (λ e. absurd (omega (arith, e, last, lt))) ∙ none_above p (next_spot at r) rs lt

pub after_fit : (page used : ℕ) (r : Record) → used + size_of r ≤ room
    → next_spot (record { page = page; used = used }) r
    ≡ record { page = page; used = used + size_of r }
after_fit page used r fits =
    ap
    (λ (t : Bool). if t then record { page = page; used = used + size_of r }
    else record { page = page + 1; used = size_of r }) (le-leb (used + size_of r) room fits)

after_full : (page used : ℕ) (r : Record) → nat_le (used + size_of r) room ≡ false
    → next_spot (record { page = page; used = used }) r
    ≡ record { page = page + 1; used = size_of r }
after_full page used r full = ap
    (λ (t : Bool). if t then record { page = page; used = used + size_of r }
    else record { page = page + 1; used = size_of r }) full

-- the records that fit, and no others, stand on the page
pub fits_here : (page used y : ℕ) (rs : List Record) → fitting used rs ≤ y
    → on_page page (record { page = page; used = used }) (take y rs) ≡ take (fitting used rs) rs
fits_here page used zero [] le = refl
fits_here page used (suc y) [] le = refl
fits_here page used zero (r ∷ rs) le =
    elim (nat_le (used + size_of r) room) as
    (λ t. (if t then suc (fitting (used + size_of r) rs) else 0) ≤ 0
    → [] ≡ take (if t then suc (fitting (used + size_of r) rs) else 0) (r ∷ rs)) [
      | true ↦ λ l. absurd (omega (arith, l))
      | false ↦ λ l. refl
    ] le
fits_here page used (suc y) (r ∷ rs) le =
    elim (nat_le (used + size_of r) room) as (λ t. nat_le (used + size_of r) room ≡ t
    → (if t then suc (fitting (used + size_of r) rs) else 0) ≤ suc y
    → on_page page (record { page = page; used = used }) (r ∷ take y rs)
    ≡ take (if t then suc (fitting (used + size_of r) rs) else 0) (r ∷ rs)) [
      | true ↦ λ e l.
          let next = after_fit page used r (leb-true (used + size_of r) room e) in
          here page (record { page = page; used = used }) r (take y rs)
          (ap (λ (s : Spot). s.page) next)
          ∙ ap (λ (s : Spot). r ∷ on_page page s (take y rs)) next
          ∙ ap (λ (l : List Record). r ∷ l)
          (fits_here page (used + size_of r) y rs (omega (arith, l)))
      | false ↦ λ e l.
          let next = after_full page used r e in
          let at : (next_spot (record { page = page; used = used }) r).page ≡ page + 1 =
          ap (λ (s : Spot). s.page) next in
          other page (record { page = page; used = used }) r (take y rs)
          (λ same. absurd (omega (arith, same, at)))
          ∙ none_below page (next_spot (record { page = page; used = used }) r) (take y rs)
          (omega (arith, at))
    ] refl le

-- and on no other page
pub fits_only : (p page used y : ℕ) (rs : List Record) → (p ≡ page → ⊥) → y ≤ fitting used rs
    → on_page p (record { page = page; used = used }) (take y rs) ≡ []
fits_only p page used zero rs ne le = refl
fits_only p page used (suc y) [] ne le = refl
fits_only p page used (suc y) (r ∷ rs) ne le =
    elim (nat_le (used + size_of r) room) as (λ t. nat_le (used + size_of r) room ≡ t
    → suc y ≤ (if t then suc (fitting (used + size_of r) rs) else 0)
    → on_page p (record { page = page; used = used }) (r ∷ take y rs) ≡ []) [
      | true ↦ λ e l.
          let next = after_fit page used r (leb-true (used + size_of r) room e) in
          let at : (next_spot (record { page = page; used = used }) r).page ≡ page =
          ap (λ (s : Spot). s.page) next in
          other p (record { page = page; used = used }) r (take y rs) (λ same. ne (sym same ∙ at))
          ∙ ap (λ (s : Spot). on_page p s (take y rs)) next
          ∙ fits_only p page (used + size_of r) y rs ne (omega (arith, l))
      | false ↦ λ e l. absurd (omega (arith, l))
    ] refl le

-- where the log ends once the records that fit stand
pub end_of_fits : (page used : ℕ) (rs : List Record)
    → (end_of (record { page = page; used = used }) (take (fitting used rs) rs)).page ≡ page
end_of_fits page used [] = refl
end_of_fits page used (r ∷ rs) =
    elim (nat_le (used + size_of r) room) as (λ t. nat_le (used + size_of r) room ≡ t
    → (end_of (record { page = page; used = used })
    (take (if t then suc (fitting (used + size_of r) rs) else 0) (r ∷ rs))).page ≡ page) [
      | true ↦ λ e. ap (λ (s : Spot). (end_of s (take (fitting (used + size_of r) rs) rs)).page)
          (after_fit page used r (leb-true (used + size_of r) room e))
          ∙ end_of_fits page (used + size_of r) rs
      | false ↦ λ e. refl
    ] refl

pub fitting_le : (used : ℕ) (rs : List Record) → fitting used rs ≤ length rs
fitting_le used [] = omega arith
fitting_le used (r ∷ rs) =
    elim (nat_le (used + size_of r) room) as
    (λ t. (if t then suc (fitting (used + size_of r) rs) else 0) ≤ suc (length rs)) [
      | true ↦ omega (arith, fitting_le (used + size_of r) rs)
      | false ↦ omega arith
    ]

-- what does not fit begins the next page
pub next_begins : (page used : ℕ) (rs more : List Record) (r : Record)
    → drop (fitting used rs) rs ≡ r ∷ more
    → next_spot (end_of (record { page = page; used = used }) (take (fitting used rs) rs)) r
    ≡ record { page = page + 1; used = size_of r }
next_begins page used [] more r e = absurd (cc (e))
next_begins page used (x ∷ rs) more r e =
    elim (nat_le (used + size_of x) room) as (λ t. nat_le (used + size_of x) room ≡ t
    → drop (if t then suc (fitting (used + size_of x) rs) else 0) (x ∷ rs) ≡ r ∷ more
    → next_spot
    (end_of (record { page = page; used = used })
    (take (if t then suc (fitting (used + size_of x) rs) else 0) (x ∷ rs))) r
    ≡ record { page = page + 1; used = size_of r }) [
      | true ↦ λ fits d.
          ap (λ (s : Spot). next_spot (end_of s (take (fitting (used + size_of x) rs) rs)) r)
          (after_fit page used x (leb-true (used + size_of x) room fits))
          ∙ next_begins page (used + size_of x) rs more r d
      | false ↦ λ full d. let same : x ≡ r = cc (d) in after_full page used r
          (subst (λ (y : Record). nat_le (used + size_of y) room ≡ false) same full)
    ] refl e

pub first_spot : (page : ℕ) (r : Record) → size_of r ≤ room
    → next_spot (record { page = page; used = 0 }) r ≡ record { page = page; used = size_of r }
first_spot page r fits =
    let sum : 0 + size_of r ≡ size_of r = omega arith in
    after_fit page 0 r (omega (arith, fits))
    ∙ ap (λ (k : ℕ). let s : Spot = record { page = page; used = k } in s) sum

-- a part of the records ends on no later page
pub front_page : (n : ℕ) (rs : List Record)
    → (end_of start (take n rs)).page ≤ (end_of start rs).page
front_page n rs =
    omega (
      arith,
      end_page (end_of start (take n rs)) (drop n rs),
      ap (λ (s : Spot). s.page)
          (sym (end_of_append start (take n rs) (drop n rs))
          ∙ ap (end_of start) (take-append-drop n rs)),
    )
