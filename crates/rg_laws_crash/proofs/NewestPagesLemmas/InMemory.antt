-- What parts make of a page in memory.
use Rattle.std.proofs.Common.{◌≡◌, ◌≢◌, ◌≤◌, ◌<◌, ◌+◌, ◌-◌, ◌==◌, ◌++◌, inl, inr, ℕ, zero, suc}
use Rattle.std.proofs.Common.{Bool, true, false, if◌then◌else◌, List, [], ◌∷◌, Option, length, map}
use Rattle.std.proofs.Common.{set, refl, sym, ◌∙◌, ap, arith, eq-eqb, ne_eqb, le-leb, eqb-true}
use Rattle.std.proofs.Common.{length-append, length-set, get_or-set_other}
use Rattle.std.proofs.lemmas.Bool.{cases_eq, cases_lt, cases_order, lt-leb}
use Rattle.std.proofs.lemmas.List.{get_or_append_left, get_or_push, get_or-map, length-map}
use Rattle.std.proofs.lemmas.List.{length_push}
use Rattle.rg_base.specs.declared.part.Part.{Part}
use Rattle.rg_base.specs.declared.row.Row.{Row}
use Rattle.rg_page.specs.Changed.{changed}
use Rattle.rg_page.specs.Content.{Content, content_at, empty}
use Rattle.rg_space.specs.Applied.{grown, wrote_all, wrote_part}
use Rattle.rg_space.specs.Redo.{with_part, with_parts}
use Rattle.rg_space.proofs.Growing.{grown_count}
use Rattle.rg_space.proofs.Redoing.{content_set}
use Rattle.rg_laws_crash.proofs.PageVersionsLemmas.Parts.{parts_number}
use Rattle.rg_laws_crash.specs.NewestPages.Newest.{AllNear, page_in}

-- a page that is there, and one past them
pub there_in : (copy : ℕ) (pages : List Content) (p : ℕ) → p ≤ length pages
    → page_in copy pages p ≡ content_at pages p
there_in copy pages p low =
    ap (λ (t : Bool). if t then content_at pages p else empty copy p) (le-leb p (length pages) low)

pub past_in : (copy : ℕ) (pages : List Content) (p : ℕ) → length pages < p
    → page_in copy pages p ≡ empty copy p
past_in copy pages p past =
    ap (λ (t : Bool). if t then content_at pages p else empty copy p) (lt-leb p (length pages) past)

-- the page that is added is empty
added_in : (copy : ℕ) (pages : List Content) (n p : ℕ) → n ≡ length pages + 1
    → page_in copy (pages ++ empty copy n ∷ []) p ≡ page_in copy pages p
added_in copy pages n p next =
    let more : List Content = pages ++ empty copy n ∷ [] in
    let count : length more ≡ length pages + 1 = length_push pages (empty copy n) in
    elim (cases_order p n) [
      | inl here ↦
          there_in copy more p (omega (arith, count, next, here))
          ∙ get_or_push (empty 0 0 ∷ pages) (empty copy n) (empty 0 0) p (omega (arith, next, here))
          ∙ ap (empty copy) (sym here)
          ∙ sym (past_in copy pages p (omega (arith, next, here)))
      | inr (inl before) ↦
          there_in copy more p (omega (arith, count, next, before))
          ∙ get_or_append_left (empty 0 0 ∷ pages) (empty copy n ∷ []) (empty 0 0) p
          (omega (arith, next, before))
          ∙ sym (there_in copy pages p (omega (arith, next, before)))
      | inr (inr past) ↦ past_in copy more p (omega (arith, count, next, past))
          ∙ sym (past_in copy pages p (omega (arith, next, past)))
    ]

grown_in : (copy : ℕ) (pages : List Content) (n p : ℕ)
    → page_in copy (grown copy pages n) p ≡ page_in copy pages p
grown_in copy pages n p = go (n == length pages + 1) refl
  where
    go : (t : Bool) → (n == length pages + 1) ≡ t
        → page_in copy (if t then pages ++ empty copy n ∷ [] else pages) p ≡ page_in copy pages p
    go true is = added_in copy pages n p (eqb-true n (length pages + 1) is)
    go false is = refl

grown_more : (copy : ℕ) (pages : List Content) (n : ℕ) → length pages ≤ length (grown copy pages n)
grown_more copy pages n = go (n == length pages + 1)
  where
    go : (t : Bool) → length pages ≤ length (if t then pages ++ empty copy n ∷ [] else pages)
    go true = omega (arith, length-append pages (empty copy n ∷ []))
    go false = omega arith

-- another page than the one that is set
other_at : (pages : List Content) (n p : ℕ) (c : Content) → 1 ≤ n → p ≢ n
    → content_at (set pages (n - 1) c) p ≡ content_at pages p
other_at pages zero p c low other = absurd (omega (arith, low))
other_at pages (suc k) p c low other =
    let same : suc k - 1 ≡ k = omega arith in
    ap (λ (i : ℕ). content_at (set pages i c) p) same
    ∙ get_or-set_other (empty 0 0 ∷ pages) (suc k) p c (empty 0 0) other

other_in : (copy : ℕ) (pages : List Content) (n p : ℕ) (c : Content) → 1 ≤ n → p ≢ n
    → page_in copy (set pages (n - 1) c) p ≡ page_in copy pages p
other_in copy pages n p c low other = elim (cases_lt (length pages) p) [
  | inl past ↦
      past_in copy (set pages (n - 1) c) p (omega (arith, length-set pages (n - 1) c, past))
      ∙ sym (past_in copy pages p past)
  | inr there ↦
      there_in copy (set pages (n - 1) c) p (omega (arith, length-set pages (n - 1) c, there))
      ∙ other_at pages n p c low other ∙ sym (there_in copy pages p there)
]

-- a function of each page, which keeps the empty ones
pub map_in : (copy : ℕ) (f : Content → Content) (pages : List Content) (p : ℕ) → 1 ≤ p
    → (length pages < p → f (empty copy p) ≡ empty copy p)
    → page_in copy (map f pages) p ≡ f (page_in copy pages p)
map_in copy f pages p one keeps = elim (cases_lt (length pages) p) [
  | inl past ↦ past_in copy (map f pages) p (omega (arith, length-map pages f, past))
      ∙ sym (keeps past) ∙ ap f (sym (past_in copy pages p past))
  | inr there ↦ there_in copy (map f pages) p (omega (arith, length-map pages f, there))
      ∙ at p one there ∙ ap f (sym (there_in copy pages p there))
]
  where
    at : (p : ℕ) → 1 ≤ p → p ≤ length pages → content_at (map f pages) p ≡ f (content_at pages p)
    at zero one there = absurd (omega (arith, one))
    at (suc k) one there = get_or-map f pages k (empty 0 0) (empty 0 0) (omega (arith, there))

module _ (copy owner : ℕ) (after : Option Row) (position : ℕ) where
  part_more : (pages : List Content) (x : Part)
      → length pages ≤ length (wrote_part copy owner after position pages x)
  part_more pages x =
      omega (
        arith,
        grown_more copy pages x.page,
        length-set (grown copy pages x.page) (x.page - 1)
            (changed (content_at (grown copy pages x.page) x.page) x owner after position),
      )

  pub parts_more : (pages : List Content) (parts : List Part)
      → length pages ≤ length (wrote_all copy owner after position pages parts)
  parts_more pages [] = omega arith
  parts_more pages (x ∷ parts) = omega
      (arith, part_more pages x, parts_more (wrote_part copy owner after position pages x) parts)

  part_in : (pages : List Content) (x : Part) (p : ℕ) → 1 ≤ x.page → x.page ≤ length pages + 1
      → (page_in copy pages p).number ≡ p
      → page_in copy (wrote_part copy owner after position pages x) p
      ≡ with_part owner after position (page_in copy pages p) x
  part_in pages x p low next numbered =
      let page : Content = page_in copy pages p in
      let big : List Content = grown copy pages x.page in
      let now : Content = changed (content_at big x.page) x owner after position in
      let there : x.page ≤ length big = grown_count copy pages x.page next in
      elim (cases_eq p x.page) [
        | inl here ↦
            let test : (x.page == page.number) ≡ true =
            eq-eqb x.page page.number (sym here ∙ sym numbered) in
            there_in copy (set big (x.page - 1) now) p
            (omega (arith, there, length-set big (x.page - 1) now, here))
            ∙ ap (content_at (set big (x.page - 1) now)) here
            ∙ content_set big x.page now low there
            ∙ ap (λ (c : Content). changed c x owner after position)
            (sym (there_in copy big x.page there) ∙ grown_in copy pages x.page x.page
            ∙ ap (page_in copy pages) (sym here))
            ∙ ap (λ (t : Bool). if t then changed page x owner after position else page) (sym test)
        | inr other ↦
            let test : (x.page == page.number) ≡ false =
            ne_eqb x.page page.number (λ is. absurd (other (sym (is ∙ numbered)))) in
            other_in copy big x.page p now low other ∙ grown_in copy pages x.page p
            ∙ ap (λ (t : Bool). if t then changed page x owner after position else page) (sym test)
      ]

  -- the parts of a record make of it what a redo does
  pub parts_in : (pages : List Content) (parts : List Part) (count p : ℕ) → count ≤ length pages
      → AllNear count parts → (page_in copy pages p).number ≡ p
      → page_in copy (wrote_all copy owner after position pages parts) p
      ≡ with_parts owner after position (page_in copy pages p) parts
  parts_in pages [] count p le near numbered = refl
  parts_in pages (x ∷ parts) count p le near numbered =
      let one : page_in copy (wrote_part copy owner after position pages x) p
      ≡ with_part owner after position (page_in copy pages p) x =
      part_in pages x p near.0 (omega (arith, near.1, le)) numbered in
      parts_in (wrote_part copy owner after position pages x) parts count p
      (omega (arith, le, part_more pages x)) near.2
      (ap (λ (c : Content). c.number) one
      ∙ parts_number owner after position (x ∷ []) (page_in copy pages p) ∙ numbered)
      ∙ ap (λ (c : Content). with_parts owner after position c parts) one
