-- Home rows weigh no more than their pages claim.
use Rattle.std.proofs.Common.{◌≡◌, ◌⊎◌, inl, inr, ℕ, ◌+◌, ◌<◌, ◌≤◌, Bool, true, false, zero, suc}
use Rattle.std.proofs.Common.{List, [], ◌∷◌, length, Option, refl, ◌∙◌, ap, subst, if◌then◌else◌}
use Rattle.std.proofs.Common.{arith}
use Rattle.rg_home.specs.Slot.{Slot}
use Rattle.rg_base.specs.declared.place.Place.{Place}
use Rattle.rg_base.specs.declared.row.Row.{Row as TableRow}
use Rattle.rg_home.specs.Slot.{Free, Row, Pointer, Over, DeadRow, DeadPointer, DeadOver}
use Rattle.rg_home.specs.Slots.{slot_at, is_free}
use Rattle.rg_home.proofs.Slots.{used-length}
use Rattle.rg_base.specs.Place.{same_place}
use Rattle.rg_home.specs.Rows.{over_row, home_row, row_at, IsOverOf, TiesAt, Tied}
use Rattle.rg_home.specs.Rows.{ChangesHome}
use Rattle.rg_home.specs.Pages.{page_at, slot_of, Sound}
use Rattle.rg_base.proofs.SamePlace.{same_place-true, same_place-refl}
use Rattle.rg_home.proofs.Range.{slot_below, page_within}
use Rattle.rg_laws_pages.specs.ByteClaims.Claim.{claimed_all}
use Rattle.rg_laws_pages.specs.ByteClaims.Weight.{places, pages_from, total, weight, rows_weight}
use Rattle.rg_base.specs.RowBytes.{row_size}
use Rattle.rg_home.specs.Able.{Holds, Proper}
use Rattle.rg_laws_pages.proofs.ByteClaimsLemmas.Total.{total-append, total-none, total-le}
use Rattle.rg_laws_pages.proofs.ByteClaimsLemmas.Total.{total-plus, total-swap, term, pages-le}
use Rattle.rg_laws_pages.proofs.ByteClaimsLemmas.Total.{only_at, pages_only, claim_at, pages_claim}

-- of a slot: its row where it is a Row, or where it is an Over
abbrev pub as_row : Slot → ℕ
as_row (Row c b) = 18 + row_size b
as_row _ = 0

abbrev pub as_over : Slot → ℕ
as_over (Over c b p) = 18 + row_size b
as_over _ = 0

abbrev pub names : Slot → Place → Bool
names (Pointer c o) q = same_place o q
names _ q = false

abbrev pub pointed_weight : (Place → Slot) → Slot → ℕ
pointed_weight at (Pointer c o) = as_over (at o)
pointed_weight at _ = 0

over_weight : (s : Slot) → weight (over_row s) ≡ as_over s
over_weight (Over c b p) = refl
over_weight Free = refl
over_weight (Row c b) = refl
over_weight (Pointer c o) = refl
over_weight (DeadRow c t) = refl
over_weight (DeadPointer c o t) = refl
over_weight (DeadOver c p t) = refl

row_weight : (at : Place → Slot) (s : Slot)
    → weight (home_row at s) ≡ as_row s + pointed_weight at s
row_weight at (Row c b) = omega arith
row_weight at (Pointer c o) = omega (arith, over_weight (at o))
row_weight at Free = omega arith
row_weight at (Over c b p) = omega arith
row_weight at (DeadRow c t) = omega arith
row_weight at (DeadPointer c o t) = omega arith
row_weight at (DeadOver c p t) = omega arith

-- at most one Pointer names an Over area
named_by : (at : Place → Slot) (p q h : Place) (c : ℕ) (b : TableRow) (s : Slot) → at q ≡ Over c b h
    → TiesAt at p s → names s q ≡ true → same_place p h ≡ true
named_by at p q h c b (Pointer d o) e t n =
    let is : IsOverOf p (Over c b h) = subst (IsOverOf p) (ap at (same_place-true o q n) ∙ e) t in
    ap (λ (x : Place). same_place p x) is ∙ same_place-refl p
named_by at p q h c b Free e t n = absurd (cc (n))
named_by at p q h c b (Row x y) e t n = absurd (cc (n))
named_by at p q h c b (Over x y z) e t n = absurd (cc (n))
named_by at p q h c b (DeadRow x y) e t n = absurd (cc (n))
named_by at p q h c b (DeadPointer x y z) e t n = absurd (cc (n))
named_by at p q h c b (DeadOver x y z) e t n = absurd (cc (n))

module _ (h : ℕ → Bool) (pages : List (List Slot)) (sound : Sound pages)
    (tied : Tied (slot_of pages)) (contained : (p : Place) → Holds (slot_of pages p)) where
  abbrev at : Place → Slot
  at = slot_of pages

  abbrev all : List Place
  all = pages_from 0 (suc (length pages))

  abbrev link : Place → Place → ℕ
  link p q = if names (slot_of pages p) q then as_over (slot_of pages q) else 0

  -- an Over area's place is one of all
  over_in : (f : Place → ℕ) (o : Place) → is_free (slot_of pages o) ≡ false
      → f o ≤ total (pages_from 0 (suc (length pages))) f
  over_in f o e =
      let w = page_within pages o.page o.slot e in
      let s = slot_below (page_at pages o.page) o.slot e in
      let n : 0 + o.page ≡ o.page = omega arith in
      omega (
        arith,
        term f 0 (suc (length pages)) o.page o.slot (omega (arith, w.1))
            (omega (arith, s, used-length (page_at pages o.page), sound.fits o.page)),
        ap (λ (x : ℕ). f (record { page = x; slot = o.slot })) n,
      )

  over_full : (s : Slot) → (as_over s ≡ 0) ⊎ (is_free s ≡ false)
  over_full (Over c b p) = inr refl
  over_full Free = inl refl
  over_full (Row c b) = inl refl
  over_full (Pointer c o) = inl refl
  over_full (DeadRow c t) = inl refl
  over_full (DeadPointer c o t) = inl refl
  over_full (DeadOver c p t) = inl refl

  -- what a Pointer's row weighs is one of the links
  linked : (p : Place) (s : Slot) → slot_of pages p ≡ s
      → pointed_weight (slot_of pages) s ≤ total (pages_from 0 (suc (length pages))) (link p)
  linked p (Pointer c o) e = go (over_full (slot_of pages o))
    where
      one : link p o ≡ as_over (slot_of pages o)
      one = ap (λ (s : Slot). if names s o then as_over (slot_of pages o) else 0) e
          ∙ ap (λ (b : Bool). if b then as_over (slot_of pages o) else 0) (same_place-refl o)

      go : (as_over (slot_of pages o) ≡ 0) ⊎ (is_free (slot_of pages o) ≡ false)
          → as_over (slot_of pages o) ≤ total (pages_from 0 (suc (length pages))) (link p)
      go (inl z) = omega (arith, z)
      go (inr f) = omega (arith, one, over_in (link p) o f)
  linked p Free e = omega arith
  linked p (Row c b) e = omega arith
  linked p (Over c b q) e = omega arith
  linked p (DeadRow c t) e = omega arith
  linked p (DeadPointer c o t) e = omega arith
  linked p (DeadOver c q t) e = omega arith

  link_small : (p q : Place) (b : Bool) (x y : ℕ) → x ≤ (if b then y else 0) → x ≤ y
  link_small p q true x y l = l
  link_small p q false x y l = omega arith

  -- no link leads to a place that is not an Over area's
  none : (q : Place) (s : Slot) → slot_of pages q ≡ s → as_over s ≡ 0
      → total (pages_from 0 (suc (length pages))) (λ p. link p q) ≤ as_over s
  none q s e z = omega (
    arith,
    total-le (pages_from 0 (suc (length pages))) (λ p. link p q) (λ p. 0)
        (λ p. each (names (slot_of pages p) q)),
    total-none (pages_from 0 (suc (length pages))),
  )
    where
      each : (b : Bool) → (if b then as_over (slot_of pages q) else 0) ≤ 0
      each true = omega (arith, ap as_over e, z)
      each false = omega arith

  -- all links to one place
  links_to : (q : Place) (s : Slot) → slot_of pages q ≡ s
      → total (pages_from 0 (suc (length pages))) (λ p. link p q) ≤ as_over s
  links_to q (Over c b g) e =
      omega (
        arith,
        total-le (pages_from 0 (suc (length pages))) (λ p. link p q)
            (only_at g (as_over (slot_of pages q))) (λ p. each p (names (slot_of pages p) q) refl),
        pages_only g (as_over (slot_of pages q)) 0 (suc (length pages)),
        ap as_over e,
      )
    where
      each : (p : Place) (n : Bool) → names (slot_of pages p) q ≡ n
          → (if n then as_over (slot_of pages q) else 0)
          ≤ (if same_place p g then as_over (slot_of pages q) else 0)
      each p true n = omega (
        arith,
        ap (λ (b : Bool). if b then as_over (slot_of pages q) else 0)
            (named_by (slot_of pages) p q g c b (slot_of pages p) e (tied p) n),
      )
      each p false n = omega arith
  links_to q Free e = none q Free e refl
  links_to q (Row c b) e = none q (Row c b) e refl
  links_to q (Pointer c o) e = none q (Pointer c o) e refl
  links_to q (DeadRow c t) e = none q (DeadRow c t) e refl
  links_to q (DeadPointer c o t) e = none q (DeadPointer c o t) e refl
  links_to q (DeadOver c p t) e = none q (DeadOver c p t) e refl

  own_claim : (slots : List Slot) (i : ℕ) → Holds (slot_at slots i)
      → as_row (slot_at slots i) + as_over (slot_at slots i) ≤ claim_at h slots i
  own_claim [] i c = omega arith
  own_claim (Free ∷ slots) zero c = omega arith
  own_claim (Row x y ∷ slots) zero c = omega arith
  own_claim (Pointer x y ∷ slots) zero c = omega arith
  own_claim (Over x y z ∷ slots) zero c = omega arith
  own_claim (DeadRow x y ∷ slots) zero c = omega arith
  own_claim (DeadPointer x y z ∷ slots) zero c = omega arith
  own_claim (DeadOver x y z ∷ slots) zero c = omega arith
  own_claim (s ∷ slots) (suc i) c = own_claim slots i c

  chain : (a b c d e f g i j : ℕ) → a ≤ b → b ≡ c + d → d ≤ e → e ≡ f → f ≤ g → i ≡ c + g
      → i ≤ 0 + j → a ≤ j
  chain a b c d e f g i j p q r s t u v = omega arith

  -- all home rows, each with 18 bytes, weigh no more than the pages claim
  pub rows_claim : rows_weight (slot_of pages) (pages_from 0 (suc (length pages)))
      ≤ claimed_all h pages
  rows_claim =
      let all : List Place = pages_from 0 (suc (length pages)) in
      let r : Place → ℕ = λ p. as_row (slot_of pages p) in
      let o : Place → ℕ = λ p. as_over (slot_of pages p) in
      let w : Place → ℕ = λ p. pointed_weight (slot_of pages) (slot_of pages p) in
      chain _ _ _ _ _ _ _ _ _
      (total-le all (λ p. weight (row_at (slot_of pages) p)) (λ p. r p + w p)
      (λ p. omega (arith, row_weight (slot_of pages) (slot_of pages p))))
      (total-plus all r w)
      (total-le all w (λ p. total all (link p)) (λ p. linked p (slot_of pages p) refl))
      (total-swap all all link)
      (total-le all (λ q. total all (λ p. link p q)) o (λ q. links_to q (slot_of pages q) refl))
      (total-plus all r o)
      (pages_claim h (λ p. r p + o p) 0 (suc (length pages)) ([] ∷ pages) bound)
    where
      bound : (j i : ℕ)
          → as_row (slot_of pages (record { page = 0 + j; slot = i }))
          + as_over (slot_of pages (record { page = 0 + j; slot = i }))
          ≤ claim_at h (page_at pages j) i
      bound j i =
          let n : 0 + j ≡ j = omega arith in
          omega (
            arith,
            own_claim (page_at pages j) i (contained (record { page = j; slot = i })),
            ap
                (λ (x : ℕ). as_row (slot_of pages (record { page = x; slot = i }))
                + as_over (slot_of pages (record { page = x; slot = i }))) n,
          )

-- the same of the pages from 1 on
pub all_rows_claim : (h : ℕ → Bool) (pages : List (List Slot)) → Proper pages
    → rows_weight (slot_of pages) (pages_from 1 (length pages)) ≤ claimed_all h pages
all_rows_claim h pages proper =
    let f : Place → ℕ = λ p. weight (row_at (slot_of pages) p) in
    omega (
      arith,
      total-append (places 0 0 225) (pages_from 1 (length pages)) f,
      rows_claim h pages proper.sound proper.tied proper.holds,
    )

-- a row changed at one home: the rows of some pages weigh at most its weight more

module _ (at after : Place → Slot) (home : Place) (row : Option TableRow)
    (changes : ChangesHome at after home row) where
  one_change : (p : Place) (b : Bool) → same_place p home ≡ b
      → weight (row_at after p) ≤ weight (row_at at p) + (if b then weight row else 0)
  one_change p true e = omega (
    arith,
    ap (λ (q : Place). weight (row_at after q)) (same_place-true p home e),
    ap (weight) changes.here,
  )
  one_change p false e = omega (arith, ap (weight) (changes.others p e))

  pub change_weight : (n k : ℕ)
      → rows_weight after (pages_from n k) ≤ rows_weight at (pages_from n k) + weight row
  change_weight n k =
      let ps : List Place = pages_from n k in
      omega (
        arith,
        total-le ps (λ p. weight (row_at after p))
            (λ p. weight (row_at at p) + only_at home (weight row) p)
            (λ p. one_change p (same_place p home) refl),
        total-plus ps (λ p. weight (row_at at p)) (only_at home (weight row)),
        pages_only home (weight row) n k,
      )

  -- a home on another page changes nothing here
  pub change_elsewhere : (n k : ℕ)
      → ((p : Place) → n ≤ p.page → p.page < n + k → same_place p home ≡ false)
      → rows_weight after (pages_from n k) ≤ rows_weight at (pages_from n k)
  change_elsewhere n k far = pages-le (λ p. weight (row_at after p)) (λ p. weight (row_at at p)) n k
      (λ p a b. omega (arith, ap (weight) (changes.others p (far p a b))))
