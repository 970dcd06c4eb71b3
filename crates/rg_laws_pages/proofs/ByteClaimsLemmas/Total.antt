-- Sums over places.
use Rattle.std.proofs.Common.{◌≡◌, ℕ, ◌+◌, ◌<◌, ◌≤◌, ◌⊎◌, inl, inr, Bool, true, false, zero, suc}
use Rattle.std.proofs.Common.{List, [], ◌∷◌, ◌++◌, get_or, refl, sym, ap, if◌then◌else◌, arith}
use Rattle.std.proofs.lemmas.Bool.{cases_eq}
use Rattle.rg_home.specs.Slot.{Slot}
use Rattle.rg_base.specs.declared.place.Place.{Place}
use Rattle.rg_base.proofs.Small.{plus_suc}
use Rattle.rg_base.specs.Place.{same_place}
use Rattle.rg_base.proofs.SamePlace.{same_place-true}
use Rattle.rg_laws_pages.specs.ByteClaims.Claim.{claim_of, claimed, claimed_all}
use Rattle.rg_laws_pages.specs.ByteClaims.Weight.{places, pages_from, total}

pub total-append : (a b : List Place) (f : Place → ℕ) → total (a ++ b) f ≡ total a f + total b f
total-append [] b f = omega arith
total-append (p ∷ a) b f = omega (arith, total-append a b f)

pub total-le : (ps : List Place) (f g : Place → ℕ) → ((p : Place) → f p ≤ g p)
    → total ps f ≤ total ps g
total-le [] f g h = omega arith
total-le (p ∷ ps) f g h = omega (arith, h p, total-le ps f g h)

pub total-plus : (ps : List Place) (f g : Place → ℕ)
    → total ps (λ p. f p + g p) ≡ total ps f + total ps g
total-plus [] f g = omega arith
total-plus (p ∷ ps) f g = omega (arith, total-plus ps f g)

pub total-none : (ps : List Place) → total ps (λ p. 0) ≡ 0
total-none [] = omega arith
total-none (p ∷ ps) = omega (arith, total-none ps)

-- the order of two sums
pub total-swap : (ps qs : List Place) (g : Place → Place → ℕ)
    → total ps (λ p. total qs (g p)) ≡ total qs (λ q. total ps (λ p. g p q))
total-swap [] qs g = sym (total-none qs)
total-swap (p ∷ ps) qs g =
    omega (arith, total-swap ps qs g, total-plus qs (g p) (λ q. total ps (λ p. g p q)))

-- one of the places

term_row : (f : Place → ℕ) (n i m j : ℕ) → j < m
    → f (record { page = n; slot = i + j }) ≤ total (places n i m) f
term_row f n i zero j h = absurd (omega arith)
term_row f n i (suc m) zero h =
    omega (arith, ap (λ (k : ℕ). f (record { page = n; slot = k })) (nought i))
  where
    nought : (i : ℕ) → i + 0 ≡ i
    nought i = omega arith
term_row f n i (suc m) (suc j) h = omega (
  arith,
  ap (λ (k : ℕ). f (record { page = n; slot = k })) (plus_suc i j),
  term_row f n (i + 1) m j (omega arith),
)

pub term : (f : Place → ℕ) (n k j i : ℕ) → j < k → i < 225
    → f (record { page = n + j; slot = i }) ≤ total (pages_from n k) f
term f n zero j i h l = absurd (omega arith)
term f n (suc k) zero i h l =
    omega (
      arith,
      total-append (places n 0 225) (pages_from (n + 1) k) f,
      term_row f n 0 225 i l,
      ap (λ (x : ℕ). f (record { page = x; slot = i })) (nought n),
      ap (λ (x : ℕ). f (record { page = n; slot = x })) (start i),
    )
  where
    nought : (n : ℕ) → n + 0 ≡ n
    nought n = omega arith

    start : (i : ℕ) → 0 + i ≡ i
    start i = omega arith
term f n (suc k) (suc j) i h l =
    omega (
      arith,
      total-append (places n 0 225) (pages_from (n + 1) k) f,
      term f (n + 1) k j i (omega arith) l,
      ap (λ (x : ℕ). f (record { page = x; slot = i })) (plus_suc n j),
    )

-- bounds on the places of some pages alone

row-le : (f g : Place → ℕ) (n i m : ℕ)
    → ((k : ℕ) → f (record { page = n; slot = k }) ≤ g (record { page = n; slot = k }))
    → total (places n i m) f ≤ total (places n i m) g
row-le f g n i zero h = omega arith
row-le f g n i (suc m) h = omega (arith, h i, row-le f g n (i + 1) m h)

pub pages-le : (f g : Place → ℕ) (n k : ℕ) → ((p : Place) → n ≤ p.page → p.page < n + k → f p ≤ g p)
    → total (pages_from n k) f ≤ total (pages_from n k) g
pages-le f g n zero h = omega arith
pages-le f g n (suc k) h =
    omega (
      arith,
      total-append (places n 0 225) (pages_from (n + 1) k) f,
      total-append (places n 0 225) (pages_from (n + 1) k) g,
      row-le f g n 0 225 (λ i. h (record { page = n; slot = i }) (omega arith) (omega arith)),
      pages-le f g (n + 1) k (λ p a b. h p (omega arith) (omega arith)),
    )

-- a number at one place alone

module _ (h : Place) (x : ℕ) where
  abbrev pub only_at : Place → ℕ
  only_at p = if same_place p h then x else 0

  off_zero : (p : Place) (b : Bool) → same_place p h ≡ b → (p ≡ h → ⊥) → (if b then x else 0) ≡ 0
  off_zero p true e n = absurd (n (same_place-true p h e))
  off_zero p false e n = refl

  row_after : (n i m : ℕ) → (h.page ≡ n → h.slot < i) → total (places n i m) only_at ≡ 0
  row_after n i zero l = refl
  row_after n i (suc m) l =
      let p : Place = record { page = n; slot = i } in
      omega (
        arith,
        off_zero p (same_place p h) refl
            (λ e. diff (ap (λ (q : Place). q.page) e) (ap (λ (q : Place). q.slot) e)),
        row_after n (i + 1) m (λ e. omega (arith, l e)),
      )
    where
      diff : n ≡ h.page → i ≡ h.slot → ⊥
      diff a b = omega (arith, l (sym a))

  row_only : (n i m : ℕ) → total (places n i m) only_at ≤ x
  row_only n i zero = omega arith
  row_only n i (suc m) =
      go (same_place (record { page = n; slot = i }) h) refl (row_only n (i + 1) m)
    where
      go : (b : Bool) → same_place (record { page = n; slot = i }) h ≡ b
          → total (places n (i + 1) m) only_at ≤ x
          → (if b then x else 0) + total (places n (i + 1) m) only_at ≤ x
      go true e r = omega (
        arith,
        row_after n (i + 1) m
            (λ _. omega (
              arith,
              ap (λ (q : Place). q.slot) (same_place-true (record { page = n; slot = i }) h e),
            )),
      )
      go false e r = omega (arith, r)

  pages_after : (n k : ℕ) → h.page < n → total (pages_from n k) only_at ≡ 0
  pages_after n zero l = refl
  pages_after n (suc k) l = omega (
    arith,
    total-append (places n 0 225) (pages_from (n + 1) k) only_at,
    row_after n 0 225 (λ e. absurd (omega arith)),
    pages_after (n + 1) k (omega arith),
  )

  pub pages_only : (n k : ℕ) → total (pages_from n k) only_at ≤ x
  pages_only n zero = omega arith
  pages_only n (suc k) = go (cases_eq h.page n) (pages_only (n + 1) k)
    where
      go : (h.page ≡ n) ⊎ (h.page ≡ n → ⊥) → total (pages_from (n + 1) k) only_at ≤ x
          → total (pages_from n (suc k)) only_at ≤ x
      go (inl e) r = omega (
        arith,
        total-append (places n 0 225) (pages_from (n + 1) k) only_at,
        row_only n 0 225,
        pages_after (n + 1) k (omega arith),
      )
      go (inr d) r = omega (
        arith,
        total-append (places n 0 225) (pages_from (n + 1) k) only_at,
        row_after n 0 225 (λ e. absurd (d e)),
        r,
      )

-- a sum over the slots of pages that each slot's claim bounds

module _ (h : ℕ → Bool) where
  abbrev pub claim_at : List Slot → ℕ → ℕ
  claim_at [] k = 0
  claim_at (s ∷ slots) zero = 18 + claim_of h s
  claim_at (s ∷ slots) (suc k) = claim_at slots k

  row_claims : (f : Place → ℕ) (n i m : ℕ) (slots : List Slot)
      → ((k : ℕ) → f (record { page = n; slot = i + k }) ≤ claim_at slots k)
      → total (places n i m) f ≤ claimed h slots
  row_claims f n i zero slots b = omega arith
  row_claims f n i (suc m) [] b = omega (
    arith,
    b zero,
    ap (λ (k : ℕ). f (record { page = n; slot = k })) (nought i),
    row_claims f n (i + 1) m []
        (λ k.
        omega (arith, b (suc k), ap (λ (j : ℕ). f (record { page = n; slot = j })) (plus_suc i k))),
  )
    where
      nought : (i : ℕ) → i + 0 ≡ i
      nought i = omega arith
  row_claims f n i (suc m) (s ∷ slots) b = omega (
    arith,
    b zero,
    ap (λ (k : ℕ). f (record { page = n; slot = k })) (nought i),
    row_claims f n (i + 1) m slots
        (λ k.
        omega (arith, b (suc k), ap (λ (j : ℕ). f (record { page = n; slot = j })) (plus_suc i k))),
  )
    where
      nought : (i : ℕ) → i + 0 ≡ i
      nought i = omega arith

  pub pages_claim : (f : Place → ℕ) (n k : ℕ) (pages : List (List Slot))
      → ((j i : ℕ) → f (record { page = n + j; slot = i }) ≤ claim_at (get_or pages j []) i)
      → total (pages_from n k) f ≤ claimed_all h pages
  pages_claim f n zero pages b = omega arith
  pages_claim f n (suc k) [] b =
      omega (
        arith,
        total-append (places n 0 225) (pages_from (n + 1) k) f,
        row_claims f n 0 225 []
            (λ i. omega (
              arith,
              b zero i,
              ap (λ (x : ℕ). f (record { page = x; slot = i })) (nought n),
              ap (λ (x : ℕ). f (record { page = n; slot = x })) (start i),
            )),
        pages_claim f (n + 1) k []
            (λ j i. omega
            (arith, b (suc j) i, ap (λ (x : ℕ). f (record { page = x; slot = i })) (plus_suc n j))),
      )
    where
      nought : (n : ℕ) → n + 0 ≡ n
      nought n = omega arith

      start : (i : ℕ) → 0 + i ≡ i
      start i = omega arith
  pages_claim f n (suc k) (p ∷ pages) b =
      omega (
        arith,
        total-append (places n 0 225) (pages_from (n + 1) k) f,
        row_claims f n 0 225 p
            (λ i. omega (
              arith,
              b zero i,
              ap (λ (x : ℕ). f (record { page = x; slot = i })) (nought n),
              ap (λ (x : ℕ). f (record { page = n; slot = x })) (start i),
            )),
        pages_claim f (n + 1) k pages
            (λ j i. omega
            (arith, b (suc j) i, ap (λ (x : ℕ). f (record { page = x; slot = i })) (plus_suc n j))),
      )
    where
      nought : (n : ℕ) → n + 0 ≡ n
      nought n = omega arith

      start : (i : ℕ) → 0 + i ≡ i
      start i = omega arith
