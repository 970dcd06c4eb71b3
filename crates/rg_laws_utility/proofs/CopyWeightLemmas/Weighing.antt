-- Weights of rows, listed and on pages.
use Rattle.std.proofs.Common.{◌≡◌, ◌⊎◌, inl, inr, ◌≤◌, ◌<◌, ◌+◌, ◌++◌, ℕ, suc, nat_le, Bool, true}
use Rattle.std.proofs.Common.{false, List, [], ◌∷◌, Option, Some, None, refl, sym, ◌∙◌, ap, arith}
use Rattle.std.proofs.Common.{if◌then◌else◌}
use Rattle.std.specs.List.{sum_by}
use Rattle.std.specs.List.Sorted.{IsPermutation}
use Rattle.std.proofs.lemmas.Bool.{leb-false, leb-true}
use Rattle.std.proofs.lemmas.List.Sorted.{sum_by-IsPermutation}
use Rattle.std.proofs.lemmas.List.Sums.{sum_by-cons}
use Rattle.rg_base.specs.declared.place.Place.{Place}
use Rattle.rg_base.specs.declared.row.Row.{Row}
use Rattle.rg_laws_pages.specs.ByteClaims.Weight.{pages_from, places, total, weight}
use Rattle.rg_laws_pages.proofs.ByteClaimsLemmas.Total.{only_at, pages-le, pages_only, term}
use Rattle.rg_laws_pages.proofs.ByteClaimsLemmas.Total.{total-append, total-le, total-plus}
use Rattle.rg_feed.specs.Fold.Fed.{SetsRow}
use Rattle.rg_feed.specs.Fold.Fold.{row_in}
use Rattle.rg_feed.specs.Fold.Lawful.{AreRowsOf}
use Rattle.rg_base.specs.Place.{same_place}
use Rattle.rg_base.proofs.SamePlace.{apart, same_place-refl, same_place-sym, same_place-true}
use Rattle.rg_laws_utility.specs.CopyWeight.Weighed.{weigh_pages, weigh_rows}
use Rattle.rg_feed.specs.SentItems.Keeps.{Rows}

pub weigh_rows-append : (xs ys : List (Place × Row))
    → weigh_rows (xs ++ ys) ≡ weigh_rows xs + weigh_rows ys
weigh_rows-append [] ys = omega arith
weigh_rows-append (x ∷ xs) ys = omega (arith, weigh_rows-append xs ys)

-- in another order rows weigh the same

weigh_sum : (xs : List (Place × Row)) → sum_by (λ x. weight (Some x.1)) xs ≡ weigh_rows xs
weigh_sum [] = refl
weigh_sum (x ∷ xs) =
    sum_by-cons (λ x. weight (Some x.1)) x xs ∙ ap (λ n. weight (Some x.1) + n) (weigh_sum xs)

pub weigh_permuted : (xs ys : List (Place × Row)) → IsPermutation xs ys
    → weigh_rows ys ≡ weigh_rows xs
weigh_permuted xs ys permuted = omega (
  arith,
  sum_by-IsPermutation (λ x. weight (Some x.1)) xs ys permuted,
  weigh_sum xs,
  weigh_sum ys,
)

pub pages_same : (rows new : Rows) → ((place : Place) → new place ≡ rows place) → (n k : ℕ)
    → weigh_pages new n k ≤ weigh_pages rows n k
pages_same rows new same n k = total-le (pages_from n k) (λ p. weight (new p))
    (λ p. weight (rows p)) (λ p. omega (arith, ap weight (same p)))

-- the pages after the first
pub pages_split : (rows : Rows) (n k : ℕ)
    → weigh_pages rows n (suc k) ≡ weigh_pages rows n 1 + weigh_pages rows (n + 1) k
pages_split rows n k =
    let f : Place → ℕ = λ p. weight (rows p) in
    omega (
      arith,
      total-append (places n 0 225) (pages_from (n + 1) k) f,
      total-append (places n 0 225) [] f,
    )

-- the row of one place is set
module _ (rows new : Rows) (home : Place) (after : Option Row)
    (sets : SetsRow rows new home after) where
  one : (p : Place) (b : Bool) → same_place p home ≡ b
      → weight (new p) ≤ weight (rows p) + (if b then weight after else 0)
  one p true e = omega
      (arith, ap (λ (q : Place). weight (new q)) (same_place-true p home e), ap weight sets.here)
  one p false e = omega (arith, ap weight (sets.others p (same_place-sym p home e)))

  pub set_weighs : (n k : ℕ) → weigh_pages new n k ≤ weigh_pages rows n k + weight after
  set_weighs n k =
      let ps : List Place = pages_from n k in
      omega (
        arith,
        total-le ps (λ p. weight (new p)) (λ p. weight (rows p) + only_at home (weight after) p)
            (λ p. one p (same_place p home) refl),
        total-plus ps (λ p. weight (rows p)) (only_at home (weight after)),
        pages_only home (weight after) n k,
      )

  pub set_elsewhere : (n k : ℕ) → (home.page < n) ⊎ (n + k ≤ home.page)
      → weigh_pages new n k ≤ weigh_pages rows n k
  set_elsewhere n k far = pages-le (λ p. weight (new p)) (λ p. weight (rows p)) n k
      (λ p a b. omega (arith, ap weight (sets.others p (apart home p (differ p a b far)))))
    where
      differ : (p : Place) → n ≤ p.page → p.page < n + k → (home.page < n) ⊎ (n + k ≤ home.page)
          → home ≡ p → ⊥
      differ p a b (inl low) e = omega (arith, a, low, ap (λ (q : Place). q.page) e)
      differ p a b (inr high) e = omega (arith, b, high, ap (λ (q : Place). q.page) e)

-- the rows of a copy weigh no more than those of the page
module _ (page : ℕ) where
  own : (h : Place) (w : ℕ) → only_at h w h ≡ w
  own h w = ap (λ (b : Bool). if b then w else 0) (same_place-refl h)

  -- a place of the page that has fewer slots than a page may have
  counted : (h : Place) (w : ℕ) → h.page ≡ page → h.slot < 225
      → w ≤ total (pages_from page 1) (only_at h w)
  counted h w e low =
      let n : page + 0 ≡ h.page = omega (arith, e) in
      let same : only_at h w (record { page = page + 0; slot = h.slot }) ≡ only_at h w h =
      ap (λ (m : ℕ). only_at h w (record { page = m; slot = h.slot })) n in
      omega (arith, term (only_at h w) page 1 0 h.slot (omega arith) low, same, own h w)

  first_is : (x : Place × Row) (xs : List (Place × Row)) → row_in (x ∷ xs) x.0 ≡ Some x.1
  first_is x xs = ap (λ (b : Bool). if b then Some x.1 else row_in xs x.0) (same_place-refl x.0)

  slot_low : (x : Place × Row) (xs : List (Place × Row))
      → (225 ≤ x.0.slot → row_in (x ∷ xs) x.0 ≡ None) → x.0.slot < 225
  slot_low x xs none = go (nat_le 225 x.0.slot) refl
    where
      go : (b : Bool) → nat_le 225 x.0.slot ≡ b → x.0.slot < 225
      go true e = absurd (cc (first_is x xs, none (leb-true 225 x.0.slot e)))
      go false e = omega (arith, leb-false 225 x.0.slot e)

  chain : (a w b c d e : ℕ) → a ≤ b → c ≡ b + d → c ≤ e → w ≤ d → w + a ≤ e
  chain a w b c d e p q r s = omega arith

  listed : (xs : List (Place × Row)) → AreRowsOf page xs
      → ((p : Place) → p.page ≡ page → 225 ≤ p.slot → row_in xs p ≡ None)
      → weigh_rows xs ≤ weigh_pages (row_in xs) page 1
  listed [] are none = omega arith
  listed (x ∷ xs) are none =
      let ps : List Place = pages_from page 1 in
      let w : ℕ = weight (Some x.1) in
      chain (weigh_rows xs) w _ _ _ _
      (listed xs are.2 (λ p e l. rest p e l (same_place x.0 p) refl))
      (total-plus ps (λ p. weight (row_in xs p)) (only_at x.0 w))
      (total-le ps (λ p. weight (row_in xs p) + only_at x.0 w p) (λ p. weight (row_in (x ∷ xs) p))
      (λ p. each p (same_place p x.0) refl))
      (counted x.0 w are.0 (slot_low x xs (λ l. none x.0 are.0 l)))
    where
      rest : (p : Place) → p.page ≡ page → 225 ≤ p.slot → (b : Bool) → same_place x.0 p ≡ b
          → row_in xs p ≡ None
      rest p e l true is = ap (row_in xs) (sym (same_place-true x.0 p is)) ∙ are.1
      rest p e l false is =
          sym (ap (λ (b : Bool). if b then Some x.1 else row_in xs p) is) ∙ none p e l

      each : (p : Place) (b : Bool) → same_place p x.0 ≡ b
          → weight (row_in xs p) + (if b then weight (Some x.1) else 0) ≤ weight (row_in (x ∷ xs) p)
      each p true e =
          let is : p ≡ x.0 = same_place-true p x.0 e in
          omega (
            arith,
            ap (λ (q : Place). weight (row_in xs q)) is,
            ap weight are.1,
            ap (λ (q : Place). weight (row_in (x ∷ xs) q)) is,
            ap weight (first_is x xs),
          )
      each p false e = omega (
        arith,
        ap weight (ap (λ (b : Bool). if b then Some x.1 else row_in xs p) (same_place-sym p x.0 e)),
      )

  pub copy_weighs : (rows : Rows) (xs : List (Place × Row)) → AreRowsOf page xs
      → ((place : Place) → place.page ≡ page → row_in xs place ≡ rows place)
      → ((place : Place) → place.page ≡ page → 225 ≤ place.slot → rows place ≡ None)
      → weigh_rows xs ≤ weigh_pages rows page 1
  copy_weighs rows xs are same none =
      omega (
        arith,
        listed xs are (λ p e l. same p e ∙ none p e l),
        pages-le (λ p. weight (row_in xs p)) (λ p. weight (rows p)) page 1
            (λ p a b. omega (arith, ap weight (same p (omega (arith, a, b))))),
      )
