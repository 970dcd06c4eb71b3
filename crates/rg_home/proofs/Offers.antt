-- What a page offers once it is purged, slot by slot.
use Rattle.std.proofs.Common.{◌≡◌, ◌||◌, ℕ, ◌+◌, ◌≤◌, ◌<◌, zero, suc, Bool, true, false, not, List}
use Rattle.std.proofs.Common.{[], ◌∷◌, ◌++◌, map, take, length, get_or, refl, sym, ◌∙◌, ap}
use Rattle.std.proofs.Common.{if◌then◌else◌, cond, arith}
use Rattle.std.specs.List.{list_any, position_or_len}
use Rattle.std.proofs.lemmas.List.{take_more}
use Rattle.std.proofs.Math.Bool.{or-false, or-true}
use Rattle.rg_home.specs.Slot.{Slot}
use Rattle.rg_home.specs.Slot.{Free, Row, Pointer, Over, DeadRow, DeadPointer, DeadOver}
use Rattle.rg_home.specs.Slots.{slot_at, is_free, trim, capacity_of, used, cut, cost}
use Rattle.rg_home.proofs.Slots.{free_is, trim-free, trim-full, used-append}
use Rattle.rg_home.specs.Plan.{is_ended, swept, purged, first_free}
use Rattle.rg_home.specs.Pages.{page_at}

used-cut : (s : Slot) (r : List Slot) → used (cut s r) ≤ cost s + used r
used-cut Free [] = omega arith
used-cut Free (x ∷ r) = omega arith
used-cut (Row a b) r = omega arith
used-cut (Pointer a b) r = omega arith
used-cut (Over a b d) r = omega arith
used-cut (DeadRow a b) r = omega arith
used-cut (DeadPointer a b d) r = omega arith
used-cut (DeadOver a b d) r = omega arith

pub used-trim : (slots : List Slot) → used (trim slots) ≤ used slots
used-trim [] = omega arith
used-trim (s ∷ slots) = omega (arith, used-cut s (trim slots), used-trim slots)

pub capacity-swept : (live : List ℕ) (s : Slot) → capacity_of (swept live s) ≤ capacity_of s
capacity-swept live s = go (is_ended live s)
  where
    go : (b : Bool) → capacity_of (if b then Free else s) ≤ capacity_of s
    go true = omega arith
    go false = omega arith

pub used-taken : (live : List ℕ) (slots : List Slot) (i : ℕ)
    → used (map (swept live) (take i slots)) ≤ used slots
used-taken live [] zero = omega arith
used-taken live [] (suc i) = omega arith
used-taken live (s ∷ slots) zero = omega arith
used-taken live (s ∷ slots) (suc i) = omega (arith, capacity-swept live s, used-taken live slots i)

map-push : (live : List ℕ) (slots : List Slot) (x : Slot)
    → map (swept live) (slots ++ x ∷ []) ≡ map (swept live) slots ++ swept live x ∷ []
map-push live [] x = refl
map-push live (s ∷ slots) x = ap (λ (r : List Slot). swept live s ∷ r) (map-push live slots x)

any-push : (slots : List Slot) (x : Slot) (b : Bool) → is_free x ≡ b
    → list_any is_free (slots ++ x ∷ []) ≡ (list_any is_free slots || b)
any-push [] x true e = rw e refl
any-push [] x false e = rw e refl
any-push (s ∷ slots) x b e = go (is_free s) (any-push slots x b e)
  where
    go : (t : Bool) → list_any is_free (slots ++ x ∷ []) ≡ (list_any is_free slots || b)
        → (t || list_any is_free (slots ++ x ∷ [])) ≡ ((t || list_any is_free slots) || b)
    go true h = refl
    go false h = h

module _ (live : List ℕ) (page : List Slot) (i : ℕ) (x : Slot) (below : i < length page)
    (is : x ≡ slot_at page i) where
  taken : map (swept live) (take (i + 1) page) ≡ map (swept live) (take i page) ++ swept live x ∷ []
  taken = ap (map (swept live))
      (take_more page i Free below ∙ ap (λ (s : Slot). take i page ++ s ∷ []) (sym is))
      ∙ map-push live (take i page) x

  pub after_free : is_free (swept live x) ≡ true
      → (used (map (swept live) (take (i + 1) page)) ≡ used (map (swept live) (take i page)) + 18)
      × (used (purged live (take (i + 1) page)) ≡ used (purged live (take i page)))
      × (list_any is_free (map (swept live) (take (i + 1) page)) ≡ true)
      × (list_any is_free (purged live (take (i + 1) page))
      ≡ list_any is_free (purged live (take i page)))
  after_free f =
      let xs = map (swept live) (take i page) in
      let end : map (swept live) (take (i + 1) page) ≡ xs ++ Free ∷ [] =
      taken ∙ ap (λ (s : Slot). xs ++ s ∷ []) (free_is (swept live x) f) in
      let same : purged live (take (i + 1) page) ≡ purged live (take i page) =
      ap trim end ∙ trim-free xs in (
        omega (arith, ap used end, used-append xs (Free ∷ [])),
        ap used same,
        ap (list_any is_free) end ∙ any-push xs Free true refl ∙ or-true (list_any is_free xs),
        ap (list_any is_free) same,
      )

  pub after_full : is_free (swept live x) ≡ false
      → (used (map (swept live) (take (i + 1) page))
      ≡ used (map (swept live) (take i page)) + (18 + capacity_of x))
      × (used (purged live (take (i + 1) page))
      ≡ used (map (swept live) (take i page)) + (18 + capacity_of x))
      × (list_any is_free (map (swept live) (take (i + 1) page))
      ≡ list_any is_free (map (swept live) (take i page)))
      × (list_any is_free (purged live (take (i + 1) page))
      ≡ list_any is_free (map (swept live) (take i page)))
  after_full f =
      let xs = map (swept live) (take i page) in
      let end : map (swept live) (take (i + 1) page) ≡ xs ++ swept live x ∷ [] = taken in
      let same : purged live (take (i + 1) page) ≡ xs ++ swept live x ∷ [] =
      ap trim end ∙ trim-full xs (swept live x) f in
      let kept : swept live x ≡ x = stays (is_ended live x) f in
      let size = ap used (ap (λ (s : Slot). xs ++ s ∷ []) kept) in
      let any : list_any is_free (xs ++ swept live x ∷ []) ≡ list_any is_free xs =
      any-push xs (swept live x) false f ∙ or-false (list_any is_free xs) in (
        omega (arith, ap used end, size, used-append xs (x ∷ [])),
        omega (arith, ap used same, size, used-append xs (x ∷ [])),
        ap (list_any is_free) end ∙ any,
        ap (list_any is_free) same ∙ any,
      )
    where
      stays : (b : Bool) → is_free (if b then Free else x) ≡ false → (if b then Free else x) ≡ x
      stays true f = absurd (cc (f))
      stays false f = refl

pub page_at-next : (pages : List (List Slot)) (i : ℕ) → page_at pages (i + 1) ≡ get_or pages i []
page_at-next pages i = ap (page_at pages) (plus i)
  where
    plus : (i : ℕ) → i + 1 ≡ suc i
    plus i = omega arith

first_free-cut : (x : Slot) (r : List Slot) (m : ℕ) → first_free r ≡ m
    → first_free (cut x r) ≡ cond (not (is_free x)) (1 + m) 0
first_free-cut Free [] m e = refl
first_free-cut Free (y ∷ r) m e = refl
first_free-cut (Row a b) r m e = ap (λ (n : ℕ). 1 + n) e
first_free-cut (Pointer a b) r m e = ap (λ (n : ℕ). 1 + n) e
first_free-cut (Over a b d) r m e = ap (λ (n : ℕ). 1 + n) e
first_free-cut (DeadRow a b) r m e = ap (λ (n : ℕ). 1 + n) e
first_free-cut (DeadPointer a b d) r m e = ap (λ (n : ℕ). 1 + n) e
first_free-cut (DeadOver a b d) r m e = ap (λ (n : ℕ). 1 + n) e

-- the lowest Free slot of a purged page
pub first_free-purged : (live : List ℕ) (slots : List Slot)
    → first_free (purged live slots) ≡ position_or_len (λ s. is_free (swept live s)) slots
first_free-purged live [] = refl
first_free-purged live (s ∷ slots) =
    first_free-cut (swept live s) (trim (map (swept live) slots)) _ (first_free-purged live slots)
