-- The first entry that is not before another one.
use Rattle.std.proofs.Common.{◌≡◌, ◌-◌, ◌<◌, zero, suc, ℕ, Bool, true, false, cond, not, find}
use Rattle.std.proofs.Common.{slice_get, List, [], ◌∷◌, ◌++◌, length, take, drop, Option, Some}
use Rattle.std.proofs.Common.{None, refl, sym, ◌∙◌, ap, arith}
use Rattle.std.proofs.lemmas.List.Folds.{find-append}
use Rattle.std.specs.Option.{option_or}
use Rattle.rg_base.specs.declared.place.Place.{Place}
use Rattle.rg_base.proofs.Each.{Each-map}
use Rattle.rg_model.specs.Layout.{is_entry_before}
use Rattle.std.specs.List.{AllByRecursion}
use Rattle.rg_index.specs.Split.{IsCutBy}
use Rattle.rg_index.proofs.Order.{before_asym}
use Rattle.rg_bulk.specs.Branch.{Branch, first_of, joined}
use Rattle.rg_bulk.proofs.Levels.{joined-append}
use Rattle.rg_btree.specs.Child.{firsts}
use Rattle.rg_btree.proofs.Below.{IsBelow}
use Rattle.rg_btree.proofs.Kids.{HasEntry, kids_have_entries}

-- not before e
abbrev pub is_from : ℕ × Place → ℕ × Place → Bool
is_from e x = not (is_entry_before x e)

find_none : (p : ℕ × Place → Bool) (xs : List (ℕ × Place)) → AllByRecursion (λ x. p x ≡ false) xs
    → find p xs ≡ None
find_none p [] each = refl
find_none p (x ∷ xs) each = (λ i. cond (each.0 i) (Some x) (find p xs)) ∙ find_none p xs each.1

-- where a search cuts a list
pub find_cut : (e : ℕ × Place) (es : List (ℕ × Place)) (n : ℕ)
    → IsCutBy (λ x. is_entry_before x e) es n → find (is_from e) es ≡ slice_get es n
find_cut e [] n cut = refl
find_cut e (x ∷ es) zero cut = λ i. cond (not (cut.2.0 i)) (Some x) (find (is_from e) es)
find_cut e (x ∷ es) (suc n) cut = (λ i. cond (not (cut.1.0 i)) (Some x) (find (is_from e) es))
    ∙ find_cut e es n (omega (arith, cut.0), cut.1.1, cut.2)

-- the first of children that all pass
next_first : (p : ℕ × Place → Bool) (kids : List Branch) (n : ℕ) → AllByRecursion HasEntry kids
    → AllByRecursion (λ y. p y ≡ true) (joined (drop n kids))
    → find p (joined (drop n kids)) ≡ slice_get (firsts kids) n
next_first p [] zero some each = refl
next_first p [] (suc n) some each = refl
next_first p (kid ∷ kids) zero some each = go kid.entries some.0 each
  where
    go : (es : List (ℕ × Place)) → 0 < length es
        → AllByRecursion (λ y. p y ≡ true) (es ++ joined kids)
        → find p (es ++ joined kids) ≡ Some (first_of es)
    go [] lt each = absurd (omega arith)
    go (x ∷ es) lt each = λ i. cond (each.0 i) (Some x) (find p (es ++ joined kids))
next_first p (kid ∷ kids) (suc n) some each = next_first p kids n some.1 each

module _ (e : ℕ × Place) (h : ℕ) (kids : List Branch) (i : ℕ) (d shown : Branch)
    (at : IsBelow e h kids i d shown) where
  -- those of the child, or else the first of the next one
  parts : find (is_from e) shown.entries
      ≡ option_or (find (is_from e) d.entries) (slice_get (firsts kids) (suc i))
  parts =
      let front = joined (take i kids) in
      let back = joined (drop (suc i) kids) in
      let whole : shown.entries ≡ front ++ (d.entries ++ back) =
      sym at.all ∙ ap joined at.cut ∙ joined-append (take i kids) (d ∷ drop (suc i) kids) in
      ap (find (is_from e)) whole
      ∙ find-append (is_from e) front (d.entries ++ back)
      ∙ ap (λ (o : Option (ℕ × Place)). option_or o (find (is_from e) (d.entries ++ back)))
      (find_none (is_from e) front
      (Each-map (λ x. is_entry_before x e ≡ true) (λ x. is_from e x ≡ false)
      (λ x before. ap not before) front at.between.early))
      ∙ find-append (is_from e) d.entries back
      ∙ ap (option_or (find (is_from e) d.entries))
      (next_first (is_from e) kids (suc i) (kids_have_entries (h - 1) kids at.each)
      (Each-map (λ y. is_entry_before e y ≡ true) (λ y. is_from e y ≡ true)
      (λ y before. ap not (before_asym e y before)) back at.between.late))

  pub found_below : (x : ℕ × Place) → Some x ≡ find (is_from e) d.entries
      → Some x ≡ find (is_from e) shown.entries
  found_below x is = sym
      (parts
      ∙ ap (λ (o : Option (ℕ × Place)). option_or o (slice_get (firsts kids) (suc i))) (sym is))

  pub found_next : (o : Option (ℕ × Place)) → None ≡ find (is_from e) d.entries
      → o ≡ slice_get (firsts kids) (suc i) → o ≡ find (is_from e) shown.entries
  found_next o none is = is
      ∙ sym
      (parts
      ∙ ap (λ (o : Option (ℕ × Place)). option_or o (slice_get (firsts kids) (suc i))) (sym none))
