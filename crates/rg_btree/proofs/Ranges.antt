-- Which children may have entries of a range.
use Rattle.std.proofs.Common.{◌≡◌, ◌+◌, ◌-◌, ◌<◌, ◌≤◌, zero, suc, ℕ, true, false, List, []}
use Rattle.std.proofs.Common.{◌∷◌, ◌++◌, length, take, drop, get_or, refl, sym, ◌∙◌, ap, subst, inl}
use Rattle.std.proofs.Common.{inr, arith}
use Rattle.std.specs.Prelude.{nat_le}
use Rattle.std.proofs.lemmas.Bool.{and_right, cases_Bool}
use Rattle.std.proofs.lemmas.List.{take-append-drop, drop-drop, append-nil, length-map}
use Rattle.std.proofs.lemmas.List.Elements.{filter-append}
use Rattle.std.proofs.Math.Seq.{split_at}
use Rattle.rg_base.specs.declared.place.Place.{Place}
use Rattle.rg_base.proofs.Each.{Each-map, Each-drop, Each-at}
use Rattle.rg_model.specs.Layout.{is_entry_before}
use Rattle.std.specs.List.{AllByRecursion}
use Rattle.rg_index.specs.Entries.{IsRising, is_within, entries_within}
use Rattle.rg_index.specs.Split.{IsCutBy}
use Rattle.rg_index.proofs.Lists.{filter_none, rising_left, rising_right}
use Rattle.rg_index.proofs.Order.{down_below, down_up_to}
use Rattle.rg_index.proofs.Found.{low_fails}
use Rattle.rg_bulk.specs.Branch.{Branch, first_of, joined}
use Rattle.rg_bulk.proofs.Levels.{joined-append}
use Rattle.rg_btree.specs.Child.{firsts}
use Rattle.rg_btree.proofs.Chosen.{before_first, first_at, zero_entry}
use Rattle.rg_btree.proofs.Kids.{HasEntry, firsts-drop}

still_above : (hi : ℕ) (a b : ℕ × Place) → is_entry_before a b ≡ true → nat_le a.0 hi ≡ false
    → nat_le b.0 hi ≡ false
still_above hi a b p q =
    elim (cases_Bool (nat_le b.0 hi)) [
      | inl yes' ↦ absurd (cc (down_up_to hi a b p yes', q))
      | inr no' ↦ no'
    ]

-- what holds of a list's first entry, and goes over to what is behind it, holds of all
all_from_first : (P : ℕ × Place → Type 0)
    → ((a b : ℕ × Place) → is_entry_before a b ≡ true → P a → P b) → (es ys : List (ℕ × Place))
    → 0 < length es → IsRising (es ++ ys) → P (first_of es) → AllByRecursion P (es ++ ys)
all_from_first P on [] ys some rising first = absurd (omega arith)
all_from_first P on (f ∷ es) ys some rising first = (
  first,
  Each-map (λ later. is_entry_before f later ≡ true) P (λ y p. on f y p first) (es ++ ys) rising.0,
)

joined_from_first : (P : ℕ × Place → Type 0)
    → ((a b : ℕ × Place) → is_entry_before a b ≡ true → P a → P b) → (kids : List Branch)
    → AllByRecursion HasEntry kids → IsRising (joined kids) → AllByRecursion P (firsts kids)
    → AllByRecursion P (joined kids)
joined_from_first P on [] some rising each = tt
joined_from_first P on (kid ∷ kids) some rising each =
    all_from_first P on kid.entries (joined kids) some.0 rising each.0

rising_from : (n : ℕ) (kids : List Branch) → IsRising (joined kids)
    → IsRising (joined (drop n kids))
rising_from n kids rising =
    rising_right (joined (take n kids)) (joined (drop n kids))
    (subst IsRising (joined-append (take n kids) (drop n kids))
    (subst (λ ks. IsRising (joined ks)) (sym (take-append-drop n kids)) rising))

-- the children behind the range
late_none : (lo hi : ℕ) (kids : List Branch) (end n : ℕ) → AllByRecursion HasEntry kids
    → IsRising (joined kids) → IsCutBy (λ e. nat_le e.0 hi) (firsts kids) end → end ≤ n
    → entries_within lo hi (joined (drop n kids)) ≡ []
late_none lo hi kids end n some rising cut le =
    let e : end + (n - end) ≡ n = omega arith in
    let keys : AllByRecursion (λ key. nat_le key.0 hi ≡ false) (firsts (drop n kids)) =
    subst (AllByRecursion (λ key. nat_le key.0 hi ≡ false))
    (drop-drop (n - end) end (firsts kids) ∙ ap (λ m. drop m (firsts kids)) e ∙ firsts-drop n kids)
    (Each-drop (λ key. nat_le key.0 hi ≡ false) (n - end) (drop end (firsts kids)) cut.2) in
    filter_none (is_within lo hi) (joined (drop n kids))
    (Each-map (λ y. nat_le y.0 hi ≡ false) (λ y. is_within lo hi y ≡ false)
    (λ y p. and_right (nat_le lo y.0) (nat_le y.0 hi) p) (joined (drop n kids))
    (joined_from_first (λ y. nat_le y.0 hi ≡ false) (still_above hi) (drop n kids)
    (Each-drop HasEntry n kids some) (rising_from n kids rising) keys))

-- the children before the one that may have the first entry of the range
early_none : (lo hi : ℕ) (kids : List Branch) (from first : ℕ) → AllByRecursion HasEntry kids
    → IsRising (joined kids) → IsCutBy (λ e. nat_le (e.0 + 1) lo) (firsts kids) from
    → (0 < first → first < from) → entries_within lo hi (joined (take first kids)) ≡ []
early_none lo hi kids from zero some rising cut before = refl
early_none lo hi kids from (suc i) some rising cut before =
    let low : suc i < length (firsts kids) = omega (arith, before (omega arith), cut.0) in
    let at : suc i < length kids = omega (arith, length-map kids (λ kid. first_of kid.entries)) in
    let d : Branch = record { entries = []; height = 0; fill = 0; nodes = 0; inners = 0 } in
    let key = at_cut (firsts kids) (suc i) from low (before (omega arith)) cut.1 in
    let below : nat_le ((first_of (get_or kids (suc i) d).entries).0 + 1) lo ≡ true =
    subst (λ e. nat_le (e.0 + 1) lo ≡ true) (first_at kids (suc i) d at) key in
    let parts = subst (λ ks. IsRising (joined ks)) (split_at kids (suc i) d at) rising in
    let whole = subst IsRising
    (joined-append (take (suc i) kids) (get_or kids (suc i) d ∷ drop (suc (suc i)) kids)) parts in
    filter_none (is_within lo hi) (joined (take (suc i) kids))
    (Each-map (λ x. is_entry_before x (first_of (get_or kids (suc i) d).entries) ≡ true)
    (λ x. is_within lo hi x ≡ false)
    (λ x p. low_fails lo hi x.0
    (down_below lo x (first_of (get_or kids (suc i) d).entries) p below))
    (joined (take (suc i) kids))
    (before_first (joined (take (suc i) kids)) (get_or kids (suc i) d).entries
    (joined (drop (suc (suc i)) kids)) (Each-at HasEntry kids (suc i) d at some) whole))
  where
    at_cut : (keys : List (ℕ × Place)) (k n : ℕ) → k < length keys → k < n
        → AllByRecursion (λ e. nat_le (e.0 + 1) lo ≡ true) (take n keys)
        → nat_le ((get_or keys k zero_entry).0 + 1) lo ≡ true
    at_cut [] k n lt le each = absurd (omega arith)
    at_cut (key ∷ keys) k zero lt le each = absurd (omega arith)
    at_cut (key ∷ keys) zero (suc n) lt le each = each.0
    at_cut (key ∷ keys) (suc k) (suc n) lt le each =
        at_cut keys k n (omega arith) (omega arith) each.1

within-append : (lo hi : ℕ) (xs ys : List (ℕ × Place))
    → entries_within lo hi (xs ++ ys) ≡ entries_within lo hi xs ++ entries_within lo hi ys
within-append lo hi xs ys = filter-append (is_within lo hi) xs ys

-- the entries of a range are those of the children between
pub within_kids : (lo hi : ℕ) (kids : List Branch) (from end first : ℕ)
    → AllByRecursion HasEntry kids
    → IsRising (joined kids) → IsCutBy (λ e. nat_le (e.0 + 1) lo) (firsts kids) from
    → IsCutBy (λ e. nat_le e.0 hi) (firsts kids) end → (0 < first → first < from)
    → entries_within lo hi (joined kids)
    ≡ entries_within lo hi (joined (take (end - first) (drop first kids)))
within_kids lo hi kids from end first some rising low high before =
    let n = end - first in
    ap (λ ks. entries_within lo hi (joined ks)) (sym (take-append-drop first kids))
    ∙ ap (entries_within lo hi) (joined-append (take first kids) (drop first kids))
    ∙ within-append lo hi (joined (take first kids)) (joined (drop first kids))
    ∙ ap (λ es. es ++ entries_within lo hi (joined (drop first kids)))
    (early_none lo hi kids from first some rising low before)
    ∙ ap (λ ks. entries_within lo hi (joined ks)) (sym (take-append-drop n (drop first kids)))
    ∙ ap (entries_within lo hi)
    (joined-append (take n (drop first kids)) (drop n (drop first kids)))
    ∙ within-append lo hi (joined (take n (drop first kids))) (joined (drop n (drop first kids)))
    ∙ ap (λ es. entries_within lo hi (joined (take n (drop first kids))) ++ es)
    (ap (λ ks. entries_within lo hi (joined ks)) (drop-drop n first kids)
    ∙ late_none lo hi kids end (first + n) some rising high (omega arith))
    ∙ append-nil (entries_within lo hi (joined (take n (drop first kids))))

-- a child among some of the children
pub kid_rises : (kids : List Branch) (i : ℕ) (d : Branch) → i < length kids → IsRising (joined kids)
    → IsRising (get_or kids i d).entries
kid_rises kids i d low rising =
    let parts = subst IsRising (joined-append (take i kids) (get_or kids i d ∷ drop (suc i) kids))
    (subst (λ ks. IsRising (joined ks)) (split_at kids i d low) rising) in
    rising_left (get_or kids i d).entries (joined (drop (suc i) kids))
    (rising_right (joined (take i kids)) (joined (get_or kids i d ∷ drop (suc i) kids)) parts)

pub rising_some : (first n : ℕ) (kids : List Branch) → IsRising (joined kids)
    → IsRising (joined (take n (drop first kids)))
rising_some first n kids rising =
    rising_left (joined (take n (drop first kids))) (joined (drop n (drop first kids)))
    (subst IsRising (joined-append (take n (drop first kids)) (drop n (drop first kids)))
    (subst (λ ks. IsRising (joined ks)) (sym (take-append-drop n (drop first kids)))
    (rising_from first kids rising)))
