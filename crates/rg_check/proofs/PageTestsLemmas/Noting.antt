-- The keys of home rows are noted, and the stored rows are compared with them.
use Rattle.std.proofs.Common.{◌≡◌, ◌<◌, inl, inr, ℕ, ◌+◌, cond, Bool, true, false, List, Option}
use Rattle.std.proofs.Common.{Some, None, refl, sym, ◌∙◌, ap, subst, arith}
use Rattle.std.specs.FinMap as map
use Rattle.std.specs.FinMap.{get-insert}
use Rattle.std.specs.Option.{is_some}
use Rattle.std.specs.Ordering.{eq_by_cmp, nat_cmp}
use Rattle.std.proofs.lemmas.Bool.{cases_lt}
use Rattle.std.proofs.lemmas.Cmp.{nat_cmp_total}
use Rattle.std.proofs.lemmas.Option.{same_Some}
use Rattle.rg_base.specs.First.{IsFirstFrom}
use Rattle.rg_base.specs.declared.place.Place.{Place}
use Rattle.rg_base.specs.declared.row.Row.{Row as TableRow}
use Rattle.rg_base.proofs.Small.{cmp_same, cmp_one}
use Rattle.rg_home.specs.Pages.{slot_of}
use Rattle.rg_home.specs.Rows.{home_row, row_at}
use Rattle.rg_home.specs.Slot.{Slot}
use Rattle.rg_home.specs.Slot.{Free}
use Rattle.rg_check.specs.PageTests.Keys.{Notes, noted}
use Rattle.rg_check.specs.PageTests.Places.{Says}
use Rattle.rg_check.specs.PageTests.StoredRows.{AllHaveHomes, AreNoted, AreSound, IsIn, IsNoted}
use Rattle.rg_check.specs.PageTests.StoredRows.{IsStoredAt, SomeHasNone, StoredRows}
use Rattle.rg_check.proofs.PageTestsLemmas.Says.{none_some, says_both}

-- ---- one place is noted

module _ (homes : Place → Option TableRow) (p : Place) (before : Notes) where
  get_noted : (row : TableRow) (k : ℕ)
      → map.get (map.insert before row.key p) k
      ≡ cond (eq_by_cmp nat_cmp k row.key) (Some p) (map.get before k)
  get_noted row k = get-insert nat_cmp_total before row.key p k

  noted_grows : (o : Option TableRow) (k : ℕ) → IsIn before k → IsIn (noted before p o) k
  noted_grows None k h = h
  noted_grows (Some row) k h =
      λ none. go (eq_by_cmp nat_cmp k row.key) (sym (get_noted row k) ∙ none)
    where
      go : (t : Bool) → cond t (Some p) (map.get before k) ≡ None → ⊥
      go true e = none_some p (sym e)
      go false e = h e

  noted_sound : (o : Option TableRow) → homes p ≡ o → AreSound homes before
      → AreSound homes (noted before p o)
  noted_sound None is h = h
  noted_sound (Some row) is h =
      λ k q at. go k q (eq_by_cmp nat_cmp k row.key) refl (sym (get_noted row k) ∙ at)
    where
      go : (k : ℕ) (q : Place) (t : Bool) → eq_by_cmp nat_cmp k row.key ≡ t
          → cond t (Some p) (map.get before k) ≡ Some q
          → (r : TableRow) × (homes q ≡ Some r) × (r.key ≡ k)
      go k q true t e = (row, ap homes (sym (same_Some p q e)) ∙ is, sym (cmp_one k row.key t))
      go k q false t e = h k q e

  noted_here : (o : Option TableRow) → homes p ≡ o → IsNoted homes (noted before p o) p
  noted_here None is row at = absurd (none_some row (sym is ∙ at))
  noted_here (Some r) is row at = λ none. none_some p (sym none ∙ get_noted r row.key
      ∙ ap (λ (t : Bool). cond t (Some p) (map.get before row.key))
      (subst (λ (x : TableRow). eq_by_cmp nat_cmp x.key r.key ≡ true)
      (same_Some r row (sym is ∙ at))
      (cmp_same r.key)))

module _ (homes : Place → Option TableRow) (p : Place) (before after : Notes)
    (is : after ≡ noted before p (homes p)) where
  pub step_grows : (k : ℕ) → IsIn before k → IsIn after k
  step_grows k h =
      subst (λ (m : Notes). IsIn m k) (sym is) (noted_grows homes p before (homes p) k h)

  pub step_sound : AreSound homes before → AreSound homes after
  step_sound h = subst (AreSound homes) (sym is) (noted_sound homes p before (homes p) refl h)

  pub step_noted : IsNoted homes after p
  step_noted =
      subst (λ (m : Notes). IsNoted homes m p) (sym is) (noted_here homes p before (homes p) refl)

  pub step_stays : (q : Place) → IsNoted homes before q → IsNoted homes after q
  step_stays q h row at = step_grows row.key (h row at)

-- ---- whether the row of a place is stored

pub stored_none : (stored : StoredRows) (homes : Place → Option TableRow) (p : Place)
    → homes p ≡ None → IsStoredAt stored homes p
stored_none stored homes p none row at = absurd (none_some row (sym none ∙ at))

pub stored_says :
    (stored : StoredRows) (homes : Place → Option TableRow) (p : Place) (row : TableRow) (b : Bool)
    → homes p ≡ Some row
    → Says b (map.get stored row.key ≡ Some row) → Says b (IsStoredAt stored homes p)
stored_says stored homes p row b is says =
    says_both b (map.get stored row.key ≡ Some row) (IsStoredAt stored homes p)
    (λ h r at. subst (λ (x : TableRow). map.get stored x.key ≡ Some x)
    (same_Some row r (sym is ∙ at))
    h) (λ h. h row is) says

pub free_stored : (stored : StoredRows) (pages : List (List Slot)) (p : Place)
    → slot_of pages p ≡ Free → IsStoredAt stored (row_at (slot_of pages)) p
free_stored stored pages p e =
    stored_none stored (row_at (slot_of pages)) p (ap (home_row (slot_of pages)) e)

pub free_noted : (notes : Notes) (pages : List (List Slot)) (p : Place) → slot_of pages p ≡ Free
    → IsNoted (row_at (slot_of pages)) notes p
free_noted notes pages p e row at =
    absurd (none_some row (sym (ap (home_row (slot_of pages)) e) ∙ at))

-- ---- the stored rows, by rising key

module _ (stored : StoredRows) (notes : Notes) where
  abbrev pub NotedBelow : ℕ → Type 0
  NotedBelow from = (k : ℕ) (row : TableRow) → k < from → map.get stored k ≡ Some row → IsIn notes k

  pub below_more : (from : ℕ) (entry : ℕ × TableRow) → IsFirstFrom stored from (Some entry)
      → IsIn notes entry.0 → NotedBelow from → NotedBelow (entry.0 + 1)
  below_more from entry first is_in so_far k row lt at = elim (cases_lt k from) [
    | inl below ↦ so_far k row below at
    | inr le ↦ elim (cases_lt k entry.0) [
      | inl between ↦ absurd (none_some row (sym (first.2 k le between) ∙ at))
      | inr ge ↦ subst (IsIn notes) (omega (arith, lt, ge)) is_in
    ]
  ]

  pub below_all : (from : ℕ) → IsFirstFrom stored from None → NotedBelow from
      → AreNoted stored notes true
  below_all from none so_far k row at = elim (cases_lt k from) [
    | inl below ↦ so_far k row below at
    | inr le ↦ absurd (none_some row (sym (none k le) ∙ at))
  ]

pub is_in : (notes : Notes) (k : ℕ) → map.contains_key notes k ≡ true → IsIn notes k
is_in notes k e none = go (map.get notes k) e none
  where
    go : (o : Option Place) → is_some o ≡ true → o ≡ None → ⊥
    go None t n = cc (t)
    go (Some p) t n = none_some p (sym n)

pub not_in : (notes : Notes) (k : ℕ) → map.contains_key notes k ≡ false → map.get notes k ≡ None
not_in notes k e = go (map.get notes k) e
  where
    go : (o : Option Place) → is_some o ≡ false → o ≡ None
    go None t = refl
    go (Some p) t = absurd (cc (t))

-- ---- all homes are noted, and each row is stored

module _ (stored : StoredRows) (homes : Place → Option TableRow) (notes : Notes)
    (sound : AreSound homes notes) (each : (p : Place) → IsStoredAt stored homes p)
    (all : (p : Place) → IsNoted homes notes p) where
  pub all_homes : AreNoted stored notes true → AllHaveHomes stored homes
  all_homes are k row at = go (map.get notes k) refl
    where
      go : (o : Option Place) → map.get notes k ≡ o
          → (row.key ≡ k) × (p : Place) × (homes p ≡ Some row)
      go None e = absurd (are k row at e)
      go (Some p) e =
          let found = sound k p e in
          let is : found.0 ≡ row =
          same_Some found.0 row
          (sym (each p found.0 found.1) ∙ ap (map.get stored) found.2 ∙ at) in (
            ap (λ (x : TableRow). x.key) (sym is) ∙ found.2,
            p,
            found.1 ∙ ap (λ (x : TableRow). Some x) is,
          )

  pub some_none : AreNoted stored notes false → SomeHasNone stored homes
  some_none are =
      (are.0, are.1, are.2, λ home. all home.0 home.1 home.2 (ap (map.get notes) home.3 ∙ are.3))
