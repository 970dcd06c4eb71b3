-- An entry that belongs below one child is behind what the children before it have, and before what
-- those behind it have.
use Rattle.std.proofs.Common.{◌≡◌, ◌==◌, ◌&&◌, ◌||◌, ◌+◌, ◌<◌, zero, suc, ℕ, true, false, not}
use Rattle.std.proofs.Common.{List, [], ◌∷◌, ◌++◌, length, take, drop, get_or, refl, sym, ◌∙◌, ap}
use Rattle.std.proofs.Common.{subst, arith}
use Rattle.std.specs.Prelude.{nat_le}
use Rattle.std.proofs.lemmas.Bool.Decides.{nat_tests}
use Rattle.std.proofs.lemmas.List.Elements.{filter-append}
use Rattle.std.proofs.Math.Bool.{or-false}
use Rattle.std.proofs.Math.Seq.{split_at}
use Rattle.rg_base.specs.declared.place.Place.{Place}
use Rattle.rg_base.proofs.Each.{Each-map, Each-at, Each-drop}
use Rattle.rg_model.specs.Layout.{is_entry_before, same_entry, put_entry}
use Rattle.std.specs.List.{AllByRecursion}
use Rattle.rg_index.specs.Entries.{IsRising, has_entry, without_entry}
use Rattle.rg_index.proofs.Found.{rising_before}
use Rattle.rg_index.proofs.Lists.{rising_right, list_any-append, none_before, none_behind}
use Rattle.rg_index.proofs.Lists.{put_behind, put_ahead, without_absent}
use Rattle.rg_index.proofs.Order.{before_trans, before_asym}
use Rattle.rg_bulk.specs.Branch.{Branch, first_of, joined}
use Rattle.rg_bulk.proofs.Levels.{joined-append}
use Rattle.rg_btree.specs.Child.{IsChild, firsts}
use Rattle.rg_btree.proofs.Kids.{HasEntry, firsts-drop}

abbrev pub zero_entry : ℕ × Place
zero_entry = (0, record { page = 0; slot = 0 })

pub first_at : (kids : List Branch) (i : ℕ) (d : Branch) → i < length kids
    → get_or (firsts kids) i zero_entry ≡ first_of (get_or kids i d).entries
first_at [] i d lt = absurd (omega arith)
first_at (kid ∷ kids) zero d lt = refl
first_at (kid ∷ kids) (suc i) d lt = first_at kids i d (omega arith)

through : (x f e : ℕ × Place) → is_entry_before x f ≡ true → is_entry_before e f ≡ false
    → is_entry_before x e ≡ true
through x f e p q = go x.0 x.1.page x.1.slot f.0 f.1.page f.1.slot e.0 e.1.page e.1.slot p q
  where
    go : (v p s w q t x r u : ℕ)
        → (nat_le (v + 1) w || (v == w && (nat_le (p + 1) q || (p == q && nat_le (s + 1) t))))
        ≡ true
        → (nat_le (x + 1) w || (x == w && (nat_le (r + 1) q || (r == q && nat_le (u + 1) t))))
        ≡ false
        → (nat_le (v + 1) x || (v == x && (nat_le (p + 1) r || (p == r && nat_le (s + 1) u))))
        ≡ true
    go v p s w q t x r u a b = grind (arith, nat_tests)

-- those before a list's first entry
pub before_first : (xs es ys : List (ℕ × Place)) → 0 < length es → IsRising (xs ++ (es ++ ys))
    → AllByRecursion (λ x. is_entry_before x (first_of es) ≡ true) xs
before_first xs [] ys some rising = absurd (omega arith)
before_first xs (e ∷ es) ys some rising = rising_before e xs (es ++ ys) rising

-- a list whose first is behind an entry is all behind it
all_behind : (e : ℕ × Place) (es ys : List (ℕ × Place)) → 0 < length es → IsRising (es ++ ys)
    → is_entry_before e (first_of es) ≡ true
    → AllByRecursion (λ y. is_entry_before e y ≡ true) (es ++ ys)
all_behind e [] ys some rising first = absurd (omega arith)
all_behind e (f ∷ es) ys some rising first = (
  first,
  Each-map (λ later. is_entry_before f later ≡ true) (λ y. is_entry_before e y ≡ true)
      (λ y p. before_trans e f y first p) (es ++ ys) rising.0,
)

behind_firsts : (e : ℕ × Place) (kids : List Branch) → AllByRecursion HasEntry kids
    → IsRising (joined kids)
    → AllByRecursion (λ key. is_entry_before e key ≡ true) (firsts kids)
    → AllByRecursion (λ y. is_entry_before e y ≡ true) (joined kids)
behind_firsts e [] some rising each = tt
behind_firsts e (kid ∷ kids) some rising each =
    all_behind e kid.entries (joined kids) some.0 rising each.0

-- the child that a search chose
pub record IsBetween (e : ℕ × Place) (front back : List Branch) : Type 0 where
  pub early : AllByRecursion (λ x. is_entry_before x e ≡ true) (joined front)
  pub late : AllByRecursion (λ y. is_entry_before e y ≡ true) (joined back)

pub chosen : (e : ℕ × Place) (kids : List Branch) (i : ℕ) (d : Branch)
    → AllByRecursion HasEntry kids
    → IsRising (joined kids) → i < length kids → IsChild e (firsts kids) i
    → IsBetween e (take i kids) (drop (suc i) kids)
chosen e kids i d some rising lt at =
    let parts = subst (λ ks. IsRising (joined ks)) (split_at kids i d lt) rising in
    let whole =
    subst IsRising (joined-append (take i kids) (get_or kids i d ∷ drop (suc i) kids)) parts in
    record {
      early = early i lt at.here whole;
      late = behind_firsts e (drop (suc i) kids) (Each-drop HasEntry (suc i) kids some)
          (rising_right (get_or kids i d).entries (joined (drop (suc i) kids))
          (rising_right (joined (take i kids)) (joined (get_or kids i d ∷ drop (suc i) kids))
          whole))
          (subst (AllByRecursion (λ key. is_entry_before e key ≡ true)) (firsts-drop (suc i) kids)
          at.behind);
    }
  where
    early : (k : ℕ) → k < length kids
        → (0 < k → is_entry_before e (get_or (firsts kids) k zero_entry) ≡ false)
        →
        IsRising (joined (take k kids) ++ ((get_or kids k d).entries ++ joined (drop (suc k) kids)))
        → AllByRecursion (λ x. is_entry_before x e ≡ true) (joined (take k kids))
    early zero low here rises = tt
    early (suc k) low here rises =
        let not_behind =
        ap (is_entry_before e) (sym (first_at kids (suc k) d low)) ∙ here (omega arith) in
        Each-map (λ x. is_entry_before x (first_of (get_or kids (suc k) d).entries) ≡ true)
        (λ x. is_entry_before x e ≡ true)
        (λ x p. through x (first_of (get_or kids (suc k) d).entries) e p not_behind)
        (joined (take (suc k) kids))
        (before_first (joined (take (suc k) kids)) (get_or kids (suc k) d).entries
        (joined (drop (suc (suc k)) kids)) (Each-at HasEntry kids (suc k) d low some) rises)

module _ (e : ℕ × Place) (front back : List Branch) (between : IsBetween e front back)
    (es : List (ℕ × Place)) where
  pub put_between : put_entry e (joined front ++ (es ++ joined back))
      ≡ joined front ++ (put_entry e es ++ joined back)
  put_between =
      put_behind e (joined front) (es ++ joined back)
      (Each-map (λ x. is_entry_before x e ≡ true) (λ x. is_entry_before e x ≡ false)
      (λ x. before_asym x e) (joined front) between.early)
      ∙ ap (λ xs. joined front ++ xs) (put_ahead e es (joined back) between.late)

  pub has_between : has_entry (joined front ++ (es ++ joined back)) e ≡ has_entry es e
  has_between =
      list_any-append (same_entry e) (joined front) (es ++ joined back)
      ∙ (λ i. none_before e (joined front) between.early i
      || list_any-append (same_entry e) es (joined back) i)
      ∙ (λ i. has_entry es e || none_behind e (joined back) between.late i)
      ∙ or-false (has_entry es e)

  pub without_between : without_entry e (joined front ++ (es ++ joined back))
      ≡ joined front ++ (without_entry e es ++ joined back)
  without_between =
      filter-append (λ x. not (same_entry e x)) (joined front) (es ++ joined back)
      ∙ (λ i. without_absent e (joined front) (none_before e (joined front) between.early) i
      ++ filter-append (λ x. not (same_entry e x)) es (joined back) i)
      ∙ ap (λ xs. joined front ++ (without_entry e es ++ xs))
      (without_absent e (joined back) (none_behind e (joined back) between.late))
