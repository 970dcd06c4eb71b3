-- What a cut of a list that rises says of adding, removing and of a range.
use Rattle.std.proofs.Common.{◌≡◌, ◌&&◌, ◌||◌, ◌+◌, ◌-◌, ◌<◌, ◌≤◌, zero, suc, ℕ, Bool, true, false}
use Rattle.std.proofs.Common.{cond, List, [], ◌∷◌, ◌++◌, not, length, take, drop, get_or, refl, sym}
use Rattle.std.proofs.Common.{◌∙◌, ap, subst, arith}
use Rattle.std.specs.Prelude.{nat_le}
use Rattle.std.specs.List.{insert, remove, AllByRecursion}
use Rattle.std.proofs.lemmas.List.{take-append-drop}
use Rattle.std.proofs.lemmas.Bool.{and_right, not-false, not-true, or_right}
use Rattle.std.proofs.lemmas.Bool.Decides.{nat_tests}
use Rattle.std.proofs.lemmas.List.Elements.{filter-append}
use Rattle.std.proofs.Math.Seq.{split_at}
use Rattle.rg_base.specs.declared.place.Place.{Place}
use Rattle.rg_base.proofs.Each.{Each-map}
use Rattle.rg_model.specs.Layout.{is_entry_before, same_entry, put_entry}
use Rattle.rg_index.specs.Entries.{IsRising, has_entry, without_entry, is_within}
use Rattle.rg_index.specs.Entries.{entries_within}
use Rattle.rg_index.specs.Split.{IsCutBy}
use Rattle.rg_index.proofs.Order.{before_trans, before_turned, same_itself}
use Rattle.rg_index.proofs.Lists.{list_any-append, put_behind, put_first, none_behind}
use Rattle.rg_index.proofs.Lists.{none_before, without_absent, without_same, rising_right}

-- what an entry is put at
pub insert_is_put : (e : ℕ × Place) (es : List (ℕ × Place)) (n : ℕ)
    → IsCutBy (λ x. not (is_entry_before e x)) es n → insert es n e ≡ put_entry e es
insert_is_put e es n cut =
    let early : AllByRecursion (λ x. is_entry_before e x ≡ false) (take n es) =
    Each-map (λ x. not (is_entry_before e x) ≡ true) (λ x. is_entry_before e x ≡ false)
    (λ x. not-true (is_entry_before e x)) (take n es) cut.1 in
    let late : AllByRecursion (λ x. is_entry_before e x ≡ true) (drop n es) =
    Each-map (λ x. not (is_entry_before e x) ≡ false) (λ x. is_entry_before e x ≡ true)
    (λ x. not-false (is_entry_before e x)) (drop n es) cut.2 in
    sym
    (ap (put_entry e) (sym (take-append-drop n es)) ∙ put_behind e (take n es) (drop n es) early
    ∙ ap (λ xs. take n es ++ xs) (put_first e (drop n es) late))

-- those before an entry of a list that rises
pub rising_before : (x : ℕ × Place) (xs ys : List (ℕ × Place)) → IsRising (xs ++ x ∷ ys)
    → AllByRecursion (λ y. is_entry_before y x ≡ true) xs
rising_before x [] ys rising = tt
rising_before x (z ∷ xs) ys rising = (middle xs rising.0, rising_before x xs ys rising.1)
  where
    middle : (zs : List (ℕ × Place))
        → AllByRecursion (λ later. is_entry_before z later ≡ true) (zs ++ x ∷ ys)
        → is_entry_before z x ≡ true
    middle [] each = each.0
    middle (w ∷ zs) each = middle zs each.1

-- the last of those that are not behind an entry is another
pub absent_at : (e x : ℕ × Place) (xs ys : List (ℕ × Place)) → IsRising (xs ++ x ∷ ys)
    → is_entry_before e x ≡ false → same_entry e x ≡ false
    → AllByRecursion (λ y. is_entry_before e y ≡ true) ys → has_entry (xs ++ x ∷ ys) e ≡ false
absent_at e x xs ys rising early other late =
    let x_before = before_turned e x early other in
    let front = none_before e xs
    (Each-map (λ y. is_entry_before y x ≡ true) (λ y. is_entry_before y e ≡ true)
    (λ y p. before_trans y x e p x_before) xs (rising_before x xs ys rising)) in
    list_any-append (same_entry e) xs (x ∷ ys) ∙ both front other (none_behind e ys late)
  where
    both : {a b c : Bool} → a ≡ false → b ≡ false → c ≡ false → (a || (b || c)) ≡ false
    both p q r = cc

-- it is the entry itself
pub there_at : (e : ℕ × Place) (xs ys : List (ℕ × Place)) → IsRising (xs ++ e ∷ ys)
    → (has_entry (xs ++ e ∷ ys) e ≡ true) × (without_entry e (xs ++ e ∷ ys) ≡ xs ++ ys)
there_at e xs ys rising =
    let front = none_before e xs (rising_before e xs ys rising) in
    let back = none_behind e ys (rising_right xs (e ∷ ys) rising).0 in (
      list_any-append (same_entry e) xs (e ∷ ys)
          ∙ ap (λ b. has_entry xs e || (b || has_entry ys e)) (same_itself e)
          ∙ or_right (has_entry xs e) true refl,
      filter-append (λ x. not (same_entry e x)) xs (e ∷ ys)
          ∙ (λ i. without_absent e xs front i ++ (without_same e ys ∙ without_absent e ys back) i),
    )

abbrev no_entries : List (ℕ × Place)
no_entries = []

pub low_fails : (lo hi v : ℕ) → nat_le (v + 1) lo ≡ true → (nat_le lo v && nat_le v hi) ≡ false
low_fails lo hi v p = grind (arith, nat_tests)

low_passes : (lo v : ℕ) → nat_le (v + 1) lo ≡ false → nat_le lo v ≡ true
low_passes lo v p = grind (arith, nat_tests)

nothing : (k from : ℕ) → [] ≡ take k (drop from (no_entries))
nothing zero from = refl
nothing (suc k) zero = refl
nothing (suc k) (suc from) = refl

-- one entry that fails is left out, and one that passes is kept
skipped : (lo hi : ℕ) (x : ℕ × Place) (es ys : List (ℕ × Place)) → is_within lo hi x ≡ false
    → entries_within lo hi es ≡ ys → entries_within lo hi (x ∷ es) ≡ ys
skipped lo hi x es ys fails rest =
    (λ i. cond (fails i) (x ∷ entries_within lo hi es) (entries_within lo hi es)) ∙ rest

-- the entries of a range are those between two cuts
pub within_is : (lo hi : ℕ) (es : List (ℕ × Place)) (from to : ℕ)
    → IsCutBy (λ e. nat_le (e.0 + 1) lo) es from → IsCutBy (λ e. nat_le e.0 hi) es to
    → entries_within lo hi es ≡ take (to - from) (drop from es)
within_is lo hi [] from to low high = nothing (to - from) from
within_is lo hi (x ∷ es) (suc from) (suc to) low high =
    let e : to - from ≡ suc to - suc from = omega arith in
    skipped lo hi x es _ (low_fails lo hi x.0 low.1.0)
    (within_is lo hi es from to (omega arith, low.1.1, low.2) (omega arith, high.1.1, high.2))
    ∙ ap (λ k. take k (drop from es)) e
within_is lo hi (x ∷ es) (suc from) zero low high =
    let e : 0 - from ≡ 0 - suc from = omega arith in
    skipped lo hi x es _ (low_fails lo hi x.0 low.1.0)
    (within_is lo hi es from zero (omega arith, low.1.1, low.2) (omega arith, tt, high.2.1))
    ∙ ap (λ k. take k (drop from es)) e
within_is lo hi (x ∷ es) zero zero low high =
    skipped lo hi x es _ (and_right (nat_le lo x.0) (nat_le x.0 hi) high.2.0)
    (within_is lo hi es zero zero (omega arith, tt, low.2.1) (omega arith, tt, high.2.1))
within_is lo hi (x ∷ es) zero (suc to) low high =
    let e : suc (to - 0) ≡ suc to - 0 = omega arith in
    (λ i. cond (low_passes lo x.0 low.2.0 i && high.1.0 i) (x ∷ entries_within lo hi es)
    (entries_within lo hi es))
    ∙ ap (λ ys. x ∷ ys)
    (within_is lo hi es zero to (omega arith, tt, low.2.1) (omega arith, high.1.1, high.2))
    ∙ ap (λ k. take k (x ∷ es)) e

-- where the cuts do not leave any
pub within_none : (lo hi : ℕ) (es : List (ℕ × Place)) (from to : ℕ) → to ≤ from
    → IsCutBy (λ e. nat_le (e.0 + 1) lo) es from → IsCutBy (λ e. nat_le e.0 hi) es to
    → entries_within lo hi es ≡ []
within_none lo hi es from to le low high =
    let e : to - from ≡ 0 = omega arith in
    within_is lo hi es from to low high ∙ ap (λ k. take k (drop from es)) e

-- ---- what a search for an entry finds: n entries are not behind it

pub last_passes : {X : Type 0} (P : X → Type 0) (xs : List X) (m : ℕ) (d : X) → m < length xs
    → AllByRecursion P (take (suc m) xs) → P (get_or xs m d)
last_passes P [] m d lt each = absurd (omega arith)
last_passes P (x ∷ xs) zero d lt each = each.0
last_passes P (x ∷ xs) (suc m) d lt each = last_passes P xs m d (omega arith) each.1

pub found_nothing : (e : ℕ × Place) (es : List (ℕ × Place))
    → IsCutBy (λ x. not (is_entry_before e x)) es 0 → has_entry es e ≡ false
found_nothing e es cut = none_behind e es
    (Each-map (λ x. not (is_entry_before e x) ≡ false) (λ x. is_entry_before e x ≡ true)
    (λ x. not-false (is_entry_before e x)) es cut.2)

pub found_other : (e d : ℕ × Place) (es : List (ℕ × Place)) (m : ℕ) → IsRising es
    → IsCutBy (λ x. not (is_entry_before e x)) es (suc m) → same_entry e (get_or es m d) ≡ false
    → has_entry es e ≡ false
found_other e d es m rising cut other =
    let lt : m < length es = omega arith in
    let at = split_at es m d lt in
    let early = last_passes (λ x. not (is_entry_before e x) ≡ true) es m d lt cut.1 in
    let late = Each-map (λ x. not (is_entry_before e x) ≡ false) (λ x. is_entry_before e x ≡ true)
    (λ x. not-false (is_entry_before e x)) (drop (suc m) es) cut.2 in
    ap (λ xs. has_entry xs e) at
    ∙ absent_at e (get_or es m d) (take m es) (drop (suc m) es) (subst IsRising at rising)
    (not-true (is_entry_before e (get_or es m d)) early) other late

pub found_it : (e d : ℕ × Place) (es : List (ℕ × Place)) (m : ℕ) → IsRising es → m < length es
    → get_or es m d ≡ e → (has_entry es e ≡ true) × (remove es m ≡ without_entry e es)
found_it e d es m rising lt is =
    let at : es ≡ take m es ++ e ∷ drop (suc m) es =
    split_at es m d lt ∙ ap (λ x. take m es ++ x ∷ drop (suc m) es) is in
    let there = there_at e (take m es) (drop (suc m) es) (subst IsRising at rising) in
    (ap (λ xs. has_entry xs e) at ∙ there.0, sym (ap (without_entry e) at ∙ there.1))
