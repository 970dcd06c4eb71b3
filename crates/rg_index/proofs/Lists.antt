-- What adding, removing and cutting make of lists of entries that rise.
use Rattle.std.proofs.Common.{◌≡◌, ◌&&◌, ◌||◌, ℕ, Bool, true, false, cond, List, [], ◌∷◌, ◌++◌, not}
use Rattle.std.proofs.Common.{filter, refl, sym, ◌∙◌, ap, subst, inl, inr}
use Rattle.std.proofs.lemmas.Bool.{both_ways, or_cases, or_parts, false≢true, true≢false, or_left}
use Rattle.std.proofs.lemmas.Bool.{cases_Bool}
use Rattle.std.specs.List.{list_any, AllByRecursion}
use Rattle.std.proofs.Math.Bool.{or_assoc}
use Rattle.rg_base.specs.declared.place.Place.{Place}
use Rattle.rg_base.proofs.Each.{Each-map, Each-left}
use Rattle.rg_model.specs.Layout.{is_entry_before, same_entry, put_entry}
use Rattle.rg_index.specs.Entries.{IsRising, has_entry, without_entry}
use Rattle.rg_index.specs.RisingPart.{rising_part}
use Rattle.rg_index.proofs.Order.{before_trans, before_asym, before_apart, behind_apart}
use Rattle.rg_index.proofs.Order.{before_turned, same_is, same_itself}

-- ---- each element

pub filter_all : {X : Type 0} (p : X → Bool) (xs : List X) → AllByRecursion (λ x. p x ≡ true) xs
    → filter p xs ≡ xs
filter_all p [] each = refl
filter_all p (x ∷ xs) each = (λ i. cond (each.0 i) (x ∷ filter p xs) (filter p xs))
    ∙ ap (λ ys. x ∷ ys) (filter_all p xs each.1)

pub filter_none : {X : Type 0} (p : X → Bool) (xs : List X) → AllByRecursion (λ x. p x ≡ false) xs
    → filter p xs ≡ []
filter_none p [] each = refl
filter_none p (x ∷ xs) each =
    (λ i. cond (each.0 i) (x ∷ filter p xs) (filter p xs)) ∙ filter_none p xs each.1

pub list_any-append : {X : Type 0} (p : X → Bool) (xs ys : List X)
    → list_any p (xs ++ ys) ≡ (list_any p xs || list_any p ys)
list_any-append p [] ys = refl
list_any-append p (x ∷ xs) ys =
    ap (λ b. p x || b) (list_any-append p xs ys)
    ∙ sym (or_assoc (p x) (list_any p xs) (list_any p ys))

pub list_any-none : {X : Type 0} (p : X → Bool) (xs : List X) → AllByRecursion (λ x. p x ≡ false) xs
    → list_any p xs ≡ false
list_any-none p [] each = refl
list_any-none p (x ∷ xs) each = (λ i. each.0 i || list_any p xs) ∙ list_any-none p xs each.1

-- ---- a list that rises

pub rising_part-rising : (es : List (ℕ × Place)) → IsRising es → rising_part es ≡ es
rising_part-rising [] rising = refl
rising_part-rising (e ∷ es) rising =
    ap (λ xs. e ∷ filter (is_entry_before e) xs) (rising_part-rising es rising.1)
    ∙ ap (λ xs. e ∷ xs) (filter_all (is_entry_before e) es rising.0)

pub rising_left : (xs ys : List (ℕ × Place)) → IsRising (xs ++ ys) → IsRising xs
rising_left [] ys rising = tt
rising_left (x ∷ xs) ys rising =
    (Each-left (λ later. is_entry_before x later ≡ true) xs ys rising.0, rising_left xs ys rising.1)

pub rising_right : (xs ys : List (ℕ × Place)) → IsRising (xs ++ ys) → IsRising ys
rising_right [] ys rising = rising
rising_right (x ∷ xs) ys rising = rising_right xs ys rising.1

-- what is behind an entry has none of those that are not behind it
pub none_behind : (e : ℕ × Place) (es : List (ℕ × Place))
    → AllByRecursion (λ later. is_entry_before e later ≡ true) es → has_entry es e ≡ false
none_behind e es each = list_any-none (same_entry e) es
    (Each-map (λ later. is_entry_before e later ≡ true) (λ later. same_entry e later ≡ false)
    (before_apart e) es each)

pub none_before : (e : ℕ × Place) (es : List (ℕ × Place))
    → AllByRecursion (λ earlier. is_entry_before earlier e ≡ true) es → has_entry es e ≡ false
none_before e es each = list_any-none (same_entry e) es
    (Each-map (λ earlier. is_entry_before earlier e ≡ true)
    (λ earlier. same_entry e earlier ≡ false) (behind_apart e) es each)

-- ---- adding

pub put_behind : (e : ℕ × Place) (xs ys : List (ℕ × Place))
    → AllByRecursion (λ x. is_entry_before e x ≡ false) xs
    → put_entry e (xs ++ ys) ≡ xs ++ put_entry e ys
put_behind e [] ys each = refl
put_behind e (x ∷ xs) ys each =
    (λ i. cond (each.0 i) (e ∷ x ∷ (xs ++ ys)) (x ∷ put_entry e (xs ++ ys)))
    ∙ ap (λ zs. x ∷ zs) (put_behind e xs ys each.1)

pub put_first : (e : ℕ × Place) (ys : List (ℕ × Place))
    → AllByRecursion (λ y. is_entry_before e y ≡ true) ys
    → put_entry e ys ≡ e ∷ ys
put_first e [] each = refl
put_first e (y ∷ ys) each = λ i. cond (each.0 i) (e ∷ y ∷ ys) (y ∷ put_entry e ys)

pub put_ahead : (e : ℕ × Place) (xs ys : List (ℕ × Place))
    → AllByRecursion (λ y. is_entry_before e y ≡ true) ys
    → put_entry e (xs ++ ys) ≡ put_entry e xs ++ ys
put_ahead e [] ys each = put_first e ys each
put_ahead e (x ∷ xs) ys each =
    elim (is_entry_before e x) as (λ b. cond b (e ∷ x ∷ (xs ++ ys)) (x ∷ put_entry e (xs ++ ys))
    ≡ cond b (e ∷ x ∷ xs) (x ∷ put_entry e xs) ++ ys) [
      | true ↦ refl
      | false ↦ ap (λ zs. x ∷ zs) (put_ahead e xs ys each)
    ]

pub Each-put : (P : ℕ × Place → Type 0) (e : ℕ × Place) (es : List (ℕ × Place)) → P e
    → AllByRecursion P es
    → AllByRecursion P (put_entry e es)
Each-put P e [] one each = (one, tt)
Each-put P e (x ∷ xs) one each =
    elim (is_entry_before e x) as
    (λ b. AllByRecursion P (cond b (e ∷ x ∷ xs) (x ∷ put_entry e xs))) [
      | true ↦ (one, each)
      | false ↦ (each.0, Each-put P e xs one each.1)
    ]

pub IsRising-put_entry : (e : ℕ × Place) (es : List (ℕ × Place)) → IsRising es
    → has_entry es e ≡ false → IsRising (put_entry e es)
IsRising-put_entry e [] rising absent = (tt, tt)
IsRising-put_entry e (x ∷ xs) rising absent =
    let parts = or_parts (same_entry e x) (has_entry xs e) absent in
    elim (is_entry_before e x) as
    (λ b. is_entry_before e x ≡ b → IsRising (cond b (e ∷ x ∷ xs) (x ∷ put_entry e xs))) [
      | true ↦ λ p. (
        (
          p,
          Each-map (λ later. is_entry_before x later ≡ true)
              (λ later. is_entry_before e later ≡ true) (λ later q. before_trans e x later p q) xs
              rising.0,
        ),
        rising,
      )
      | false ↦ λ p. (
        Each-put (λ later. is_entry_before x later ≡ true) e xs (before_turned e x p parts.0)
            rising.0,
        IsRising-put_entry e xs rising.1 parts.1,
      )
    ] refl

pub has_entry-put_entry : (e : ℕ × Place) (es : List (ℕ × Place)) (q : ℕ × Place)
    → has_entry (put_entry e es) q ≡ (same_entry q e || has_entry es q)
has_entry-put_entry e [] q = refl
has_entry-put_entry e (x ∷ xs) q =
    elim (is_entry_before e x) as (λ b. has_entry (cond b (e ∷ x ∷ xs) (x ∷ put_entry e xs)) q
    ≡ (same_entry q e || (same_entry q x || has_entry xs q))) [
      | true ↦ refl
      | false ↦ ap (λ b. same_entry q x || b) (has_entry-put_entry e xs q)
          ∙ or_swapped (same_entry q x) (same_entry q e) (has_entry xs q)
    ]
  where
    or_swapped : (a b c : Bool) → (a || (b || c)) ≡ (b || (a || c))
    or_swapped true true c = refl
    or_swapped true false c = refl
    or_swapped false b c = refl

-- ---- removing

pub without_absent : (e : ℕ × Place) (es : List (ℕ × Place)) → has_entry es e ≡ false
    → without_entry e es ≡ es
without_absent e [] absent = refl
without_absent e (x ∷ xs) absent =
    let parts = or_parts (same_entry e x) (has_entry xs e) absent in
    (λ i. cond (not (parts.0 i)) (x ∷ without_entry e xs) (without_entry e xs))
    ∙ ap (λ zs. x ∷ zs) (without_absent e xs parts.1)

pub without_same : (e : ℕ × Place) (es : List (ℕ × Place))
    → without_entry e (e ∷ es) ≡ without_entry e es
without_same e es = λ i. cond (not (same_itself e i)) (e ∷ without_entry e es) (without_entry e es)

pub has_entry-without_entry : (e : ℕ × Place) (es : List (ℕ × Place)) (q : ℕ × Place)
    → has_entry (without_entry e es) q ≡ (not (same_entry e q) && has_entry es q)
has_entry-without_entry e [] q = and_false (not (same_entry e q))
  where
    and_false : (a : Bool) → false ≡ (a && false)
    and_false true = refl
    and_false false = refl
has_entry-without_entry e (x ∷ xs) q =
    elim (same_entry e x) as (λ b. same_entry e x ≡ b
    → has_entry (cond (not b) (x ∷ without_entry e xs) (without_entry e xs)) q
    ≡ (not (same_entry e q) && (same_entry q x || has_entry xs q))) [
      | true ↦ λ s. has_entry-without_entry e xs q
          ∙ gone (same_entry e q) (same_entry q x) (has_entry xs q)
          (λ t. subst (λ y. same_entry e y ≡ true) (sym (same_is q x t)) s)
      | false ↦ λ s. ap (λ b. same_entry q x || b) (has_entry-without_entry e xs q)
          ∙ stays (same_entry e q) (same_entry q x) (has_entry xs q)
          (λ t. subst (λ y. same_entry e y ≡ false) (sym (same_is q x t)) s)
    ] refl
  where
    gone : (a b c : Bool) → (b ≡ true → a ≡ true) → (not a && c) ≡ (not a && (b || c))
    gone true b c h = refl
    gone false true c h = absurd (false≢true (h refl))
    gone false false c h = refl

    stays : (a b c : Bool) → (b ≡ true → a ≡ false) → (b || (not a && c)) ≡ (not a && (b || c))
    stays true true c h = absurd (true≢false (h refl))
    stays true false c h = refl
    stays false b c h = refl

-- what was removed is gone
pub gone : (e : ℕ × Place) (es : List (ℕ × Place)) → has_entry (without_entry e es) e ≡ false
gone e es = has_entry-without_entry e es e ∙ (λ i. not (same_itself e i) && has_entry es e)

-- ---- one list for one set of members

-- what holds of each entry holds of one that the list has
pub Each-has : (P : ℕ × Place → Type 0) (es : List (ℕ × Place)) (q : ℕ × Place)
    → AllByRecursion P es
    → has_entry es q ≡ true → P q
Each-has P [] q each there = absurd (false≢true there)
Each-has P (x ∷ xs) q each there =
    elim (cases_Bool (same_entry q x)) [
      | inl same ↦ subst P (sym (same_is q x same)) each.0
      | inr other ↦ Each-has P xs q each.1 (sym (λ i. other i || has_entry xs q) ∙ there)
    ]

has_first : (e : ℕ × Place) (es : List (ℕ × Place)) → has_entry (e ∷ es) e ≡ true
has_first e es = or_left (same_entry e e) (has_entry es e) (same_itself e)

same_heads : (x : ℕ × Place) (xs : List (ℕ × Place)) (y : ℕ × Place) (ys : List (ℕ × Place))
    → IsRising (x ∷ xs) → IsRising (y ∷ ys) → has_entry (y ∷ ys) x ≡ true
    → has_entry (x ∷ xs) y ≡ true → x ≡ y
same_heads x xs y ys a b there back =
    elim (or_cases (same_entry x y) (has_entry ys x) there) [
      | inl same ↦ same_is x y same
      | inr later ↦
          elim (or_cases (same_entry y x) (has_entry xs y) back) [
            | inl same ↦ sym (same_is y x same)
            | inr earlier ↦
                absurd (both_ways (is_entry_before x y)
                (before_asym y x
                (Each-has (λ later. is_entry_before y later ≡ true) ys x b.0 later))
                (Each-has (λ later. is_entry_before x later ≡ true) xs y a.0 earlier))
          ]
    ]

same_rests : (x : ℕ × Place) (xs ys : List (ℕ × Place)) → IsRising (x ∷ xs) → IsRising (x ∷ ys)
    → (q : ℕ × Place) → has_entry (x ∷ xs) q ≡ has_entry (x ∷ ys) q
    → has_entry xs q ≡ has_entry ys q
same_rests x xs ys a b q same =
    elim (cases_Bool (same_entry q x)) [
      | inl is ↦ subst (λ e. has_entry xs e ≡ has_entry ys e) (sym (same_is q x is))
          (none_behind x xs a.0 ∙ sym (none_behind x ys b.0))
      | inr other ↦ sym (λ i. other i || has_entry xs q) ∙ same ∙ (λ i. other i || has_entry ys q)
    ]

pub same_members : (xs ys : List (ℕ × Place)) → IsRising xs → IsRising ys
    → ((q : ℕ × Place) → has_entry xs q ≡ has_entry ys q) → xs ≡ ys
same_members [] [] a b same = refl
same_members [] (y ∷ ys) a b same = absurd (false≢true (same y ∙ has_first y ys))
same_members (x ∷ xs) [] a b same = absurd (true≢false (sym (has_first x xs) ∙ same x))
same_members (x ∷ xs) (y ∷ ys) a b same =
    let heads : y ≡ x =
    sym (same_heads x xs y ys a b (sym (same x) ∙ has_first x xs) (same y ∙ has_first y ys)) in
    let b' = subst (λ e. IsRising (e ∷ ys)) heads b in
    let same' =
    subst (λ e. (q : ℕ × Place) → has_entry (x ∷ xs) q ≡ has_entry (e ∷ ys) q) heads same in
    λ i. sym heads i ∷ same_members xs ys a.1 b.1 (λ q. same_rests x xs ys a b' q (same' q)) i
