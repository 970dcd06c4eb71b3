-- Keys that stand twice: one home more is seen.
use Rattle.std.proofs.Common.{◌≡◌, ◌<◌, ◌⊎◌, inl, inr, ℕ, ◌+◌, cond, if◌then◌else◌, Bool, true}
use Rattle.std.proofs.Common.{false, List, Option, Some, None, length, refl, sym, ◌∙◌, ap, subst}
use Rattle.std.proofs.Common.{arith}
use Rattle.std.specs.FinMap as map
use Rattle.std.specs.FinMap.{get-insert, get-empty}
use Rattle.std.specs.Ordering.{eq_by_cmp, nat_cmp}
use Rattle.std.proofs.lemmas.Bool.{cases_lt}
use Rattle.std.proofs.lemmas.Bool.Decides.{nat_tests}
use Rattle.std.proofs.lemmas.Cmp.{nat_cmp_total}
use Rattle.std.proofs.lemmas.Option.{same_Some}
use Rattle.rg_base.specs.declared.place.Place.{Place}
use Rattle.rg_base.specs.declared.row.Row.{Row as TableRow}
use Rattle.rg_base.proofs.Small.{cmp_one}
use Rattle.rg_base.proofs.SamePlace.{place_is}
use Rattle.rg_home.specs.Pages.{page_at, slot_of}
use Rattle.rg_home.specs.Rows.{home_row, row_at}
use Rattle.rg_home.specs.Slot.{Slot}
use Rattle.rg_home.specs.Slot.{Free}
use Rattle.rg_space.specs.Homes.{place_on}
use Rattle.rg_check.specs.PageTests.Keys.{IsAlone, Notes, first_noted, noted_by, noted_if}
use Rattle.rg_check.specs.PageTests.Places.{IsBefore, IsLeastBreach}
use Rattle.rg_check.specs.PageTests.Twins.{HasNone, IsAloneTo, IsFirstOf, IsLeastTwin, Kept}
use Rattle.rg_check.specs.PageTests.Twins.{is_before, lesser}
use Rattle.rg_check.proofs.PageTestsLemmas.Order.{before_trans, no_page, no_slot, not_before, order}
use Rattle.rg_check.proofs.PageTestsLemmas.Order.{page_zero}
use Rattle.rg_check.proofs.PageTestsLemmas.Order.Ordered.{Before, Same, After}
use Rattle.rg_check.proofs.PageTestsLemmas.Says.{none_some}

-- ---- places before the next one

pub before_next : (n i : ℕ) (q : Place) → IsBefore q (place_on n (i + 1))
    → IsBefore q (place_on n i) ⊎ (q ≡ place_on n i)
before_next n i q (inl lt) = inl (inl lt)
before_next n i q (inr both) = elim (cases_lt q.slot i) [
  | inl lt ↦ inl (inr (both.0, lt))
  | inr le ↦ inr (place_is q (place_on n i) both.0 (omega (arith, le, both.1)))
]

pub before_wider : (n i : ℕ) (q : Place) → IsBefore q (place_on n i)
    → IsBefore q (place_on n (i + 1))
before_wider n i q (inl lt) = inl lt
before_wider n i q (inr both) = inr (both.0, omega (arith, both.1))

pub here_before : (n i : ℕ) → IsBefore (place_on n i) (place_on n (i + 1))
here_before n i = inr (refl, omega arith)

lesser_none : (o : Option Place) → lesser o None ≡ o
lesser_none None = refl
lesser_none (Some p) = refl

before_from : (p q : Place) → is_before p q ≡ true → IsBefore p q
before_from p q e = elim (order p q) [
  | Before b ↦ b
  | Same s ↦ absurd (never (subst (λ (r : Place). is_before p r ≡ true) (sym s) e))
  | After a ↦ absurd (against a)
]
  where
    never : is_before p p ≡ true → ⊥
    never f = grind (arith, nat_tests, f)

    against : IsBefore q p → ⊥
    against (inl lt) = grind (arith, nat_tests, e)
    against (inr both) =
        (let page : q.page ≡ p.page = both.0 in let lt : q.slot < p.slot = both.1 in
        grind (arith, nat_tests, e))

before_to : (p q : Place) → IsBefore p q → is_before p q ≡ true
before_to p q (inl lt) = grind (arith, nat_tests)
before_to p q (inr both) =
    (let page : p.page ≡ q.page = both.0 in let lt : p.slot < q.slot = both.1 in
    grind (arith, nat_tests))

module _ (homes : Place → Option TableRow) where
  -- a home that has no row is none of two
  no_row : (p : Place) (row : TableRow) → homes p ≡ None → homes p ≡ Some row → ⊥
  no_row p row none some = none_some row (sym none ∙ some)

  -- ---- the same homes with rows, before a later place

  module _ (e f : Place) (wider : (q : Place) → IsBefore q e → IsBefore q f)
      (none : (q : Place) → IsBefore q f → IsBefore q e ⊎ (homes q ≡ None)) where
    has_none_wider : (k : ℕ) → HasNone homes e k → HasNone homes f k
    has_none_wider k h q row b is key =
        elim (none q b) [ inl c ↦ h q row c is key | inr n ↦ no_row q row n is ]

    first_wider : (k : ℕ) (o : Option Place) → IsFirstOf homes e k o → IsFirstOf homes f k o
    first_wider k None h = has_none_wider k h
    first_wider k (Some p) h = (wider p h.0, h.1, h.2)

    alone_wider : (p : Place) → IsAloneTo homes e p → IsAloneTo homes f p
    alone_wider p h q row other b is it key =
        elim (none q b) [ inl c ↦ h q row other c is it key | inr n ↦ absurd (no_row q other n it) ]

    alone_back : (p : Place) → IsAloneTo homes f p → IsAloneTo homes e p
    alone_back p h q row other b is it key = h q row other (wider q b) is it key

    twin_wider : (o : Option Place) → IsLeastTwin homes e o → IsLeastTwin homes f o
    twin_wider None h = λ p b. elim (none p b) [
      | inl c ↦ alone_wider p (h p c)
      | inr n ↦ (λ q row other b is it key. absurd (no_row p row n is))
    ]
    twin_wider (Some p) h = (wider p h.0, λ a. h.1 (alone_back p a), λ q b. alone_wider q (h.2 q b))

    pub kept_wider : (notes : Notes) (least : Option Place) → Kept homes e notes least
        → Kept homes f notes least
    kept_wider notes least k = record {
      firsts = λ key. first_wider key (map.get notes key) (k.firsts key);
      twin = twin_wider least k.twin;
    }

  -- ---- the home at slot i of page n has a row

  module _ (n i : ℕ) (row : TableRow) (is : homes (place_on n i) ≡ Some row) where
    abbrev e : Place
    e = place_on n i

    abbrev f : Place
    f = place_on n (i + 1)

    wide : (q : Place) → IsBefore q e → IsBefore q f
    wide q b = before_wider n i q b

    back : (p : Place) → IsAloneTo homes f p → IsAloneTo homes e p
    back p h q r other b at it key = h q r other (wide q b) at it key

    the_row : (q : Place) (r : TableRow) → q ≡ e → homes q ≡ Some r → row ≡ r
    the_row q r s at = same_Some row r (sym is ∙ ap homes (sym s) ∙ at)

    -- no other key is changed
    has_none_next : (k : ℕ) → (row.key ≡ k → ⊥) → HasNone homes e k → HasNone homes f k
    has_none_next k other h q r b at key = elim (before_next n i q b) [
      | inl c ↦ h q r c at key
      | inr s ↦ other (ap (λ (x : TableRow). x.key) (the_row q r s at) ∙ key)
    ]

    -- a place that was alone is so still, unless it has the row's key
    alone_next : (p : Place) → ((r : TableRow) → homes p ≡ Some r → r.key ≡ row.key → ⊥)
        → IsAloneTo homes e p → IsAloneTo homes f p
    alone_next p other h q r x b at it key = elim (before_next n i q b) [
      | inl c ↦ h q r x c at it key
      | inr s ↦ absurd (other r at (key ∙ sym (ap (λ (y : TableRow). y.key) (the_row q x s it))))
    ]

    module _ (notes : Notes) (least : Option Place) (kept : Kept homes e notes least) where
      -- ---- its key is new
      module _ (new_key : map.get notes row.key ≡ None) where
        none_so_far : HasNone homes e row.key
        none_so_far = subst (IsFirstOf homes e row.key) new_key (kept.firsts row.key)

        other_than : (p : Place) → IsBefore p e → (r : TableRow) → homes p ≡ Some r
            → r.key ≡ row.key → ⊥
        other_than p b r at key = none_so_far p r b at key

        firsts_new : (k : ℕ) → IsFirstOf homes f k (map.get (map.insert notes row.key e) k)
        firsts_new k =
            subst (IsFirstOf homes f k) (sym (get-insert nat_cmp_total notes row.key e k))
            (go (eq_by_cmp nat_cmp k row.key) refl)
          where
            differ : (a b : ℕ) → eq_by_cmp nat_cmp a b ≡ false → b ≡ a → ⊥
            differ a b t s = grind (arith, nat_tests)

            kept_on : (row.key ≡ k → ⊥) → (o : Option Place) → IsFirstOf homes e k o
                → IsFirstOf homes f k o
            kept_on other None h = has_none_next k other h
            kept_on other (Some p) h = (wide p h.0, h.1, h.2)

            go : (t : Bool) → eq_by_cmp nat_cmp k row.key ≡ t
                → IsFirstOf homes f k (cond t (Some e) (map.get notes k))
            go true t = (
              here_before n i,
              (row, is, sym (cmp_one k row.key t)),
              subst (HasNone homes e) (sym (cmp_one k row.key t)) none_so_far,
            )
            go false t = kept_on (differ k row.key t) (map.get notes k) (kept.firsts k)

        least_new : (o : Option Place) → IsLeastTwin homes e o → IsLeastTwin homes f o
        least_new None h = λ p b. elim (before_next n i p b) [
          | inl c ↦ alone_next p (other_than p c) (h p c)
          | inr s ↦ (λ q r x b at it key. elim (before_next n i q b) [
            | inl c ↦ absurd
                (none_so_far q x c it
                (sym key ∙ sym (ap (λ (y : TableRow). y.key) (the_row p r s at))))
            | inr t ↦ s ∙ sym t
          ])
        ]
        least_new (Some p) h = (
          wide p h.0,
          λ a. h.1 (back p a),
          λ q b. alone_next q (other_than q (before_trans q p e b h.0)) (h.2 q b),
        )

        pub kept_new : Kept homes f (map.insert notes row.key e) least
        kept_new = record { firsts = firsts_new; twin = least_new least kept.twin }

      -- ---- its key has a first place before
      module _ (p0 : Place) (old_key : map.get notes row.key ≡ Some p0) where
        first : IsFirstOf homes e row.key (Some p0)
        first = subst (IsFirstOf homes e row.key) old_key (kept.firsts row.key)

        firsts_old : (k : ℕ) → IsFirstOf homes f k (map.get notes k)
        firsts_old k = go (map.get notes k) refl (kept.firsts k)
          where
            go : (o : Option Place) → map.get notes k ≡ o → IsFirstOf homes e k o
                → IsFirstOf homes f k o
            go None m h =
                has_none_next k (λ s. none_some p0 (sym m ∙ ap (map.get notes) (sym s) ∙ old_key)) h
            go (Some p) m h = (wide p h.0, h.1, h.2)

        -- p0 and e are two
        not_alone : IsAloneTo homes f p0 → ⊥
        not_alone a = not_before p0
            (subst (IsBefore p0) (sym (a e first.1.0 row (here_before n i) first.1.1 is first.1.2))
            first.0)

        alone_up : (q : Place) → IsBefore q p0 → IsAloneTo homes e q → IsAloneTo homes f q
        alone_up q b a = alone_next q (λ r at key. first.2 q r b at key) a

        least_old : (o : Option Place) → IsLeastTwin homes e o
            → IsLeastTwin homes f (lesser o (Some p0))
        least_old None h =
            (wide p0 first.0, not_alone, λ q b. alone_up q b (h q (before_trans q p0 e b first.0)))
        least_old (Some m) h = go (is_before p0 m) refl
          where
            m_first : is_before p0 m ≡ false → (q : Place) → IsBefore q m → IsBefore q p0
            m_first t q b = elim (order p0 m) [
              | Before c ↦ absurd (cc (t, before_to p0 m c))
              | Same s ↦ subst (IsBefore q) (sym s) b
              | After a ↦ before_trans q m p0 b a
            ]

            go : (t : Bool) → is_before p0 m ≡ t
                → IsLeastTwin homes f (if t then Some p0 else Some m)
            go true t = (
              wide p0 first.0,
              not_alone,
              λ q b. alone_up q b (h.2 q (before_trans q p0 m b (before_from p0 m t))),
            )
            go false t =
                (wide m h.0, λ a. h.1 (back m a), λ q b. alone_up q (m_first t q b) (h.2 q b))

        pub kept_old : Kept homes f notes (lesser least (Some p0))
        kept_old = record { firsts = firsts_old; twin = least_old least kept.twin }

  -- ---- one home more, whatever it has
  pub kept_step : (n i : ℕ) (notes : Notes) (least : Option Place)
      → Kept homes (place_on n i) notes least
      → Kept homes (place_on n (i + 1)) (first_noted notes (place_on n i) (homes (place_on n i)))
      (lesser least (noted_by notes (homes (place_on n i))))
  kept_step n i notes least kept = go (homes (place_on n i)) refl
    where
      none_here : homes (place_on n i) ≡ None → (q : Place) → IsBefore q (place_on n (i + 1))
          → IsBefore q (place_on n i) ⊎ (homes q ≡ None)
      none_here none q b =
          elim (before_next n i q b) [ inl c ↦ inl c | inr s ↦ inr (ap homes s ∙ none) ]

      with_row : (row : TableRow) → homes (place_on n i) ≡ Some row → (o : Option Place)
          → map.get notes row.key ≡ o
          → Kept homes (place_on n (i + 1)) (noted_if o notes row.key (place_on n i))
          (lesser least o)
      with_row row is None m =
          subst (Kept homes (place_on n (i + 1)) (map.insert notes row.key (place_on n i)))
          (sym (lesser_none least)) (kept_new n i row is notes least kept m)
      with_row row is (Some p0) m = kept_old n i row is notes least kept p0 m

      go : (o : Option TableRow) → homes (place_on n i) ≡ o
          → Kept homes (place_on n (i + 1)) (first_noted notes (place_on n i) o)
          (lesser least (noted_by notes o))
      go None is = subst (Kept homes (place_on n (i + 1)) notes) (sym (lesser_none least))
          (kept_wider (place_on n i) (place_on n (i + 1)) (before_wider n i) (none_here is) notes
          least kept)
      go (Some row) is = with_row row is (map.get notes row.key) refl

  -- ---- the first and the last place
  pub kept_first : (notes : Notes) → notes ≡ map.empty → ((q : Place) → q.page ≡ 0 → homes q ≡ None)
      → Kept homes (place_on 1 0) notes None
  kept_first notes is none = record {
    firsts = λ k. subst (IsFirstOf homes (place_on 1 0) k)
        (sym (ap (λ (m : Notes). map.get m k) is ∙ get-empty {X = Place} nat_cmp k))
        (λ q row b at key. no_row q row (none q (zero_page q b)) at);
    twin = λ p b q row other c at it key. absurd (no_row p row (none p (zero_page p b)) at);
  }
    where
      zero_page : (q : Place) → IsBefore q (place_on 1 0) → q.page ≡ 0
      zero_page q (inl lt) = omega arith
      zero_page q (inr both) = absurd (omega (arith, both.1))

  pub kept_last : (end : Place) (notes : Notes) (least : Option Place)
      → ((q : Place) → IsBefore q end ⊎ (homes q ≡ None)) → Kept homes end notes least
      → IsLeastBreach (IsAlone homes) least
  kept_last end notes least past kept = go least kept.twin
    where
      alone : (p : Place) → IsAloneTo homes end p → IsAlone homes p
      alone p a q row other at it key =
          elim (past q) [ inl b ↦ a q row other b at it key | inr n ↦ absurd (no_row q other n it) ]

      go : (o : Option Place) → IsLeastTwin homes end o → IsLeastBreach (IsAlone homes) o
      go None h = λ p. elim (past p) [
        | inl b ↦ alone p (h p b)
        | inr n ↦ (λ q row other at it key. absurd (no_row p row n at))
      ]
      go (Some p) h = (
        (λ a. h.1 (λ q row other b at it key. a q row other at it key)),
        λ q b. alone q (h.2 q b),
      )

-- ---- over pages

free_home : (pages : List (List Slot)) (p : Place) → slot_of pages p ≡ Free
    → row_at (slot_of pages) p ≡ None
free_home pages p e = ap (home_row (slot_of pages)) e

module _ (pages : List (List Slot)) where
  -- the slots of a page have been seen
  pub kept_page : (n count : ℕ) (notes : Notes) (least : Option Place)
      → count ≡ length (page_at pages n)
      → Kept (row_at (slot_of pages)) (place_on n count) notes least
      → Kept (row_at (slot_of pages)) (place_on (n + 1) 0) notes least
  kept_page n count notes least is kept = kept_wider (row_at (slot_of pages)) (place_on n count)
      (place_on (n + 1) 0) wide none notes least kept
    where
      wide : (q : Place) → IsBefore q (place_on n count) → IsBefore q (place_on (n + 1) 0)
      wide q (inl lt) = inl (omega (arith, lt))
      wide q (inr both) = inl (omega (arith, both.0))

      none : (q : Place) → IsBefore q (place_on (n + 1) 0)
          → IsBefore q (place_on n count) ⊎ (row_at (slot_of pages) q ≡ None)
      none q (inr both) = absurd (omega (arith, both.1))
      none q (inl lt) = elim (cases_lt q.page n) [
        | inl below ↦ inl (inl below)
        | inr le ↦ (let page : q.page ≡ n = omega (arith, lt, le) in elim (cases_lt q.slot count) [
          | inl low ↦ inl (inr (page, low))
          | inr past ↦ inr
              (free_home pages q
              (no_slot pages q
              (omega (arith, past, is, ap (λ (k : ℕ). length (page_at pages k)) page))))
        ])
      ]

  pub kept_start : (notes : Notes) → notes ≡ map.empty
      → Kept (row_at (slot_of pages)) (place_on 1 0) notes None
  kept_start notes is =
      kept_first (row_at (slot_of pages)) notes is (λ q e. free_home pages q (page_zero pages q e))

  pub kept_end : (n : ℕ) (notes : Notes) (least : Option Place) → length pages < n
      → Kept (row_at (slot_of pages)) (place_on n 0) notes least
      → IsLeastBreach (IsAlone (row_at (slot_of pages))) least
  kept_end n notes least past kept =
      kept_last (row_at (slot_of pages)) (place_on n 0) notes least seen kept
    where
      seen : (q : Place) → IsBefore q (place_on n 0) ⊎ (row_at (slot_of pages) q ≡ None)
      seen q = elim (cases_lt q.page n) [
        | inl lt ↦ inl (inl lt)
        | inr le ↦ inr (free_home pages q (no_page pages q (omega (arith, past, le))))
      ]
