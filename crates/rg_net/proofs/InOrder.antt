-- The last change of each home, in the order of homes, is the net.
use Rattle.std.proofs.Common.{◌≡◌, ◌==◌, ◌&&◌, ◌||◌, nat_le, ℕ, zero, suc, ◌+◌, Bool, true, false}
use Rattle.std.proofs.Common.{cond, List, [], ◌∷◌, Option, Some, None, map, refl, sym, ◌∙◌, ap}
use Rattle.std.proofs.Common.{subst, arith, ◌⊎◌, inl, inr}
use Rattle.std.specs.BTreeMap.{BTreeMap, is_at}
use Rattle.std.specs.Cmp.{tied_then, unsigned_tied}
use Rattle.std.specs.List.{All, AllByRecursion, Contains, list_all}
use Rattle.std.specs.List.Sorted.{IsStrictlySortedBy}
use Rattle.std.specs.Map.{keys_of, lookup, values_of}
use Rattle.std.specs.Ordering.{is_eq, nat_cmp, ordering_then}
use Rattle.std.specs.declared.cmp.Ordering.{Ordering}
use Rattle.std.specs.declared.cmp.Ordering.TheVariants.{Less, Equal, Greater}
use Rattle.std.proofs.lemmas.Bool.{and_from, and_parts, eqb-true, eq-eqb, or_right}
use Rattle.std.proofs.lemmas.Bool.Decides.{nat_tests}
use Rattle.std.proofs.lemmas.Option.{none-some, same_Some}
use Rattle.rg_base.specs.declared.change.Change.{Change}
use Rattle.rg_base.specs.declared.place.Place.{Place}
use Rattle.rg_base.specs.Place.{same_place}
use Rattle.rg_base.proofs.SamePlace.{same_place-true, same_place-turned}
use Rattle.rg_model.specs.Layout.{are_rising, is_place_before}
use Rattle.rg_net.specs.ByHome.{HasLast, key_cmp, place_of}
use Rattle.rg_feed.specs.Fold.Last.{last_at, later_of}

abbrev Entries : Type 0
Entries = List ((ℕ × ℕ) × Change)

abbrev found : Entries → ℕ × ℕ → Option Change
found es key = lookup (is_at (key_cmp key)) es

-- the order of keys

key_tied : (a b : ℕ × ℕ) → is_eq (key_cmp a b) ≡ same_place (place_of a) (place_of b)
key_tied a b = sym (tied_then (nat_cmp a.0 b.0) (nat_cmp a.1 b.1))
    ∙ ap (λ c. c && is_eq (nat_cmp a.1 b.1)) (unsigned_tied a.0 b.0)
    ∙ ap (λ c. (a.0 == b.0) && c) (unsigned_tied a.1 b.1)

key_of-tied : (a b : ℕ × ℕ) → is_eq (key_cmp a b) ≡ true → a ≡ b
key_of-tied a b e =
    let parts = and_parts (a.0 == b.0) (a.1 == b.1) (sym (key_tied a b) ∙ e) in
    λ i. (eqb-true a.0 b.0 parts.0 i, eqb-true a.1 b.1 parts.1 i)

less_page : (a b : ℕ) → nat_cmp a b ≡ Less → nat_le (a + 1) b ≡ true
less_page a b e = grind (arith, nat_tests)

equal_page : (a b : ℕ) → nat_cmp a b ≡ Equal → (a == b) ≡ true
equal_page a b e = grind (arith, nat_tests)

-- a lower key is of a place before
key_before : (a b : ℕ × ℕ) → key_cmp a b ≡ Less → is_place_before (place_of a) (place_of b) ≡ true
key_before a b e = go (nat_cmp a.0 b.0) refl e
  where
    go : (o : Ordering) → nat_cmp a.0 b.0 ≡ o → ordering_then o (nat_cmp a.1 b.1) ≡ Less
        → (nat_le (a.0 + 1) b.0 || ((a.0 == b.0) && nat_le (a.1 + 1) b.1)) ≡ true
    go Less is f = ap (λ c. c || ((a.0 == b.0) && nat_le (a.1 + 1) b.1)) (less_page a.0 b.0 is)
    go Equal is f = or_right (nat_le (a.0 + 1) b.0) _
        (and_from (a.0 == b.0) (nat_le (a.1 + 1) b.1) (equal_page a.0 b.0 is) (less_page a.1 b.1 f))
    go Greater is f = cc (f)

key_itself : (a : ℕ × ℕ) → is_eq (key_cmp a a) ≡ true
key_itself a =
    key_tied a a ∙ and_from (a.0 == a.0) (a.1 == a.1) (eq-eqb a.0 a.0 refl) (eq-eqb a.1 a.1 refl)

-- a key below all of these is not among them
none_behind : (es : Entries) (first : ℕ × ℕ)
    → AllByRecursion (λ later. key_cmp first later ≡ Less) (keys_of es) → found es first ≡ None
none_behind [] first behind = refl
none_behind (e ∷ es) first behind =
    ap (λ o. cond (is_eq o) (Some e.1) (found es first)) behind.0 ∙ none_behind es first behind.1

-- what is found behind the first is found with it
still_found : (e : (ℕ × ℕ) × Change) (es : Entries) (key : ℕ × ℕ) (change : Change)
    → AllByRecursion (λ later. key_cmp e.0 later ≡ Less) (keys_of es)
    → found es key ≡ Some change → found (e ∷ es) key ≡ Some change
still_found e es key change behind there = go (is_eq (key_cmp key e.0)) refl
  where
    go : (b : Bool) → is_eq (key_cmp key e.0) ≡ b → cond b (Some e.1) (found es key) ≡ Some change
    go true is = absurd
        (none-some change
        (sym (ap (found es) (key_of-tied key e.0 is) ∙ none_behind es e.0 behind) ∙ there))
    go false is = there

-- what holds of all that is found holds of each entry
each_entry : (Q : ℕ × ℕ → Change → Type 0) (es : Entries) → IsStrictlySortedBy key_cmp (keys_of es)
    → ((key : ℕ × ℕ) (change : Change) → found es key ≡ Some change → Q key change)
    → AllByRecursion (λ e. Q e.0 e.1) es
unfolding IsStrictlySortedBy
each_entry Q [] sorted holds = tt
each_entry Q (e ∷ es) sorted holds = (
  holds e.0 e.1 (ap (λ b. cond b (Some e.1) (found es e.0)) (key_itself e.0)),
  each_entry Q es sorted.1
      (λ key change there. holds key change (still_found e es key change sorted.0 there)),
)

-- the last change of a place is one of them, and is of that place

last_of_two : (place : Place) (x change : Change) (later : Option Change) (b : Bool)
    → later_of later (cond b (Some x) None) ≡ Some change
    → (later ≡ Some change) ⊎ ((b ≡ true) × (x ≡ change))
last_of_two place x change None true e = inr (refl, same_Some x change e)
last_of_two place x change None false e = absurd (none-some change e)
last_of_two place x change (Some last) b e = inl e

home-last : (place : Place) (changes : List Change) (change : Change)
    → last_at place changes ≡ Some change → same_place change.home place ≡ true
home-last place [] change e = absurd (none-some change e)
home-last place (x ∷ xs) change e =
    elim (last_of_two place x change (last_at place xs) (same_place x.home place) e) [
      | inl later ↦ home-last place xs change later
      | inr here ↦ ap (λ (c : Change). same_place c.home place) (sym here.1) ∙ here.0
    ]

contains-more : (x : Change) (xs : List Change) (change : Change) → Contains xs change
    → Contains (x ∷ xs) change
contains-more x xs change at = (suc at.0, omega (arith, at.1), at.2)

contains-last : (place : Place) (changes : List Change) (change : Change)
    → last_at place changes ≡ Some change → Contains changes change
contains-last place [] change e = absurd (none-some change e)
contains-last place (x ∷ xs) change e =
    elim (last_of_two place x change (last_at place xs) (same_place x.home place) e) [
      | inl later ↦ contains-more x xs change (contains-last place xs change later)
      | inr here ↦ (0, omega arith, here.1)
    ]

abbrev IsHomed : Entries → Type 0
IsHomed es = AllByRecursion (λ e. e.1.home ≡ place_of e.0) es

-- the last of entries in order is the one that is found
last_at-values : (es : Entries) (place : Place) → IsStrictlySortedBy key_cmp (keys_of es)
    → IsHomed es → last_at place (values_of es) ≡ found es (place.page, place.slot)
unfolding IsStrictlySortedBy
last_at-values [] place sorted homed = refl
last_at-values (e ∷ es) place sorted homed =
    ap (λ later. later_of later (cond (same_place e.1.home place) (Some e.1) None))
    (last_at-values es place sorted.1 homed.1)
    ∙ ap
    (λ home. later_of (found es (place.page, place.slot))
    (cond (same_place home place) (Some e.1) None)) homed.0
    ∙ ap (λ b. later_of (found es (place.page, place.slot)) (cond b (Some e.1) None))
    (same_place-turned (place_of e.0) place ∙ sym (key_tied (place.page, place.slot) e.0))
    ∙ go (is_eq (key_cmp (place.page, place.slot) e.0)) (found es (place.page, place.slot))
    (λ is. ap (found es) (key_of-tied (place.page, place.slot) e.0 is)
    ∙ none_behind es e.0 sorted.0)
  where
    go : (b : Bool) (later : Option Change) → (b ≡ true → later ≡ None)
        → later_of later (cond b (Some e.1) None) ≡ cond b (Some e.1) later
    go true later none = ap (λ l. later_of l (Some e.1)) (none refl)
    go false None none = refl
    go false (Some change) none = refl

-- the homes of entries in order rise

all_before : (es : Entries) (first : ℕ × ℕ) (home : Place) → home ≡ place_of first
    → AllByRecursion (λ later. key_cmp first later ≡ Less) (keys_of es) → IsHomed es
    → list_all (λ later. is_place_before home later) (map (λ (c : Change). c.home) (values_of es))
    ≡ true
all_before [] first home is behind homed = refl
all_before (e ∷ es) first home is behind homed =
    and_from (is_place_before home e.1.home) _
    (ap (λ p. is_place_before p e.1.home) is ∙ ap (is_place_before (place_of first)) homed.0
    ∙ key_before first e.0 behind.0)
    (all_before es first home is behind.1 homed.1)

rising-values : (es : Entries) → IsStrictlySortedBy key_cmp (keys_of es) → IsHomed es
    → are_rising (map (λ (c : Change). c.home) (values_of es)) ≡ true
unfolding IsStrictlySortedBy
rising-values [] sorted homed = refl
rising-values (e ∷ es) sorted homed =
    and_from
    (list_all (λ later. is_place_before e.1.home later)
    (map (λ (c : Change). c.home) (values_of es))) _
    (all_before es e.0 e.1.home homed.0 sorted.0 homed.1) (rising-values es sorted.1 homed.1)

members-values : (changes : List Change) (es : Entries)
    → AllByRecursion (λ e. Contains changes e.1) es → All (Contains changes) (values_of es)
members-values changes [] there k d within = absurd (omega (arith, within))
members-values changes (e ∷ es) there zero d within = there.0
members-values changes (e ∷ es) there (suc k) d within =
    members-values changes es there.1 k d (omega (arith, within))

module _ (changes : List Change) (kept : BTreeMap (ℕ × ℕ) Change) (has : HasLast changes kept)
    (net : List Change) (is : net ≡ values_of kept.entries) where
  homed : IsHomed kept.entries
  homed = each_entry (λ key change. change.home ≡ place_of key) kept.entries has.ordered
      (λ key change there. same_place-true change.home (place_of key)
      (home-last (place_of key) changes change (sym (has.last key) ∙ there)))

  pub net-last : (place : Place) → last_at place net ≡ last_at place changes
  net-last place = ap (last_at place) is ∙ last_at-values kept.entries place has.ordered homed
      ∙ has.last (place.page, place.slot)

  pub net-homes : are_rising (map (λ (c : Change). c.home) net) ≡ true
  net-homes = ap (λ (cs : List Change). are_rising (map (λ (c : Change). c.home) cs)) is
      ∙ rising-values kept.entries has.ordered homed

  pub net-members : All (Contains changes) net
  net-members = subst (All (Contains changes)) (sym is)
      (members-values changes kept.entries
      (each_entry (λ _ change. Contains changes change) kept.entries has.ordered
      (λ key change there. contains-last (place_of key) changes change
      (sym (has.last key) ∙ there))))
