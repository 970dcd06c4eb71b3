-- The first entry that is not before another one, and what it says of that one.
use Rattle.std.proofs.Common.{◌≡◌, ◌==◌, ◌&&◌, ◌||◌, ◌<◌, ◌≤◌, ◌⊎◌, ◌+◌, ℕ, Bool, true, false, cond}
use Rattle.std.proofs.Common.{not, find, List, [], ◌∷◌, Option, Some, None, refl, sym, ◌∙◌, subst}
use Rattle.std.proofs.Common.{inl, inr, arith}
use Rattle.std.specs.Prelude.{nat_le}
use Rattle.std.proofs.lemmas.Bool.{cases_Bool, or_left, or_right}
use Rattle.std.proofs.lemmas.Bool.Decides.{nat_tests}
use Rattle.rg_base.specs.declared.place.Place.{Place}
use Rattle.rg_base.specs.Place.{same_place}
use Rattle.rg_base.proofs.Each.{Each-map}
use Rattle.rg_model.specs.Layout.{same_entry, is_entry_before, is_place_before}
use Rattle.std.specs.List.{AllByRecursion}
use Rattle.rg_index.specs.Entries.{IsRising, has_entry}
use Rattle.rg_index.proofs.Lists.{none_behind, list_any-none}
use Rattle.rg_index.proofs.Order.{before_total, before_trans, behind_apart, before_apart, same_is}
use Rattle.rg_index.proofs.Order.{same_itself}

-- ---- the entry is there where it is the first that is not before itself

-- the entry found is the one looked for
abbrev pub is_at : ℕ × Place → Option (ℕ × Place) → Bool
is_at e None = false
is_at e (Some x) = same_entry e x

abbrev from : ℕ × Place → ℕ × Place → Bool
from e x = not (is_entry_before x e)

pub has-found : (e : ℕ × Place) (es : List (ℕ × Place)) → IsRising es
    → is_at e (find (from e) es) ≡ has_entry es e
has-found e [] rising = refl
has-found e (x ∷ es) rising = go (cases_Bool (is_entry_before x e)) (has-found e es rising.1)
  where
    or_none : (a b : Bool) → b ≡ false → a ≡ (a || b)
    or_none true b none = refl
    or_none false b none = sym none

    here : (same : Bool) → same_entry e x ≡ same → is_entry_before x e ≡ false
        → has_entry es e ≡ false
    here true same not_before =
        subst (λ y. has_entry es y ≡ false) (sym (same_is e x same)) (none_behind x es rising.0)
    here false apart not_before =
        list_any-none (same_entry e) es
        (Each-map (λ later. is_entry_before x later ≡ true) (λ later. same_entry e later ≡ false)
        (λ later behind. before_apart e later
        (before_trans e x later (before_total x e not_before apart) behind)) es rising.0)

    go : ((is_entry_before x e ≡ true) ⊎ (is_entry_before x e ≡ false))
        → is_at e (find (from e) es) ≡ has_entry es e
        → is_at e (cond (from e x) (Some x) (find (from e) es)) ≡ (same_entry e x || has_entry es e)
    go (inl before) rest = (λ i. is_at e (cond (not (before i)) (Some x) (find (from e) es))) ∙ rest
        ∙ sym (λ i. behind_apart e x before i || has_entry es e)
    go (inr not_before) rest =
        (λ i. is_at e (cond (not (not_before i)) (Some x) (find (from e) es)))
        ∙ or_none (same_entry e x) (has_entry es e) (here (same_entry e x) refl not_before)

-- ---- the first entry of a value or above

-- no place is before the least one
pub least_place : (key : ℕ) (e : ℕ × Place)
    → from (key, record { page = 0; slot = 0 }) e ≡ nat_le key e.0
least_place key e = go e.0 e.1.page e.1.slot
  where
    go : (v p s : ℕ)
        →
        not (nat_le (v + 1) key || (v == key && (nat_le (p + 1) 0 || (p == 0 && nat_le (s + 1) 0))))
        ≡ nat_le key v
    go v p s = grind (arith, nat_tests)

pub find_same : (p q : ℕ × Place → Bool) → ((e : ℕ × Place) → p e ≡ q e) → (es : List (ℕ × Place))
    → find p es ≡ find q es
find_same p q same [] = refl
find_same p q same (e ∷ es) = λ i. cond (same e i) (Some e) (find_same p q same es i)

-- what is found is an entry, and none of that value is found without one
pub found_there : (key : ℕ) (es : List (ℕ × Place)) (e : ℕ × Place)
    → Some e ≡ find (λ x. nat_le key x.0) es → has_entry es e ≡ true
found_there key [] e is = absurd (cc (is))
found_there key (x ∷ es) e is = go (nat_le key x.0) is (found_there key es e)
  where
    go : (b : Bool) → Some e ≡ cond b (Some x) (find (λ (x : ℕ × Place). nat_le key x.0) es)
        → (Some e ≡ find (λ (x : ℕ × Place). nat_le key x.0) es → has_entry es e ≡ true)
        → (same_entry e x || has_entry es e) ≡ true
    go true is rest =
        (let same : e ≡ x = cc (is) in or_left (same_entry e x) (has_entry es e)
        (subst (λ y. same_entry e y ≡ true) same (same_itself e)))
    go false is rest = or_right (same_entry e x) (has_entry es e) (rest is)

above_none : (key : ℕ) (es : List (ℕ × Place)) → AllByRecursion (λ e. key < e.0) es → (p : Place)
    → has_entry es (key, p) ≡ false
above_none key es above p = list_any-none (same_entry (key, p)) es
    (Each-map (λ e. key < e.0) (λ e. same_entry (key, p) e ≡ false)
    (λ e lt. other e.0 (same_place p e.1) lt) es above)
  where
    other : (v : ℕ) (b : Bool) → key < v → (key == v && b) ≡ false
    other v b lt = (let ne : (key == v) ≡ false = differ v lt in λ i. ne i && b)
      where
        differ : (v : ℕ) → key < v → (key == v) ≡ false
        differ v lt = grind (arith, nat_tests)

-- the first found has another value, or none is found
abbrev pub IsElse : ℕ → Option (ℕ × Place) → Type 0
IsElse key None = Unit {0}
IsElse key (Some e) = (e.0 == key) ≡ false

pub found_none : (key : ℕ) (es : List (ℕ × Place)) → IsRising es
    → IsElse key (find (λ x. nat_le key x.0) es) → (p : Place) → has_entry es (key, p) ≡ false
found_none key [] rising other p = refl
found_none key (x ∷ es) rising other p =
    go (nat_le key x.0) refl other (λ o. found_none key es rising.1 o p)
  where
    apart : (a b : ℕ) → nat_le a b ≡ true → (b == a) ≡ false → a < b
    apart a b le ne = grind (arith, nat_tests)

    below : (a b : ℕ) → nat_le a b ≡ false → (a == b) ≡ false
    below a b gt = grind (arith, nat_tests)

    not_below : (a b : ℕ × Place) → is_entry_before a b ≡ true → a.0 ≤ b.0
    not_below a b before = go a.0 b.0 (is_place_before a.1 b.1) before
      where
        go : (v w : ℕ) (t : Bool) → (nat_le (v + 1) w || (v == w && t)) ≡ true → v ≤ w
        go v w true e = grind (arith, nat_tests)
        go v w false e = grind (arith, nat_tests)

    go : (b : Bool) → nat_le key x.0 ≡ b
        → IsElse key (cond b (Some x) (find (λ (x : ℕ × Place). nat_le key x.0) es))
        → (IsElse key (find (λ (x : ℕ × Place). nat_le key x.0) es) → has_entry es (key, p) ≡ false)
        → (same_entry (key, p) x || has_entry es (key, p)) ≡ false
    go true le o rest =
        let lt : key < x.0 = apart key x.0 le o in
        above_none key (x ∷ es) (
          lt,
          Each-map (λ later. is_entry_before x later ≡ true) (λ later. key < later.0)
              (λ later behind. (let up = not_below x later behind in omega arith)) es rising.0,
        ) p
    go false gt o rest =
        (λ i. (below key x.0 gt i && same_place p x.1) || has_entry es (key, p)) ∙ rest o
