-- Entries are in a total order.
use Rattle.std.proofs.Common.{◌≡◌, ◌==◌, ◌&&◌, ◌||◌, ◌+◌, ℕ, Bool, true, false, arith}
use Rattle.std.specs.Prelude.{nat_le, not}
use Rattle.std.proofs.lemmas.Bool.Decides.{nat_tests}
use Rattle.rg_base.specs.declared.place.Place.{Place}
use Rattle.std.proofs.lemmas.Bool.{eqb-true, and_parts}
use Rattle.rg_base.specs.Place.{same_place}
use Rattle.rg_model.specs.Layout.{is_entry_before, same_entry}

-- by three numbers
abbrev before3 : ℕ → ℕ → ℕ → ℕ → ℕ → ℕ → Bool
before3 v p s w q t =
    nat_le (v + 1) w || (v == w && (nat_le (p + 1) q || (p == q && nat_le (s + 1) t)))

trans3 : (v p s w q t x r u : ℕ) → before3 v p s w q t ≡ true → before3 w q t x r u ≡ true
    → before3 v p s x r u ≡ true
trans3 v p s w q t x r u a b = grind (arith, nat_tests)

asym3 : (v p s w q t : ℕ) → before3 v p s w q t ≡ true → before3 w q t v p s ≡ false
asym3 v p s w q t a = grind (arith, nat_tests)

total3 : (v p s w q t : ℕ) → before3 v p s w q t ≡ false → (v == w && (p == q && s == t)) ≡ false
    → before3 w q t v p s ≡ true
total3 v p s w q t a b = grind (arith, nat_tests)

apart3 : (v p s w q t : ℕ) → before3 v p s w q t ≡ true → (v == w && (p == q && s == t)) ≡ false
apart3 v p s w q t a = grind (arith, nat_tests)

pub before_trans : (a b c : ℕ × Place) → is_entry_before a b ≡ true → is_entry_before b c ≡ true
    → is_entry_before a c ≡ true
before_trans a b c p q =
    trans3 a.0 a.1.page a.1.slot b.0 b.1.page b.1.slot c.0 c.1.page c.1.slot p q

pub before_asym : (a b : ℕ × Place) → is_entry_before a b ≡ true → is_entry_before b a ≡ false
before_asym a b p = asym3 a.0 a.1.page a.1.slot b.0 b.1.page b.1.slot p

pub before_total : (a b : ℕ × Place) → is_entry_before a b ≡ false → same_entry b a ≡ false
    → is_entry_before b a ≡ true
before_total a b p q = total3' a.0 a.1.page a.1.slot b.0 b.1.page b.1.slot p q
  where
    total3' : (v p s w q t : ℕ) → before3 v p s w q t ≡ false
        → (w == v && (q == p && t == s)) ≡ false → before3 w q t v p s ≡ true
    total3' v p s w q t a b = grind (arith, nat_tests)

-- an entry is not before another, and is not the same: then the other is before it, whichever is
-- named first
pub before_apart : (a b : ℕ × Place) → is_entry_before a b ≡ true → same_entry a b ≡ false
before_apart a b p = apart3 a.0 a.1.page a.1.slot b.0 b.1.page b.1.slot p

pub behind_apart : (a b : ℕ × Place) → is_entry_before b a ≡ true → same_entry a b ≡ false
behind_apart a b p = apart3' b.0 b.1.page b.1.slot a.0 a.1.page a.1.slot p
  where
    apart3' : (v p s w q t : ℕ) → before3 v p s w q t ≡ true
        → (w == v && (q == p && t == s)) ≡ false
    apart3' v p s w q t a = grind (arith, nat_tests)

pub same_is : (a b : ℕ × Place) → same_entry a b ≡ true → a ≡ b
same_is a b e =
    let parts = and_parts (a.0 == b.0) (same_place a.1 b.1) e in
    let places = and_parts (a.1.page == b.1.page) (a.1.slot == b.1.slot) parts.1 in
    let value = eqb-true a.0 b.0 parts.0 in
    let page = eqb-true a.1.page b.1.page places.0 in
    let slot = eqb-true a.1.slot b.1.slot places.1 in
    λ i. (value i, record { page = page i; slot = slot i })

pub same_itself : (a : ℕ × Place) → same_entry a a ≡ true
same_itself a = itself3 a.0 a.1.page a.1.slot
  where
    itself3 : (v p s : ℕ) → (v == v && (p == p && s == s)) ≡ true
    itself3 v p s = grind (arith, nat_tests)

-- what an entry that is not behind another has behind it, the other has too
pub not_behind_trans : (a b c : ℕ × Place) → is_entry_before b a ≡ false
    → is_entry_before b c ≡ true → is_entry_before a c ≡ true
not_behind_trans a b c p q =
    through3 a.0 a.1.page a.1.slot b.0 b.1.page b.1.slot c.0 c.1.page c.1.slot p q
  where
    through3 : (v p s w q t x r u : ℕ) → before3 w q t v p s ≡ false → before3 w q t x r u ≡ true
        → before3 v p s x r u ≡ true
    through3 v p s w q t x r u a b = grind (arith, nat_tests)

-- what is before what passes passes too
pub down_through : (entry a b : ℕ × Place) → is_entry_before a b ≡ true
    → not (is_entry_before entry b) ≡ true → not (is_entry_before entry a) ≡ true
down_through entry a b p q =
    go entry.0 entry.1.page entry.1.slot a.0 a.1.page a.1.slot b.0 b.1.page b.1.slot p q
  where
    go : (x r u v p s w q t : ℕ) → before3 v p s w q t ≡ true → not (before3 x r u w q t) ≡ true
        → not (before3 x r u v p s) ≡ true
    go x r u v p s w q t a b = grind (arith, nat_tests)

pub down_below : (value : ℕ) (a b : ℕ × Place) → is_entry_before a b ≡ true
    → nat_le (b.0 + 1) value ≡ true → nat_le (a.0 + 1) value ≡ true
down_below value a b p q = go a.0 a.1.page a.1.slot b.0 b.1.page b.1.slot p q
  where
    go : (v p s w q t : ℕ) → before3 v p s w q t ≡ true → nat_le (w + 1) value ≡ true
        → nat_le (v + 1) value ≡ true
    go v p s w q t a b = grind (arith, nat_tests)

pub down_up_to : (value : ℕ) (a b : ℕ × Place) → is_entry_before a b ≡ true
    → nat_le b.0 value ≡ true → nat_le a.0 value ≡ true
down_up_to value a b p q = go a.0 a.1.page a.1.slot b.0 b.1.page b.1.slot p q
  where
    go : (v p s w q t : ℕ) → before3 v p s w q t ≡ true → nat_le w value ≡ true
        → nat_le v value ≡ true
    go v p s w q t a b = grind (arith, nat_tests)

-- an entry that is neither before another nor the same is behind it
pub before_turned : (a b : ℕ × Place) → is_entry_before a b ≡ false → same_entry a b ≡ false
    → is_entry_before b a ≡ true
before_turned a b p q = total3 a.0 a.1.page a.1.slot b.0 b.1.page b.1.slot p q
