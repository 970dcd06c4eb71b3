-- The walk over the targets finds one where a source has it.
use Rattle.std.proofs.Common.{◌≡◌, ◌==◌, ◌&&◌, ◌||◌, ℕ, Bool, true, false, cond, List, [], ◌∷◌}
use Rattle.std.proofs.Common.{Some, refl, sym, ◌∙◌, ap}
use Rattle.std.specs.List.{list_any, AllByRecursion, IsDistinct}
use Rattle.std.specs.Map.{keys_of, values_of}
use Rattle.std.proofs.lemmas.Bool.{and_from, and_parts, eqb-true, eq-eqb, or_right}
use Rattle.std.proofs.lemmas.Option.{none-some, same_Some}
use Rattle.rg_base.specs.declared.place.Place.{Place}
use Rattle.rg_base.proofs.Small.{nat_turned}
use Rattle.rg_base.specs.Place.{same_place}
use Rattle.rg_base.proofs.SamePlace.{same_place-true}
use Rattle.rg_map.specs.Mapping.{IsFree, IsTarget, targets_of}
use Rattle.rg_map.proofs.Places.{found_at, get-targets}

same_place-refl : (p : Place) → same_place p p ≡ true
same_place-refl p = and_from (p.page == p.page) (p.slot == p.slot) (eq-eqb p.page p.page refl)
    (eq-eqb p.slot p.slot refl)

abbrev same_key : ℕ × ℕ → ℕ × ℕ → Bool
same_key a b = a.0 == b.0 && a.1 == b.1

same_key-refl : (k : ℕ × ℕ) → same_key k k ≡ true
same_key-refl k = and_from (k.0 == k.0) (k.1 == k.1) (eq-eqb k.0 k.0 refl) (eq-eqb k.1 k.1 refl)

-- a value that is found is among the values
found_among : (es : List ((ℕ × ℕ) × Place)) (key : ℕ × ℕ) (target : Place)
    → found_at es key ≡ Some target
    → list_any (λ value. same_place value target) (values_of es) ≡ true
found_among [] key target e = absurd (none-some target e)
found_among (x ∷ es) key target e = go (same_key key x.0) e (found_among es key target)
  where
    go : (b : Bool) → cond b (Some x.1) (found_at es key) ≡ Some target
        → (found_at es key ≡ Some target
        → list_any (λ value. same_place value target) (values_of es) ≡ true)
        → (same_place x.1 target || list_any (λ value. same_place value target) (values_of es))
        ≡ true
    go true f rest = ap (λ b. b || list_any (λ value. same_place value target) (values_of es))
        (ap (λ place. same_place place target) (same_Some x.1 target f) ∙ same_place-refl target)
    go false f rest = or_right (same_place x.1 target) _ (rest f)

pub free_of : (es : List ((ℕ × ℕ) × Place)) (target : Place)
    → list_any (λ value. same_place value target) (values_of es) ≡ false
    → IsFree (targets_of es) target
free_of es target none source at_source = cc (
  none,
  found_among es (source.page, source.slot) target (sym (get-targets es source) ∙ at_source),
)

key_turned : (a b : ℕ × ℕ) → same_key a b ≡ same_key b a
key_turned a b = ap (λ (c : Bool). c && (a.1 == b.1)) (nat_turned a.0 b.0)
    ∙ ap (λ (c : Bool). (b.0 == a.0) && c) (nat_turned a.1 b.1)

same_key-true : (a b : ℕ × ℕ) → same_key a b ≡ true → a ≡ b
same_key-true a b e =
    let parts = and_parts (a.0 == b.0) (a.1 == b.1) e in
    λ i. (eqb-true a.0 b.0 parts.0 i, eqb-true a.1 b.1 parts.1 i)

-- a key behind the first is another
not_first : (es : List ((ℕ × ℕ) × Place)) (first key : ℕ × ℕ) (target : Place)
    → AllByRecursion (λ later. same_key first later ≡ false) (keys_of es)
    → found_at es key ≡ Some target → same_key key first ≡ false
not_first [] first key target apart e = absurd (none-some target e)
not_first (x ∷ es) first key target apart e =
    go (same_key key x.0) refl e (not_first es first key target apart.1)
  where
    go : (b : Bool) → same_key key x.0 ≡ b → cond b (Some x.1) (found_at es key) ≡ Some target
        → (found_at es key ≡ Some target → same_key key first ≡ false) → same_key key first ≡ false
    go true is f rest =
        key_turned key first ∙ ap (same_key first) (same_key-true key x.0 is) ∙ apart.0
    go false is f rest = rest f

pub taken_by : (es : List ((ℕ × ℕ) × Place)) (target : Place) → IsDistinct same_key (keys_of es)
    → list_any (λ value. same_place value target) (values_of es) ≡ true
    → (key : ℕ × ℕ) × (found_at es key ≡ Some target)
unfolding IsDistinct
taken_by [] target distinct e = cc (e)
taken_by (x ∷ es) target distinct e =
    go (same_place x.1 target) refl e (taken_by es target distinct.1)
  where
    go : (b : Bool) → same_place x.1 target ≡ b
        → (b || list_any (λ value. same_place value target) (values_of es)) ≡ true
        → (list_any (λ value. same_place value target) (values_of es) ≡ true
        → (key : ℕ × ℕ) × (found_at es key ≡ Some target))
        → (key : ℕ × ℕ) × (cond (same_key key x.0) (Some x.1) (found_at es key) ≡ Some target)
    go true is f rest = (
      x.0,
      ap (λ b. cond b (Some x.1) (found_at es x.0)) (same_key-refl x.0)
          ∙ ap Some (same_place-true x.1 target is),
    )
    go false is f rest =
        let later = rest f in (
          later.0,
          ap (λ b. cond b (Some x.1) (found_at es later.0))
              (not_first es x.0 later.0 target distinct.0 later.1) ∙ later.1,
        )

pub target_of_key : (es : List ((ℕ × ℕ) × Place)) (target : Place)
    → IsDistinct same_key (keys_of es)
    → list_any (λ value. same_place value target) (values_of es) ≡ true
    → IsTarget (targets_of es) target
target_of_key es target distinct any =
    let found = taken_by es target distinct any in (
      record { page = found.0.0; slot = found.0.1 },
      get-targets es (record { page = found.0.0; slot = found.0.1 }) ∙ found.1,
    )
