-- Members of lists that are mapped and joined.
use Rattle.std.proofs.Common.{◌≡◌, zero, suc, Bool, true, false, cond, List, [], ◌∷◌, map, filter}
use Rattle.std.proofs.Common.{sym, ◌∙◌, ap, subst, arith}
use Rattle.std.specs.List.{Contains, flat_map}
use Rattle.std.proofs.lemmas.List.Elements.{Contains-append_left, Contains-append_right}

pub only_one : {X : Type 0} (x y : X) → y ≡ x → Contains (x ∷ []) y
only_one x y e = (0, omega arith, sym e)

-- one element further
later : {X : Type 0} (y : X) (xs : List X) (x : X) → Contains xs x → Contains (y ∷ xs) x
later y xs x (k, lt, is) = (suc k, omega arith, is)

module _ {X Y : Type 0} (f : X → Y) (p : X → Bool) where
  -- an element that passes is among those kept, as f gives it
  pub Contains-map_filter : (xs : List X) (x : X) → Contains xs x → p x ≡ true
      → Contains (map f (filter p xs)) (f x)
  Contains-map_filter [] x (k, lt, is) passes = absurd (omega arith)
  Contains-map_filter (y ∷ xs) x (zero, lt, is) passes =
      let here : p y ≡ true = ap p is ∙ passes in
      rw here (0, omega arith, ap f is)
  Contains-map_filter (y ∷ xs) x (suc k, lt, is) passes =
      let among = Contains-map_filter xs x (k, omega arith, is) passes in
      elim (p y) as (λ b. Contains (map f (cond b (y ∷ filter p xs) (filter p xs))) (f x)) [
        | true ↦ later (f y) (map f (filter p xs)) (f x) among
        | false ↦ among
      ]

module _ {X Y : Type 0} (f : X → List Y) where
  -- what one element leads to is among what all lead to
  pub Contains-flat_map : (xs : List X) (x : X) (y : Y) → Contains xs x → Contains (f x) y
      → Contains (flat_map f xs) y
  Contains-flat_map [] x y (k, lt, is) there = absurd (omega arith)
  Contains-flat_map (z ∷ xs) x y (zero, lt, is) there =
      Contains-append_left (f z) (flat_map f xs) y (subst (λ w. Contains (f w) y) (sym is) there)
  Contains-flat_map (z ∷ xs) x y (suc k, lt, is) there = Contains-append_right (f z) (flat_map f xs)
      y (Contains-flat_map xs x y (k, omega arith, is) there)
