-- A list in order is known by its members.
use Rattle.std.proofs.Common.{◌≡◌, ◌&&◌, Bool, true, false, List, [], ◌∷◌, refl, sym, ◌∙◌, ap}
use Rattle.std.proofs.Common.{subst, inl, inr, ◌⊎◌, arith}
use Rattle.std.specs.List.{AllByRecursion, list_all}
use Rattle.rg_stmt.specs.declared.layout.Spot.{Spot}
use Rattle.rg_model.specs.Layout.{are_rising, homes, is_place_before}
use Rattle.rg_model.proofs.Before.{never_both}
use Rattle.rg_laws_utility.specs.TraceLocks.Laws.{SameRising}
use Rattle.rg_laws_utility.specs.TraceLocks.Rising.{HaveSame, InTurn, IsBelow, IsMember}

module _ {X : Type 0} (R : X → X → Type 0) where
  -- a member of the later ones comes later
  pub later_member : (x y : X) (ys : List X) → AllByRecursion (R x) ys → IsMember y ys → R x y
  later_member x y [] all member = absurd member
  later_member x y (z ∷ zs) all (inl e) = subst (R x) (sym e) all.0
  later_member x y (z ∷ zs) all (inr member) = later_member x y zs all.1 member

  module _ (apart : (a b : X) → R a b → R b a → ⊥) where
    -- the members after the first are those of the rest
    rest_of : (x y z : X) (xs ys : List X) → AllByRecursion (R x) xs → x ≡ y → IsMember z xs
        → (z ≡ y) ⊎ IsMember z ys → IsMember z ys
    rest_of x y z xs ys all heads member (inr there) = there
    rest_of x y z xs ys all heads member (inl e) = absurd (apart x x itself itself)
      where
        itself : R x x
        itself = subst (R x) (e ∙ sym heads) (later_member x z xs all member)

    head_of : (x y : X) (xs ys : List X) → AllByRecursion (R x) xs → AllByRecursion (R y) ys
        → (x ≡ y) ⊎ IsMember x ys → (y ≡ x) ⊎ IsMember y xs → x ≡ y
    head_of x y xs ys after_x after_y (inl e) m = e
    head_of x y xs ys after_x after_y (inr m) (inl e) = sym e
    head_of x y xs ys after_x after_y (inr m) (inr n) =
        absurd (apart x y (later_member x y xs after_x n) (later_member y x ys after_y m))

    -- two lists in order with the same members are one
    pub same_rising : (xs ys : List X) → InTurn R xs → InTurn R ys → HaveSame xs ys → xs ≡ ys
    same_rising [] [] v w same = refl
    same_rising [] (y ∷ ys) v w same = absurd (same.from y (inl refl))
    same_rising (x ∷ xs) [] v w same = absurd (same.to x (inl refl))
    same_rising (x ∷ xs) (y ∷ ys) v w same =
        let heads = head_of x y xs ys v.0 w.0 (same.to x (inl refl)) (same.from y (inl refl)) in
        ap (λ z. z ∷ xs) heads
        ∙ ap (λ zs. y ∷ zs)
        (same_rising xs ys v.1 w.1
        (record {
          to = λ z m. rest_of x y z xs ys v.0 heads m (same.to z (inr m));
          from = λ z m. rest_of y x z ys xs w.0 (sym heads) m (same.from z (inr m));
        }))

-- spots by clus and key

pub below_apart : (a b : Spot) → IsBelow a b → IsBelow b a → ⊥
below_apart a b (inl h) (inl k) = omega arith
below_apart a b (inl h) (inr k) = let e = k.0 in omega arith
below_apart a b (inr h) (inl k) = let e = h.0 in omega arith
below_apart a b (inr h) (inr k) = let l = h.1 in let m = k.1 in omega arith

-- spots by place

abbrev pub LiesBefore : Spot → Spot → Type 0
LiesBefore a b = is_place_before a.place b.place ≡ true

each_lies : (spot : Spot) (spots : List Spot)
    → list_all (λ later. is_place_before spot.place later) (homes spots) ≡ true
    → AllByRecursion (LiesBefore spot) spots
each_lies spot [] e = tt
each_lies spot (s ∷ ss) e = go (is_place_before spot.place s.place) refl e (each_lies spot ss)
  where
    go : (b : Bool) → is_place_before spot.place s.place ≡ b
        → (b && list_all (λ later. is_place_before spot.place later) (homes ss)) ≡ true
        → (list_all (λ later. is_place_before spot.place later) (homes ss) ≡ true
        → AllByRecursion (LiesBefore spot) ss)
        → AllByRecursion (LiesBefore spot) (s ∷ ss)
    go true test e rest = (test, rest e)
    go false test e rest = absurd (cc (e))

pub in_turn : (spots : List Spot) → are_rising (homes spots) ≡ true → InTurn LiesBefore spots
in_turn [] e = tt
in_turn (s ∷ ss) e =
    go (list_all (λ later. is_place_before s.place later) (homes ss)) refl e (in_turn ss)
  where
    go : (b : Bool) → list_all (λ later. is_place_before s.place later) (homes ss) ≡ b
        → (b && are_rising (homes ss)) ≡ true
        → (are_rising (homes ss) ≡ true → InTurn LiesBefore ss) → InTurn LiesBefore (s ∷ ss)
    go true test e rest = (each_lies s ss test, rest e)
    go false test e rest = absurd (cc (e))

pub same_spots : SameRising
same_spots =
    record {
      by_key = λ a b v w same. same_rising IsBelow below_apart a b v w same;
      by_place = λ a b v w same. same_rising LiesBefore (λ x y. never_both x.place y.place) a b
          (in_turn a v) (in_turn b w) same;
    }
