-- Lists in order, and their members.
use Rattle.std.specs.Prelude.{◌≡◌, ◌<◌, ◌⊎◌, List, [], ◌∷◌}
use Rattle.std.specs.List.{AllByRecursion}
use Rattle.rg_stmt.specs.declared.layout.Spot.{Spot}

-- each is before all that stand after it
abbrev pub InTurn : {X : Type 0} → (X → X → Type 0) → List X → Type 0
InTurn IsBefore [] = Unit {0}
InTurn IsBefore (x ∷ xs) = AllByRecursion (IsBefore x) xs × InTurn IsBefore xs

-- x is one of these
abbrev pub IsMember : {X : Type 0} → X → List X → Type 0
IsMember x [] = ⊥
IsMember x (y ∷ ys) = (x ≡ y) ⊎ IsMember x ys

-- each member of one is a member of the other
pub record HaveSame {X : Type 0} (xs ys : List X) : Type 0 where
  pub to : (x : X) → IsMember x xs → IsMember x ys
  pub from : (x : X) → IsMember x ys → IsMember x xs

-- the first is below the second by clus, then by key
abbrev pub IsBelow : Spot → Spot → Type 0
IsBelow a b = (a.clus < b.clus) ⊎ ((a.clus ≡ b.clus) × (a.key < b.key))
