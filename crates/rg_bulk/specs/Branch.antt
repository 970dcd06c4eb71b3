-- What a node is seen as, with all that is below it.
use Rattle.std.specs.Prelude.{ℕ, zero, suc, ◌+◌, List, [], ◌∷◌, length}
use Rattle.std.specs.List.{flat_map}
use Rattle.rg_base.specs.declared.place.Place.{Place}

-- the entries in order; how many levels are below the node; how many entries a leaf has, or
-- children an inner node; how many nodes there are, this one included, and how many of them are
-- inner ones
pub record Branch : Type 0 where
  pub entries : List (ℕ × Place)
  pub height : ℕ
  pub fill : ℕ
  pub nodes : ℕ
  pub inners : ℕ

-- the first of the entries
abbrev pub first_of : List (ℕ × Place) → ℕ × Place
first_of [] = (0, record { page = 0; slot = 0 })
first_of (e ∷ es) = e

-- the entries of branches, one after another
abbrev pub joined : List Branch → List (ℕ × Place)
joined kids = flat_map (λ kid. kid.entries) kids

-- a number of each branch, added up
abbrev pub total : (Branch → ℕ) → List Branch → ℕ
total number [] = 0
total number (kid ∷ kids) = number kid + total number kids

-- a leaf has the keys as its entries, and an inner node has those of its children
abbrev pub branch_of : ℕ → List (ℕ × Place) → List Branch → Branch
branch_of zero keys kids = record {
  entries = keys;
  height = 0;
  fill = length keys;
  nodes = 1;
  inners = 0;
}
branch_of (suc h) keys kids =
    record {
      entries = joined kids;
      height = suc h;
      fill = length kids;
      nodes = total (λ kid. kid.nodes) kids + 1;
      inners = total (λ kid. kid.inners) kids + 1;
    }
