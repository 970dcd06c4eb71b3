-- The buffers that a tree keeps for nodes to come.
use Rattle.std.specs.Prelude.{ℕ, ◌≡◌, ◌≤◌, List, [], vec_capacity}
use Rattle.std.specs.declared.vec.Vec.{Vec}
use Rattle.std.specs.declared.alloc.Global.{Global}
use Rattle.rg_base.specs.declared.place.Place.{Place}
use Rattle.rg_bulk.specs.Branch.{Branch}
use Rattle.std.specs.List.{AllByRecursion}

-- how many there are for keys and for children, and how many of each the pool can hold
pub record Spares : Type 0 where
  pub keys : ℕ
  pub kids : ℕ
  pub key_room : ℕ
  pub kid_room : ℕ

-- an empty buffer with room for so many
pub record IsBuffer {X : Type 0} (wanted : ℕ) (buffer : Vec X Global) : Type 0 where
  pub empty : buffer.items ≡ []
  pub room : wanted ≤ vec_capacity buffer

-- each buffer is empty and has the room of a node
abbrev pub AreBuffers : List (Vec (ℕ × Place) Global) → List (Vec Branch Global) → Type 0
AreBuffers keys kids = AllByRecursion (IsBuffer 257) keys × AllByRecursion (IsBuffer 226) kids
