-- Stretches of bytes, one after another in one buffer.
use Rattle.std.specs.Prelude.{◌≡◌, ◌≤◌, ◌+◌, ℕ, List, [], ◌∷◌, ◌++◌, length, take, drop, Option}
use Rattle.std.specs.Prelude.{Some, None, vec_capacity}
use Rattle.std.specs.declared.vec.Vec.{Vec}
use Rattle.std.specs.declared.alloc.Global.{Global}
use Rattle.rg_base.specs.RowBytes.{row_bytes, row_size}
use Rattle.rg_base.specs.declared.row.Row.{Row}

-- the stretches of these lengths
abbrev pub stretches : List ℕ → List ℕ → List (List ℕ)
stretches [] bytes = []
stretches (n ∷ lengths) bytes = take n bytes ∷ stretches lengths (drop n bytes)

abbrev pub total : List ℕ → ℕ
total [] = 0
total (n ∷ lengths) = n + total lengths

-- how many bytes the stretches have
abbrev pub filled_by : List (List ℕ) → ℕ
filled_by [] = 0
filled_by (bytes ∷ areas) = length bytes + filled_by areas

-- the buffer is a page's room, the stretches fill its first bytes, and each slot has room for one
pub record IsBuffer (lengths : Vec ℕ Global) (bytes : List ℕ) (filled : ℕ) : Type 0 where
  pub whole : length bytes ≡ 4064
  pub within : filled ≤ 4064
  pub fills : total lengths.items ≡ filled
  pub room : 225 ≤ vec_capacity lengths

-- the bytes of a row, or none
abbrev pub bytes_of : Option Row → List ℕ
bytes_of None = []
bytes_of (Some row) = row_bytes row

abbrev pub size_of : Option Row → ℕ
size_of None = 0
size_of (Some row) = row_size row

-- The piece stands from `at` on, where `old` bytes stood. Before it the bytes are as they were, and
-- behind it are so many of those that stood behind the old ones.
pub record IsPut (before after : List ℕ) (at old more : ℕ) (piece : List ℕ) : Type 0 where
  pub rest : List ℕ
  pub is : after ≡ take at before ++ (piece ++ rest)
  pub moved : take more rest ≡ take more (drop (at + old) before)
  pub long : length after ≡ length before
