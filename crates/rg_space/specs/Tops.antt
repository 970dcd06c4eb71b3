-- The numbers of the blocks bound the ceilings of their pages.
use Rattle.std.specs.Prelude.{◌≡◌, ℕ, ◌+◌, ◌*◌, ◌^◌, ◌≤◌, ◌<◌, ◌/◌, vec_capacity, List, [], length}
use Rattle.std.specs.Prelude.{slice_index_or}
use Rattle.std.specs.declared.vec.Vec.{Vec}
use Rattle.std.specs.declared.alloc.Global.{Global}
use Rattle.rg_home.specs.Slot.{Slot}
use Rattle.rg_page.specs.Ceiling.{ceiling}

abbrev pub Bounds : List (List Slot) → List ℕ → Type 0
Bounds pages tops = (k : ℕ) → k < length pages
    → ceiling (slice_index_or pages k []) ≤ slice_index_or tops (k / 256) 0

-- no number is lowered
abbrev pub Raised : List ℕ → List ℕ → Type 0
Raised before after = (k : ℕ) → slice_index_or before k 0 ≤ slice_index_or after k 0

-- what summaries keep: as many tops as there are blocks, and room for the spare ones, which
-- are empty
pub record AreSummaries (pages : Vec (List Slot) Global) (tops : Vec ℕ Global)
    (spare : Vec (List Slot) Global) : Type 0 where
  pub few : length pages.items + length spare.items < 2 ^ 32
  pub blocks : length pages.items ≤ 256 * length tops.items
  pub bounds : Bounds pages.items tops.items
  pub room : length pages.items + length spare.items ≤ vec_capacity pages
  pub tops_room : length tops.items + length spare.items ≤ vec_capacity tops
  pub empty_ones : (k : ℕ) → k < length spare.items → slice_index_or spare.items k [] ≡ []
