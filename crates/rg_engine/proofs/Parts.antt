-- Parts of records, and the pages that they name.
use Rattle.std.proofs.Common.{◌≤◌, ℕ, List, [], ◌∷◌, sym, subst, arith}
use Rattle.std.specs.List.{AllByRecursion}
use Rattle.rg_base.specs.declared.part.Part.{Part}
use Rattle.rg_image.specs.Rules.{PartIn, PlaceIn}
use Rattle.rg_laws_crash.specs.NewestPages.Newest.{AllNear}
use Rattle.rg_space.specs.Carries.{AllFree, AllThere}

-- ---- parts

-- parts that free slots of pages that are there name no other page
pub free_within : (n limit : ℕ) (parts : List Part) → n ≤ limit → AllThere n parts → AllFree parts
    → AllByRecursion (PartIn limit) parts
free_within n limit [] high there frees = tt
free_within n limit (x ∷ parts) high there frees = (
  ((there.0, omega (arith, there.1, high)), subst (PlaceIn limit) (sym frees.0) tt),
  free_within n limit parts high there.2 frees.1,
)

-- parts within so many pages are near them
pub within_near : (limit n : ℕ) (parts : List Part) → limit ≤ n
    → AllByRecursion (PartIn limit) parts → AllNear n parts
within_near limit n [] high within = tt
within_near limit n (x ∷ parts) high within =
    (within.0.0.0, omega (arith, within.0.0.1, high), within_near limit n parts high within.1)
