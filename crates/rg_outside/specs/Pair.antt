use Rattle.std.specs.Prelude.{ℕ, ◌≡◌, ◌⊎◌, List}
use Rattle.rg_base.specs.declared.set.Set.{Set}
use Rattle.rg_outside.specs.Calls.{Image}

-- the image has both contents
abbrev pub HasBoth : Set → ℕ → List ℕ → ℕ → List ℕ → Image → Type 0
HasBoth set page bytes other other_bytes i = (i set page ≡ bytes) × (i set other ≡ other_bytes)

-- the image has of each page the old content or the new one
abbrev pub HasOldOrNew : Set → ℕ → List ℕ → List ℕ → ℕ → List ℕ → List ℕ → Image → Type 0
HasOldOrNew set page old new other other_old other_new i =
    ((i set page ≡ old) ⊎ (i set page ≡ new))
    × ((i set other ≡ other_old) ⊎ (i set other ≡ other_new))
