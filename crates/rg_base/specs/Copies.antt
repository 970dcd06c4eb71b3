-- The two copies of a table, by their numbers.
use Rattle.std.specs.Prelude.{◌≡◌, ◌⊎◌, ◌==◌, ℕ, if◌then◌else◌}
use Rattle.rg_base.specs.declared.set.Set.{Set}
use Rattle.rg_base.specs.declared.set.Set.TheVariants.{First, Second}

-- a number that a copy has
abbrev pub IsCopy : (copy : ℕ) → Type 0
IsCopy copy = (copy ≡ 1) ⊎ (copy ≡ 2)

-- the other one of the two copies
abbrev pub other_of : (copy : ℕ) → ℕ
other_of copy = if copy == 1 then 2 else 1

-- the set that a copy has its pages in
abbrev pub set_of : (copy : ℕ) → Set
set_of copy = if copy == 1 then First else Second
