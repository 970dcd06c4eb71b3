use Rattle.std.specs.Prelude.{ℕ, ◌≤◌}
use Rattle.rg_base.specs.declared.set.Set.{Set}
use Rattle.rg_base.specs.declared.set.Set.TheVariants.{Log, First, Second}

-- how many pages each set of a volume has
pub record Capacities : Type 0 where
  pub log : ℕ
  pub first : ℕ
  pub second : ℕ

abbrev pub capacity_of : Capacities → Set → ℕ
capacity_of c Log = c.log
capacity_of c First = c.first
capacity_of c Second = c.second

-- pages are numbered from 1 to the capacity
abbrev pub IsPage : Capacities → Set → ℕ → Type 0
IsPage c set page = (1 ≤ page) × (page ≤ capacity_of c set)
