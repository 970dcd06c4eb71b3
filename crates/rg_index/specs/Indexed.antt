-- What an index is seen as.
use Rattle.std.specs.Prelude.{ℕ, List}
use Rattle.rg_base.specs.declared.place.Place.{Place}

-- its entries, and the number of entries that can be added without memory
pub record Indexed : Type 0 where
  pub entries : List (ℕ × Place)
  pub spare : ℕ
