-- Below which child an entry is.
use Rattle.std.specs.Prelude.{ℕ, suc, ◌≡◌, ◌<◌, true, false, List, length, map, drop}
use Rattle.std.proofs.Common.{get_or}
use Rattle.rg_base.specs.declared.place.Place.{Place}
use Rattle.rg_model.specs.Layout.{is_entry_before}
use Rattle.rg_bulk.specs.Branch.{Branch, first_of}
use Rattle.std.specs.List.{AllByRecursion}

-- the first entries of branches
abbrev pub firsts : List Branch → List (ℕ × Place)
firsts kids = map (λ kid. first_of kid.entries) kids

-- The entry is before all keys behind the one at i, and not before that one, unless it is the first
-- of all.
pub record IsChild (entry : ℕ × Place) (keys : List (ℕ × Place)) (i : ℕ) : Type 0 where
  pub within : i < length keys
  pub here : 0 < i → is_entry_before entry (get_or keys i (0, record { page = 0; slot = 0 }))
      ≡ false
  pub behind : AllByRecursion (λ key. is_entry_before entry key ≡ true) (drop (suc i) keys)
