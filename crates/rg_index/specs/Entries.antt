-- The entries of an index, by value, page and slot.
use Rattle.std.specs.Prelude.{ℕ, ◌≡◌, ◌&&◌, nat_le, not, Bool, true, List, [], ◌∷◌, filter}
use Rattle.std.specs.List.{list_any, AllByRecursion}
use Rattle.rg_base.specs.declared.place.Place.{Place}
use Rattle.rg_model.specs.Layout.{is_entry_before, same_entry}

-- each entry is before all that come after it, so none stands twice
abbrev pub IsRising : List (ℕ × Place) → Type 0
IsRising [] = Unit {0}
IsRising (e ∷ es) = AllByRecursion (λ later. is_entry_before e later ≡ true) es × IsRising es

-- the entry is one of the list
abbrev pub has_entry : List (ℕ × Place) → ℕ × Place → Bool
has_entry entries entry = list_any (same_entry entry) entries

-- the entries except for one
abbrev pub without_entry : ℕ × Place → List (ℕ × Place) → List (ℕ × Place)
without_entry entry entries = filter (λ e. not (same_entry entry e)) entries

-- the entry's value is from lo to hi, both included
abbrev pub is_within : ℕ → ℕ → ℕ × Place → Bool
is_within lo hi entry = nat_le lo entry.0 && nat_le entry.0 hi

-- the entries whose values are from lo to hi
abbrev pub entries_within : ℕ → ℕ → List (ℕ × Place) → List (ℕ × Place)
entries_within lo hi entries = filter (is_within lo hi) entries
