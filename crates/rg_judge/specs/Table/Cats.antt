-- The keys of each `cat` of a table.
use Rattle.std.specs.Prelude.{◌≡◌, ◌+◌, ◌==◌, ◌&&◌, ◌||◌, ℕ, not, Option, Some, None}
use Rattle.rg_base.specs.declared.row.Row.{Row}
use Rattle.rg_model.specs.Held.{has_cat}
use Rattle.rg_model.specs.State.{Table, row_of}
use Rattle.rg_judge.specs.Table.Sets.{Sets, is_key_in}

-- the set of each `cat` has the keys of the rows with that `cat`
abbrev pub AreCats : Table → Sets → Type 0
AreCats table sets = (cat key : ℕ) → is_key_in sets cat key ≡ has_cat cat (row_of table key)

-- a key is not in the set of its row's `cat` any more, and all others are as before
abbrev pub IsStruck : Sets → Sets → (key : ℕ) → Option Row → Type 0
IsStruck old new key row =
    (cat q : ℕ) → is_key_in new cat q ≡ (not ((key == q) && has_cat cat row) && is_key_in old cat q)

-- a key is in the set of its row's `cat` too, and all others are as before
abbrev pub IsListed : Sets → Sets → (key : ℕ) → Option Row → Type 0
IsListed old new key row =
    (cat q : ℕ) → is_key_in new cat q ≡ (((key == q) && has_cat cat row) || is_key_in old cat q)

-- where a walk from a key on goes on: at that key, or behind the last one
abbrev pub start_from : (lo : ℕ) → (last : Option ℕ) → ℕ
start_from lo None = lo
start_from lo (Some key) = key + 1
