-- The last changes, by the pages and slots of their homes.
use Rattle.std.specs.Prelude.{◌≡◌, ℕ, List}
use Rattle.std.specs.BTreeMap.{BTreeMap, IsOrdered, get}
use Rattle.std.specs.Ordering.{nat_cmp, ordering_then}
use Rattle.std.specs.declared.cmp.Ordering.{Ordering}
use Rattle.rg_base.specs.declared.change.Change.{Change}
use Rattle.rg_base.specs.declared.place.Place.{Place}
use Rattle.rg_feed.specs.Fold.Last.{last_at}

-- by page, then by slot
abbrev pub key_cmp : ℕ × ℕ → ℕ × ℕ → Ordering
key_cmp a b = ordering_then (nat_cmp a.0 b.0) (nat_cmp a.1 b.1)

-- the place of a key
abbrev pub place_of : ℕ × ℕ → Place
place_of key = record { page = key.0; slot = key.1 }

-- the last change of each home is kept, and no other
pub record HasLast (changes : List Change) (kept : BTreeMap (ℕ × ℕ) Change) : Type 0 where
  pub last : (key : ℕ × ℕ) → get key_cmp kept key ≡ last_at (place_of key) changes
  pub ordered : IsOrdered key_cmp kept
