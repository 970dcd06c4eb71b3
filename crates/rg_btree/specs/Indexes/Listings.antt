-- What three indexes list of rows with places.
--
-- 1. Each index lists, for every place that has a row, the row's value with that place, and nothing
--    else.
-- 2. So a row that comes, goes or changes at one place changes at most one entry in each index.
use Rattle.std.specs.Prelude.{◌≡◌, ◌≤◌, ℕ, List, Option}
use Rattle.rg_base.specs.declared.place.Place.{Place}
use Rattle.rg_base.specs.declared.row.Row.{Row}
use Rattle.rg_base.specs.declared.which.Which.{Which}
use Rattle.rg_base.specs.declared.which.Which.TheVariants.{Key, Clus, Cat}
use Rattle.rg_index.specs.Entries.{has_entry}
use Rattle.rg_index.specs.Indexed.{Indexed}
use Rattle.rg_index.specs.Listed.{IsListingOf, has_value}
use Rattle.rg_index.specs.RisingPart.{rising_part}
use Rattle.rg_btree.specs.declared.indexes.indexes.Indexes.{Indexes}

-- the entries of an index
abbrev pub entries_of : Indexed → List (ℕ × Place)
entries_of index = rising_part index.entries

-- each index lists the rows at their places
pub record AreListings (rows : Place → Option Row) (x : Indexes) : Type 0 where
  pub keys : IsListingOf Key rows (entries_of x.keys)
  pub cluses : IsListingOf Clus rows (entries_of x.cluses)
  pub cats : IsListingOf Cat rows (entries_of x.cats)

-- an index has an entry with this place exactly for the value of this row, if there is a row
abbrev pub IsListedAt : Which → List (ℕ × Place) → Place → Option Row → Type 0
IsListedAt which entries place row =
    (value : ℕ) → has_entry entries (value, place) ≡ has_value which value row

-- each index does
pub record AreListedAt (x : Indexes) (place : Place) (row : Option Row) : Type 0 where
  pub keys : IsListedAt Key (entries_of x.keys) place row
  pub cluses : IsListedAt Clus (entries_of x.cluses) place row
  pub cats : IsListedAt Cat (entries_of x.cats) place row

-- so many entries can be added to each index without memory
pub record HasSpare (n : ℕ) (x : Indexes) : Type 0 where
  pub keys : n ≤ x.keys.spare
  pub cluses : n ≤ x.cluses.spare
  pub cats : n ≤ x.cats.spare

-- the entries are the same
pub record SameEntries (old new : Indexes) : Type 0 where
  pub keys : entries_of new.keys ≡ entries_of old.keys
  pub cluses : entries_of new.cluses ≡ entries_of old.cluses
  pub cats : entries_of new.cats ≡ entries_of old.cats
