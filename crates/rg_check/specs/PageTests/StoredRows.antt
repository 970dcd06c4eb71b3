-- How the home rows stand to the stored rows, which a map has by key.
use Rattle.std.specs.Prelude.{◌≡◌, ℕ, Bool, true, false, Option, Some, None}
use Rattle.std.specs.FinMap as map
use Rattle.std.specs.Ordering.{nat_cmp}
use Rattle.rg_base.specs.declared.place.Place.{Place}
use Rattle.rg_base.specs.declared.row.Row.{Row as TableRow}
use Rattle.rg_check.specs.PageTests.Keys.{HasHome, Notes}
use Rattle.rg_check.specs.PageTests.Places.{IsLeastBreach}
use Rattle.rg_check.specs.declared.page_tests.stored.Standing.{Standing}
use Rattle.rg_check.specs.declared.page_tests.stored.Standing.TheVariants.{Stored, Strange, Missing}

-- stored rows, by key
abbrev pub StoredRows : Type 0
StoredRows = map.FinMap nat_cmp TableRow

-- the row of this place, if it has one, is the stored row of its key
abbrev pub IsStoredAt : StoredRows → (Place → Option TableRow) → Place → Type 0
IsStoredAt stored homes p =
    (row : TableRow) → homes p ≡ Some row → map.get stored row.key ≡ Some row

-- each stored row is of its key, and has a home
abbrev pub AllHaveHomes : StoredRows → (Place → Option TableRow) → Type 0
AllHaveHomes stored homes =
    (k : ℕ) (row : TableRow) → map.get stored k ≡ Some row
    → (row.key ≡ k) × (p : Place) × (homes p ≡ Some row)

-- a row is stored under a key that no home has
abbrev pub SomeHasNone : StoredRows → (Place → Option TableRow) → Type 0
SomeHasNone stored homes =
    (k : ℕ) × (row : TableRow) × (map.get stored k ≡ Some row) × (HasHome homes k → ⊥)

-- The home rows are the stored rows; or this is the least place whose row is not stored; or each
-- row is stored, and a stored row has no home.
abbrev pub Stands : StoredRows → (Place → Option TableRow) → Standing → Type 0
Stands stored homes Stored =
    ((p : Place) → IsStoredAt stored homes p) × AllHaveHomes stored homes
Stands stored homes (Strange place) = IsLeastBreach (IsStoredAt stored homes) (Some place)
Stands stored homes Missing =
    ((p : Place) → IsStoredAt stored homes p) × SomeHasNone stored homes

-- a place is noted by this key
abbrev pub IsIn : Notes → ℕ → Type 0
IsIn notes k = map.get notes k ≡ None → ⊥

-- each key that is noted is that of the row of its place
abbrev pub AreSound : (Place → Option TableRow) → Notes → Type 0
AreSound homes notes =
    (k : ℕ) (p : Place) → map.get notes k ≡ Some p
    → (row : TableRow) × (homes p ≡ Some row) × (row.key ≡ k)

-- the key of a place's row, if it has one, is noted
abbrev pub IsNoted : (Place → Option TableRow) → Notes → Place → Type 0
IsNoted homes notes p = (row : TableRow) → homes p ≡ Some row → IsIn notes row.key

-- what the walk of a page adds to the notes: none goes, all are sound, and the page is noted where
-- no place was named
pub record NotesPage
    (homes : Place → Option TableRow) (n : ℕ) (before after : Notes) (named : Option Place)
    : Type 0 where
  pub grows : (k : ℕ) → IsIn before k → IsIn after k
  pub sound : AreSound homes before → AreSound homes after
  pub page : named ≡ None → (p : Place) → p.page ≡ n → IsNoted homes after p

-- each stored key is noted, or some is not
abbrev pub AreNoted : StoredRows → Notes → Bool → Type 0
AreNoted stored notes true =
    (k : ℕ) (row : TableRow) → map.get stored k ≡ Some row → IsIn notes k
AreNoted stored notes false =
    (k : ℕ) × (row : TableRow) × (map.get stored k ≡ Some row) × (map.get notes k ≡ None)
