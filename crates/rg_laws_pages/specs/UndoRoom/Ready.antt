-- The live units of a table space: what stands between any two records.
--
-- 1. The writes of the live units that are not yet undone are kept as a list, the latest first. A
--    write is put before it, an undo takes a unit's latest away, and a unit's end all of its
--    writes.
-- 2. Each of them can be undone by its unit, and no two units have written at one home.
-- 3. Taking all of them back gives each place its committed row. No write, purge or undo changes
--    that; a unit's commit makes its own rows the committed ones.
-- 4. So a rollback, a crash between any two records and a restart all end at the committed rows.
use Rattle.std.specs.Prelude.{◌≡◌, ◌==◌, ◌⊎◌, ℕ, Bool, true, false, List, [], ◌∷◌, Option, Some}
use Rattle.std.specs.Prelude.{None}
use Rattle.rg_base.specs.declared.place.Place.{Place}
use Rattle.rg_base.specs.declared.row.Row.{Row as TableRow}
use Rattle.rg_home.specs.Slot.{Slot}
use Rattle.rg_base.specs.Place.{same_place}
use Rattle.rg_home.specs.Rows.{row_at}
use Rattle.rg_home.specs.Pages.{slot_of}
use Rattle.rg_home.specs.Written.{Written}
use Rattle.rg_home.specs.Undo.{taken_back}
use Rattle.rg_home.specs.Able.{CanUndo, Apart, Proper}

-- this write if it is the unit's, else what the rest gives
abbrev pub latest_when : Bool → Written → Option Written → Option Written
latest_when true c rest = Some c
latest_when false c rest = rest

-- a unit's latest write
abbrev pub latest : ℕ → List Written → Option Written
latest t [] = None
latest t (c ∷ cs) = latest_when (c.owner == t) c (latest t cs)

-- the others after this write if it is the unit's, else this write before the rest
abbrev pub less_when : Bool → Written → List Written → List Written → List Written
less_when true c cs rest = cs
less_when false c cs rest = c ∷ rest

-- without a unit's latest write
abbrev pub less : ℕ → List Written → List Written
less t [] = []
less t (c ∷ cs) = less_when (c.owner == t) c cs (less t cs)

-- this write before the rest, if it is the unit's
abbrev pub kept_when : Bool → Written → List Written → List Written
kept_when true c rest = c ∷ rest
kept_when false c rest = rest

-- a unit's writes
abbrev pub only : ℕ → List Written → List Written
only t [] = []
only t (c ∷ cs) = kept_when (c.owner == t) c (only t cs)

-- this write before the rest, unless it is the unit's
abbrev pub left_when : Bool → Written → List Written → List Written
left_when true c rest = rest
left_when false c rest = c ∷ rest

-- the writes of all other units
abbrev pub without : ℕ → List Written → List Written
without t [] = []
without t (c ∷ cs) = left_when (c.owner == t) c (without t cs)

-- a unit has written at this home
abbrev pub HasHome : ℕ → Place → List Written → Type 0
HasHome t p [] = ⊥
HasHome t p (c ∷ cs) = ((c.owner ≡ t) × (c.home ≡ p)) ⊎ HasHome t p cs

-- none of these writes is at this home
abbrev pub NoHome : Place → List Written → Type 0
NoHome p [] = Unit {0}
NoHome p (c ∷ cs) = (same_place p c.home ≡ false) × NoHome p cs

-- cs are the writes of the live units, and base has the committed row of each place
pub record Ready
    (live : List ℕ) (pages : List (List Slot)) (cs : List Written)
    (base : Place → Option TableRow) : Type 0 where
  pub proper : Proper pages
  pub can : CanUndo live (slot_of pages) cs
  pub apart : Apart cs
  pub back : (p : Place) → taken_back cs p (row_at (slot_of pages) p) ≡ base p
