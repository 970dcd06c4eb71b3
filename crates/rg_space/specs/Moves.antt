-- Plans as the summaries of pages tell them: the plans of `rg_home`, with the place that the home
-- points to beside the headers.
use Rattle.std.specs.Prelude.{◌≡◌, ℕ, nat_le, Bool, true, false, List, [], ◌∷◌, Option, Some, None}
use Rattle.rg_base.specs.declared.part.Part.{Part}
use Rattle.rg_base.specs.declared.part.SlotOp.TheVariants as Op
use Rattle.rg_base.specs.declared.place.Place.{Place}
use Rattle.rg_home.specs.Pages.{page_at, slot_of, part_at}
use Rattle.rg_home.specs.Plan.{new_area, fitting, purge_of}
use Rattle.rg_base.specs.Place.{same_place}
use Rattle.rg_home.specs.Slot.{Slot}
use Rattle.rg_home.specs.Slots.{capacity_of}
use Rattle.rg_home.specs.declared.plan.Area.{Area}
use Rattle.rg_home.specs.declared.plan.Fitting.{Fitting}
use Rattle.rg_space.specs.declared.moves.Moves.{Moves}

-- the part for the Over area that is left
abbrev pub left_by : List (List Slot) → (home : Place) → (other : Option Place) → List Part
left_by pages home None = []
left_by pages home (Some other) =
    part_at other (Op.DeadOver (capacity_of (slot_of pages other)) home) ∷ []

-- a new row: its home, and what is written
abbrev pub IsPut : Option (Place × Moves) → List ℕ → ℕ → List (List Slot) → Option Area → Type 0
IsPut None live b pages None = Unit {0}
IsPut None live b pages (Some area) = ⊥
IsPut (Some put) live b pages None = ⊥
IsPut (Some put) live b pages (Some area) =
    (put.0 ≡ area.place) × (put.1.purge ≡ purge_of live pages area.place.page area.purges)
    × (put.1.parts ≡ part_at area.place (Op.Row b) ∷ [])

-- a row that comes to lie at home
abbrev pub home_moves : List ℕ → List (List Slot) → Place → Option Place → Fitting → Moves
home_moves live pages home other f = record {
  purge = purge_of live pages home.page f.purges;
  parts = part_at home (Op.Row f.capacity) ∷ left_by pages home other;
}

-- a row that stays in its Over area
abbrev pub over_moves : List ℕ → List (List Slot) → Place → Place → Fitting → Moves
over_moves live pages home other f = record {
  purge = purge_of live pages other.page f.purges;
  parts = part_at other (Op.Over f.capacity home) ∷ [];
}

-- a row that goes to a new Over area
abbrev pub new_moves : List ℕ → ℕ → List (List Slot) → Place → Option Place → Option Area
    → Option Moves
new_moves live b pages home other None = None
new_moves live b pages home other (Some area) = Some (record {
  purge = purge_of live pages area.place.page area.purges;
  parts = part_at home (Op.Pointer (capacity_of (slot_of pages home)) area.place)
      ∷ part_at area.place (Op.Over b home) ∷ left_by pages home other;
})

abbrev pub over_or_new : List ℕ → (b capacity : ℕ) → List (List Slot) → (home other : Place)
    → Option Fitting → Option Moves
over_or_new live b capacity pages home other (Some f) = Some (over_moves live pages home other f)
over_or_new live b capacity pages home other None =
    new_moves live b pages home (Some other) (new_area live b capacity pages)

abbrev pub away_moves : List ℕ → (b capacity : ℕ) → List (List Slot) → Place → Option Place
    → Option Moves
away_moves live b capacity pages home None =
    new_moves live b pages home None (new_area live b capacity pages)
away_moves live b capacity pages home (Some other) =
    over_or_new live b capacity pages home other
    (fitting live b (capacity_of (slot_of pages other)) (page_at pages other.page))

abbrev pub home_or_away : List ℕ → (b capacity : ℕ) → List (List Slot) → Place → Option Place
    → Option Fitting → Option Moves
home_or_away live b capacity pages home other (Some f) = Some (home_moves live pages home other f)
home_or_away live b capacity pages home other None = away_moves live b capacity pages home other

-- a row that becomes one of b bytes
abbrev pub change_moves : List ℕ → (b capacity : ℕ) → List (List Slot) → Place → Option Place
    → Option Moves
change_moves live b capacity pages home other =
    home_or_away live b capacity pages home other
    (fitting live b (capacity_of (slot_of pages home)) (page_at pages home.page))

-- a row that is deleted
abbrev pub drop_moves : List (List Slot) → Place → Option Place → List Part
drop_moves pages home None = part_at home (Op.DeadRow (capacity_of (slot_of pages home))) ∷ []
drop_moves pages home (Some other) =
    part_at home (Op.DeadPointer (capacity_of (slot_of pages home)) other)
    ∷ left_by pages home (Some other)

-- a row that goes back to its Over area q
abbrev pub back_moves : List (List Slot) → (home q : Place) → Option Place → Bool → List Part
back_moves pages home q other true = part_at q (Op.Over (capacity_of (slot_of pages q)) home) ∷ []
back_moves pages home q other false =
    part_at home (Op.Pointer (capacity_of (slot_of pages home)) q)
    ∷ part_at q (Op.Over (capacity_of (slot_of pages q)) home) ∷ left_by pages home other

abbrev pub points_to : Option Place → Place → Bool
points_to None q = false
points_to (Some other) q = same_place other q

abbrev pub row_moves : List (List Slot) → Place → (over other : Option Place) → Bool → List Part
row_moves pages home over other true =
    part_at home (Op.Row (capacity_of (slot_of pages home))) ∷ left_by pages home other
row_moves pages home None other false = []
row_moves pages home (Some q) other false = back_moves pages home q other (points_to other q)

-- The undoing of a write: of the row before, its bytes, if there was one; of the write, the Over
-- area that the row before had.
abbrev pub undo_moves : List (List Slot) → Place → (before : Option ℕ) → (over other : Option Place)
    → List Part
undo_moves pages home None over other = drop_moves pages home other
undo_moves pages home (Some b) over other =
    row_moves pages home over other (nat_le b (capacity_of (slot_of pages home)))
