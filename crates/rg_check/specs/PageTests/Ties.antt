-- Which slots name each other.
--
-- 1. A Pointer and its Over area name each other.
-- 2. A DeadPointer of an open transaction names an Over area that names it. The area may be dead,
--    and of any owner. A DeadPointer of another transaction may name anything: a purge may have
--    freed the area.
use Rattle.std.specs.Prelude.{◌==◌, ℕ, List, Option, Some, None, Bool, true, false, if◌then◌else◌}
use Rattle.std.specs.List.{list_any}
use Rattle.rg_base.specs.declared.place.Place.{Place}
use Rattle.rg_home.specs.Able.{IsAreaOf, IsLive}
use Rattle.rg_base.specs.Place.{same_place}
use Rattle.rg_home.specs.Rows.{TiesAt}
use Rattle.rg_home.specs.Slot.{Slot}
use Rattle.rg_home.specs.Slot.{Free, Row, Pointer, Over, DeadRow, DeadPointer, DeadOver}
use Rattle.rg_check.specs.declared.page_tests.outline.Outline.{Outline}
use Rattle.rg_check.specs.declared.page_tests.outline.Outline.TheVariants as Of

-- a slot at this place, if it is a dead home of an open transaction, names an area that names it
abbrev pub DeadTiesAt : List ℕ → (Place → Slot) → Place → Slot → Type 0
DeadTiesAt live at p (DeadPointer capacity other owner) =
    IsLive live owner → IsAreaOf None p (at other)
DeadTiesAt live at p Free = Unit {0}
DeadTiesAt live at p (Row capacity row) = Unit {0}
DeadTiesAt live at p (Pointer capacity other) = Unit {0}
DeadTiesAt live at p (Over capacity row home) = Unit {0}
DeadTiesAt live at p (DeadRow capacity owner) = Unit {0}
DeadTiesAt live at p (DeadOver capacity home owner) = Unit {0}

-- what a place names names it, where these transactions are open
abbrev pub IsTiedAt : List ℕ → (Place → Slot) → Place → Type 0
IsTiedAt live at p = TiesAt at p (at p) × DeadTiesAt live at p (at p)

-- a transaction is one of these
abbrev pub is_open : List ℕ → ℕ → Bool
is_open live t = list_any (λ u. u == t) live

-- the place whose slot has to name a slot of this outline
abbrev pub asked_of : List ℕ → Outline → Option Place
asked_of live (Of.Pointer capacity other) = Some other
asked_of live (Of.Over capacity home) = Some home
asked_of live (Of.DeadPointer capacity other owner) =
    if is_open live owner.0 then Some other else None
asked_of live Of.Free = None
asked_of live (Of.Row capacity) = None
asked_of live (Of.DeadRow capacity) = None
asked_of live (Of.DeadOver capacity home) = None

-- an Over area that names this home
abbrev pub is_over_of : Place → Outline → Bool
is_over_of home (Of.Over capacity other) = same_place other home
is_over_of home _ = false

-- a Pointer that names this Over area
abbrev pub is_pointer_to : Place → Outline → Bool
is_pointer_to over (Of.Pointer capacity other) = same_place other over
is_pointer_to over _ = false

-- an Over area that names this home, or a dead one
abbrev pub is_area_of : Place → Outline → Bool
is_area_of home (Of.Over capacity other) = same_place other home
is_area_of home (Of.DeadOver capacity other) = same_place other home
is_area_of home _ = false

-- a slot with the second outline names the place of one with the first, as that asks
abbrev pub names_back : Outline → Outline → Place → Bool
names_back (Of.Pointer capacity other) there p = is_over_of p there
names_back (Of.Over capacity home) there p = is_pointer_to p there
names_back (Of.DeadPointer capacity other owner) there p = is_area_of p there
names_back Of.Free there p = true
names_back (Of.Row capacity) there p = true
names_back (Of.DeadRow capacity) there p = true
names_back (Of.DeadOver capacity home) there p = true
