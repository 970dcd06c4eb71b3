-- What lies between the grant of a drain and the switch, by the entries alone.
--
-- 1. From a grant up to the switch no page is copied and none is filled: the new copy that is
--    switched to is the one that was caught up before.
-- 2. LOG and LAST tell how many changes they take. Those that are made and not taken are left. The
--    LAST that leaves none is the last one, until a drain is given up.
-- 3. The changes that are left at the grant are taken by LAST, 64 in each, and one LAST is made at
--    least. After the second grant, that of the drain of all under DRAIN WRITERS, there is none.
-- 4. All this where the drain is not given up, and neither the utility nor the process ends in
--    between.
use Rattle.std.specs.Prelude.{ℕ, ◌≡◌, ◌+◌, ◌-◌, ◌/◌, ◌==◌, ◌++◌, Bool, true, false, List, []}
use Rattle.std.specs.Prelude.{◌∷◌, if◌then◌else◌}
use Rattle.std.specs.List.{AllByRecursion}
use Rattle.rg_base.specs.declared.options.DrainFor.{DrainFor}
use Rattle.rg_stmt.specs.declared.event.Entry.{Entry}
use Rattle.rg_stmt.specs.declared.event.Event.{Event}
use Rattle.rg_stmt.specs.declared.event.Event.TheVariants as events
use Rattle.rg_stmt.specs.declared.layout.Sides.{Sides}
use Rattle.rg_model.specs.Changes.{changes}
use Rattle.rg_model.specs.Run.{Run}
use Rattle.rg_model.specs.State.{State, Table, at_rest}
use Rattle.rg_model.specs.Run.{behind}

-- the drain is not given up, and neither the utility nor the process ends; the switch is not made
abbrev pub goes_on : Event → Bool
goes_on (events.GiveUp count) = false
goes_on (events.Stop reason) = false
goes_on (events.Opened copy rows pages used) = false
goes_on (events.Switched copy sides) = false
goes_on event = true

-- a page is copied or filled
abbrev pub loads : Event → Bool
loads (events.Unload page rows) = true
loads (events.Reload page rows) = true
loads event = false

abbrev pub last_count : Event → ℕ
last_count (events.Last took left) = 1
last_count event = 0

abbrev pub lasts_in : List Entry → ℕ
lasts_in [] = 0
lasts_in (entry ∷ entries) = last_count entry.event + lasts_in entries

-- 64 changes are taken by each, and one is made at least
abbrev pub lasts_for : ℕ → ℕ
lasts_for left = 1 + (left - 1) / 64

-- how many changes a utility has taken
abbrev pub taken_after : ℕ → Event → ℕ
taken_after taken (events.Started options copy pages) = 0
taken_after taken (events.Log iteration took left verdict) = taken + took
taken_after taken (events.Last took left) = taken + took
taken_after taken event = taken

abbrev pub taken_in : ℕ → List Entry → ℕ
taken_in taken [] = taken
taken_in taken (entry ∷ entries) = taken_in (taken_after taken entry.event) entries

-- how many are left after these entries
abbrev pub left_after : List Entry → ℕ
left_after entries = changes (behind [] entries) - taken_in 0 entries

-- whether the last LAST was made
abbrev pub over_after : Bool → Event → Bool
over_after over (events.Started options copy pages) = false
over_after over (events.GiveUp count) = false
over_after over (events.Last took left) = left == 0
over_after over event = over

abbrev pub over_in : Bool → List Entry → Bool
over_in over [] = over
over_in over (entry ∷ entries) = over_in (over_after over entry.event) entries

-- what lies between a grant after these entries and the switch
pub record IsCaughtUp (before entries : List Entry) : Type 0 where
  pub none_loaded : AllByRecursion (λ entry. loads entry.event ≡ false) entries
  pub lasts :
      lasts_in entries ≡ (if over_in false before then 0 else lasts_for (left_after before))

-- so it is at each switch of a trace
abbrev pub AreCaughtUp : List Entry → Type 0
AreCaughtUp trace =
    (before entries rest : List Entry) (granted switched : Entry) (drain : DrainFor) (copy : ℕ)
    (sides : Sides)
    → trace ≡ before ++ (granted ∷ entries ++ switched ∷ rest)
    → granted.event ≡ events.Granted drain
    → AllByRecursion (λ entry. goes_on entry.event ≡ true) entries
    → switched.event ≡ events.Switched copy sides
    → IsCaughtUp before entries

abbrev pub CaughtUpAtSwitch : Type 0
CaughtUpAtSwitch =
    (table : Table) (copy : ℕ) (trace : List Entry) (last : State)
    → Run [] (at_rest table copy) trace last → AreCaughtUp trace
