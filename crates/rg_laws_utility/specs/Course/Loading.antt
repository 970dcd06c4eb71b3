-- How far the new copy of a utility is filled, by the entries.
--
-- 1. At the start no page is filled. The copy that is current then, and FREEPAGE of the options,
--    are kept. Each RELOAD fills one page.
-- 2. Counting ends when the first list is sorted, or when the process dies. From then on no page is
--    filled.
-- 3. The numbers of the utility show the same, and do so after each step (`LoadingGoesOn`).
-- 4. Once a list is sorted all pages are copied and all rows reloaded. It stays so with each step
--    (`LoadedGoesOn`).
use Rattle.std.specs.Prelude.{ℕ, ◌≡◌, ◌≤◌, ◌+◌, ◌==◌, List, [], ◌∷◌, Option, Some, None}
use Rattle.std.specs.Prelude.{if◌then◌else◌}
use Rattle.rg_base.specs.declared.control.Answer.{Answer}
use Rattle.rg_base.specs.declared.options.DrainState.{DrainState}
use Rattle.rg_base.specs.declared.session.Session.{Session}
use Rattle.rg_stmt.specs.declared.event.Entry.{Entry}
use Rattle.rg_stmt.specs.declared.event.Event.{Event}
use Rattle.rg_stmt.specs.declared.event.Event.TheVariants as events
use Rattle.rg_model.specs.State.{Utility}
use Rattle.rg_model.specs.Turn.{Turn, Runs, Switches, Stops, Falls, turn_of}

-- the copy that was current at the start, the option, and how many pages are filled
pub record Loading : Type 0 where
  pub copy : ℕ
  pub freepage : ℕ
  pub filled : ℕ

abbrev pub loading_after : Option Loading → Event → Option Loading
loading_after now (events.Started options copy pages) =
    Some (record { copy = copy; freepage = options.freepage; filled = 0 })
loading_after (Some l) (events.Reload page rows) = Some (record l { filled = l.filled + 1 })
loading_after now (events.Sort which) = None
loading_after now (events.Opened copy rows pages used) = None
loading_after now event = now

-- after these entries
abbrev pub loading_in : Option Loading → List Entry → Option Loading
loading_in now [] = now
loading_in now (entry ∷ entries) = loading_in (loading_after now entry.event) entries

-- by the numbers of the utility, where this copy is current
abbrev pub loading_of : (copy : ℕ) → Utility → Option Loading
loading_of copy u =
    if u.sorted == 0
    then Some (record { copy = copy; freepage = u.options.freepage; filled = u.filled })
    else None

-- the numbers that a turn leaves show what its event makes of it
abbrev pub ShowsFilled : (copy : ℕ) → Utility → Event → Turn → Type 0
ShowsFilled copy u event (Runs v later) =
    loading_of copy v ≡ loading_after (loading_of copy u) event
ShowsFilled copy u event (Switches other sides v) =
    (now : ℕ) → loading_of now v ≡ loading_after (loading_of copy u) event
ShowsFilled copy u event Stops = Unit {0}
ShowsFilled copy u event Falls = Unit {0}

abbrev pub LoadingGoesOn : Type 0
LoadingGoesOn =
    (copy all : ℕ) (blocker : Option Session) (answer : Answer) (u : Utility) (drain : DrainState)
    (event : Event) (turn : Turn)
    → turn_of all blocker answer u drain event ≡ Some turn → ShowsFilled copy u event turn

-- all pages are copied and all rows reloaded, once a list is sorted
abbrev pub IsLoaded : Utility → Type 0
IsLoaded u = 1 ≤ u.sorted → (u.pages ≤ u.copied) × (u.unloaded ≤ u.reloaded)

-- the numbers that a turn leaves, if any
abbrev pub IsLoadedAfter : Turn → Type 0
IsLoadedAfter (Runs v later) = IsLoaded v
IsLoadedAfter (Switches other sides v) = IsLoaded v
IsLoadedAfter Stops = Unit {0}
IsLoadedAfter Falls = Unit {0}

abbrev pub LoadedGoesOn : Type 0
LoadedGoesOn =
    (all : ℕ) (blocker : Option Session) (answer : Answer) (u : Utility) (drain : DrainState)
    (event : Event) (turn : Turn)
    → IsLoaded u → turn_of all blocker answer u drain event ≡ Some turn → IsLoadedAfter turn
