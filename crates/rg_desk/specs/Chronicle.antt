-- The entries of a desk.
--
-- 1. Entries are appended and never changed. The number of volume calls never falls from one to the
--    next.
-- 2. An answer stands exactly where the operator was asked, and each entry is of an actor that can
--    be.
-- 3. The entries of earlier openings are kept before those from the opening on, and the two rules
--    above hold of all of them.
use Rattle.std.specs.Prelude.{◌≡◌, ◌≤◌, ◌<◌, ◌+◌, ◌^◌, ℕ, List, [], ◌∷◌, is_some, length}
use Rattle.std.specs.List.{AllByRecursion}
use Rattle.std.specs.List.Sorted.{IsNonDecreasingBy}
use Rattle.rg_model.specs.Legal.{IsActor, asks}
use Rattle.rg_stmt.specs.declared.event.Entry.{Entry}
use Rattle.rg_stmt.specs.declared.event.Event.{Event}
use Rattle.rg_stmt.specs.declared.event.Event.TheVariants.{Opened, Said, Started}
pub use Rattle.rg_laws_utility.specs.TraceStage.Tending.{system_entry}
use Rattle.rg_engine.specs.Steps.{more_logged}

-- the entries of earlier openings, those from the opening on, for how many more there is room, and
-- the calls at the last one
pub record ChronicleState : Type 0 where
  pub older : List Entry
  pub trace : List Entry
  pub spare : ℕ
  pub calls : ℕ

-- an entry that may be made
pub record IsEntry (entry : Entry) : Type 0 where
  pub actor : IsActor entry.actor
  pub answer : is_some entry.answer ≡ asks entry.event

-- the number of calls never falls, each entry may be made, and their number has 63 bits
pub record IsRecorded (trace : List Entry) (calls : ℕ) : Type 0 where
  pub rising : IsNonDecreasingBy (λ entry. entry.calls) trace
  pub below : AllByRecursion (λ entry. entry.calls ≤ calls) trace
  pub each : AllByRecursion IsEntry trace
  pub few : length trace < 2 ^ 63

-- An opening finds so many bytes of the log taken, and a statement takes or reserves more. A
-- utility that starts holds 28.
abbrev pub logged_after : (logged : ℕ) → Event → ℕ
logged_after logged (Opened copy rows pages used) = used
logged_after logged (Said stmt reply) = logged + more_logged stmt reply
logged_after logged (Started options copy pages) = logged + 28
logged_after logged event = logged

-- how many bytes of the log the entries have taken or reserved at most, from so many on
abbrev pub logged_by : (logged : ℕ) → List Entry → ℕ
logged_by logged [] = logged
logged_by logged (entry ∷ entries) = logged_by (logged_after logged entry.event) entries
