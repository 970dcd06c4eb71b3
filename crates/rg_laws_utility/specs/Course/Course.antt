-- How many steps a utility takes that nothing hinders, by the entries alone.
--
-- 1. Nothing hinders a utility where nothing but its steps follows its start, the operator answers
--    moment 0 and estimate 0 without a command, and no step waits for a session, gives a drain up
--    or stops the utility. Where no session has a claim, a step may only stop it, and only because
--    memory runs out, the new copy has no room or the volume fails.
-- 2. Each page is copied by a step, and each page of the new copy filled by one. Then come three
--    lists and three indexes, an iteration, its drain, the last changes, the writing, under DRAIN
--    WRITERS the drain of all, the switch, and ENDED.
-- 3. So the steps that are no RELOAD are counted: as long as there are fewer, none is ENDED; the
--    last of them is.
use Rattle.std.specs.Prelude.{ℕ, ◌≡◌, ◌≤◌, ◌<◌, ◌+◌, Bool, true, false, List, [], ◌∷◌, ◌++◌}
use Rattle.std.specs.Prelude.{Some}
use Rattle.std.specs.List.{AllByRecursion}
use Rattle.rg_base.specs.declared.control.Answer.{Answer}
use Rattle.rg_base.specs.declared.control.Command.TheVariants.{Nothing}
use Rattle.rg_base.specs.declared.control.Maxro.TheVariants.{Within}
use Rattle.rg_base.specs.declared.options.DrainFor.{DrainFor}
use Rattle.rg_base.specs.declared.options.DrainFor.TheVariants.{Writers, All}
use Rattle.rg_base.specs.declared.options.Options.{Options}
use Rattle.rg_stmt.specs.declared.event.Actor.TheVariants as actors
use Rattle.rg_stmt.specs.declared.event.Entry.{Entry}
use Rattle.rg_stmt.specs.declared.event.Event.{Event}
use Rattle.rg_stmt.specs.declared.event.Event.TheVariants.{Ended, GiveUp, Reload, Started, Stop}
use Rattle.rg_stmt.specs.declared.event.Event.TheVariants.{Wait}
use Rattle.rg_model.specs.Legal.{asks}
use Rattle.rg_model.specs.Run.{Run}
use Rattle.rg_model.specs.State.{State, Table, at_rest}

-- the operator's answer that hinders nothing
abbrev pub calm : Answer
calm = record { now = 0; estimate = 0; command = Nothing }

-- the step waits, gives a drain up or stops the utility
abbrev pub is_hindered : Event → Bool
is_hindered (Wait session) = true
is_hindered (GiveUp count) = true
is_hindered (Stop reason) = true
is_hindered event = false

-- a step of the utility by that answer, which nothing hinders
pub record IsCalmStep (entry : Entry) : Type 0 where
  pub actor : entry.actor ≡ actors.Utility
  pub answer : entry.answer ≡ Some calm
  pub asked : asks entry.event ≡ true
  pub goes_on : is_hindered entry.event ≡ false

-- RELOAD is not counted
abbrev pub step_count : Event → ℕ
step_count (Reload page rows) = 0
step_count event = 1

abbrev pub steps_in : List Entry → ℕ
steps_in [] = 0
steps_in (entry ∷ entries) = step_count entry.event + steps_in entries

-- how many steps follow those that copy pages and fill them
abbrev pub steps_after : DrainFor → ℕ
steps_after Writers = 13
steps_after All = 12

-- the last of these entries is ENDED
pub record IsOver (entries : List Entry) : Type 0 where
  pub front : List Entry
  pub last : Entry
  pub joined : entries ≡ front ++ last ∷ []
  pub event : last.event ≡ Ended

abbrev pub is_end : Event → Bool
is_end Ended = true
is_end event = false

-- there are so many steps at most; the last of them is ENDED, and none before it
pub record EndsAfter (count : ℕ) (entries : List Entry) : Type 0 where
  pub most : steps_in entries ≤ count
  pub over : steps_in entries ≡ count → IsOver entries
  pub early :
      steps_in entries < count → AllByRecursion (λ entry. is_end entry.event ≡ false) entries

-- so does each utility of a trace that nothing hinders
abbrev pub AreInTime : List Entry → Type 0
AreInTime trace =
    (before entries rest : List Entry) (started : Entry) (options : Options)
    (copy pages most : ℕ)
    → trace ≡ before ++ (started ∷ entries ++ rest)
    → started.event ≡ Started options copy pages → options.maxro ≡ Within most
    → AllByRecursion IsCalmStep entries
    → EndsAfter (pages + steps_after options.drain) entries

abbrev pub EndsInTime : Type 0
EndsInTime =
    (table : Table) (copy : ℕ) (trace : List Entry) (last : State)
    → Run [] (at_rest table copy) trace last → AreInTime trace
