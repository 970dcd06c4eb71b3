-- Legal: which traces an engine may make.
-- (1) Each entry is allowed after those before it. Where one is not, no state is possible from
--     there on.
-- (2) Sessions are numbered from 1 to 99.
-- (3) The number of volume calls never falls.
-- (4) An operator's answer is there if and only if the entry is a step that found a utility running
--     and the engine not down.
use Rattle.std.specs.Prelude.{◌≡◌, ◌≢◌, Bool, true, false, List, [], is_some}
use Rattle.std.specs.List.{AllByRecursion}
use Rattle.std.specs.List.Sorted.{IsNonDecreasingBy}
use Rattle.rg_base.specs.Session.{IsSession}
use Rattle.rg_stmt.specs.declared.event.Actor.{Actor}
use Rattle.rg_stmt.specs.declared.event.Actor.TheVariants as actors
use Rattle.rg_stmt.specs.declared.event.Entry.{Entry}
use Rattle.rg_stmt.specs.declared.event.Event.{Event}
use Rattle.rg_stmt.specs.declared.event.Event.TheVariants as events
use Rattle.rg_model.specs.Possible.{possible}
use Rattle.rg_model.specs.State.{Table}

-- The operator is asked in each step that finds a utility running and the engine not down. Lines
-- that start a utility, and steps that are refused, ask nobody.
abbrev pub asks : Event → Bool
asks (events.Unload page rows) = true
asks (events.Reload page rows) = true
asks (events.Sort which) = true
asks (events.Build which) = true
asks (events.Log iteration took left verdict) = true
asks (events.Wait session) = true
asks (events.Granted what) = true
asks (events.GiveUp count) = true
asks (events.Last took left) = true
asks (events.Written pages) = true
asks (events.Switched copy sides) = true
asks events.Ended = true
asks (events.Stop reason) = true
asks event = false

-- whoever makes an entry has a number that a session can have, if it is a session
abbrev pub IsActor : Actor → Type 0
IsActor (actors.Session session) = IsSession session
IsActor actors.System = Unit {0}
IsActor actors.Utility = Unit {0}

pub record Legal (start : Table) (trace : List Entry) : Type 0 where
  pub allowed : possible start trace ≢ []
  pub sessions : AllByRecursion (λ entry. IsActor entry.actor) trace
  pub calls : IsNonDecreasingBy (λ entry. entry.calls) trace
  pub answers : AllByRecursion (λ entry. is_some entry.answer ≡ asks entry.event) trace
