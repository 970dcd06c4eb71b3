-- Refused: the first entry of a trace that is not legal.
-- (1) The entries before it are a legal trace.
-- (2) With it they are not.
use Rattle.std.specs.Prelude.{◌≡◌, ℕ, suc, ◌<◌, ◌≤◌, Bool, true, false, List, [], ◌∷◌, Option, Some}
use Rattle.std.specs.Prelude.{None, is_some, length, take}
use Rattle.rg_stmt.specs.declared.event.Entry.{Entry}
use Rattle.rg_model.specs.Legal.{IsActor, Legal, asks}
use Rattle.rg_model.specs.Possible.{states_before}
use Rattle.rg_model.specs.State.{State, Table}

-- the entry with this number is the first that is not legal
pub record IsFirstRefused (start : Table) (trace : List Entry) (i : ℕ) : Type 0 where
  pub within : i < length trace
  pub before : Legal start (take i trace)
  pub refused : Legal start (take (suc i) trace) → ⊥

-- no entry is refused where the trace is legal; else the first that is not is
abbrev pub IsJudged : Table → List Entry → Option ℕ → Type 0
IsJudged start trace None = Legal start trace
IsJudged start trace (Some i) = IsFirstRefused start trace i

-- an entry's actor may act, its calls don't fall, and it has an answer if and only if it asks
pub record IsSound (before : ℕ) (entry : Entry) : Type 0 where
  pub actor : IsActor entry.actor
  pub calls : before ≤ entry.calls
  pub answer : is_some entry.answer ≡ asks entry.event

-- the states before the first entry
abbrev pub states_begun : Table → List Entry → List State
states_begun start [] = []
states_begun start (entry ∷ entries) = states_before start entry.event

-- there is nothing
abbrev pub is_nil : {X : Type 0} → List X → Bool
is_nil [] = true
is_nil (x ∷ xs) = false
