-- Claims that stand one after another, by the numbers of their sessions.
use Rattle.std.specs.Prelude.{◌≡◌, ℕ, suc, List, [], ◌∷◌, Option, Some, None, vec_len}
use Rattle.std.specs.declared.alloc.Global.{Global}
use Rattle.std.specs.declared.vec.Vec.{Vec}
use Rattle.std.specs.FinMap as map
use Rattle.rg_base.specs.declared.options.DrainState.{DrainState}
use Rattle.rg_base.specs.declared.session.Class.{Class}
use Rattle.rg_claim.specs.ClaimState.{ClaimState}
use Rattle.rg_claim.specs.Drains.{GrantIsKept}
use Rattle.rg_claim.specs.declared.claims.TheConstants.{SESSIONS}
use Rattle.rg_model.specs.State.{Claims}

-- the claims that are there, where the first is that of the session with this number
abbrev pub entries_from : ℕ → List (Option Class) → List (ℕ × Class)
entries_from number [] = []
entries_from number (None ∷ slots) = entries_from (suc number) slots
entries_from number (Some class ∷ slots) = (number, class) ∷ entries_from (suc number) slots

-- the first is that of session 1
abbrev pub claims_of : List (Option Class) → Claims
claims_of slots = map.from_sorted (entries_from 1 slots)

-- these claims and the drain
abbrev pub state_of : List (Option Class) → DrainState → ClaimState
state_of slots drain = record { claims = claims_of slots; drain = drain }

-- there is a place for each session, and no session holds a class that a granted drain covers
pub record HasSlots (slots : Vec (Option Class) Global) (drain : DrainState) : Type 0 where
  pub len : vec_len slots ≡ SESSIONS
  pub grant : GrantIsKept (state_of slots.items drain)
