-- The unit of a session set, and what all units are owed.
use Rattle.std.proofs.Common.{◌≡◌, ◌<◌, ◌+◌, ℕ, zero, suc, List, [], ◌∷◌, Option, Some, None}
use Rattle.std.proofs.Common.{length, set, arith}
use Rattle.std.proofs.lemmas.List.{get_or-set_same, get_or-set_other}
use Rattle.std.proofs.lemmas.List.Sums.{sum_by-set}
use Rattle.rg_engine.specs.Units.{unit_at, owed, owed_to}
use Rattle.rg_engine.specs.declared.units.OpenUnit.{OpenUnit}

pub set_here : (us : List (Option OpenUnit)) (n : ℕ) (u : Option OpenUnit) → n < length us
    → unit_at (set us n u) n ≡ u
set_here us n u low = get_or-set_same us n u None low

pub set_there : (us : List (Option OpenUnit)) (n m : ℕ) (u : Option OpenUnit) → (m ≡ n → ⊥)
    → unit_at (set us n u) m ≡ unit_at us m
set_there us n m u apart = get_or-set_other us n m u None apart

pub owed-set : (us : List (Option OpenUnit)) (n : ℕ) (u : Option OpenUnit) → n < length us
    → owed (set us n u) + owed_to (unit_at us n) ≡ owed us + owed_to u
owed-set us n u low = sum_by-set owed_to us n u None low

-- a unit has a place
pub at_within : (us : List (Option OpenUnit)) (n : ℕ) (unit : OpenUnit) → unit_at us n ≡ Some unit
    → n < length us
at_within [] n unit e = absurd (cc (e))
at_within (u ∷ us) zero unit e = omega arith
at_within (u ∷ us) (suc n) unit e = omega (arith, at_within us n unit e)
