-- The steps of a drain.
use Rattle.std.specs.Prelude.{◌≡◌, ℕ, true, false}
use Rattle.std.specs.FinMap as map
use Rattle.rg_base.specs.declared.options.DrainFor.{DrainFor}
use Rattle.rg_base.specs.declared.options.DrainState.{DrainState}
use Rattle.rg_base.specs.declared.options.DrainState.TheVariants.{Free, Asked, Granted}
use Rattle.rg_base.specs.declared.session.Class.{Class}
use Rattle.rg_claim.specs.ClaimState.{ClaimState}
use Rattle.rg_model.specs.Claims.{is_covered, has_class}

-- a drain that was asked is granted, and any other stays as it is
abbrev pub drain_granted : DrainState → DrainState
drain_granted Free = Free
drain_granted (Asked what) = Granted what
drain_granted (Granted what) = Granted what

-- no more than that changes
abbrev pub IsGrantOf : ClaimState → ClaimState → Type 0
IsGrantOf old new = new ≡ record old { drain = drain_granted old.drain }

-- while a drain is granted, no session holds a class that it covers
abbrev pub GrantIsKept : ClaimState → Type 0
GrantIsKept seen =
    (what : DrainFor) → seen.drain ≡ Granted what →
    (number : ℕ) (class : Class) → is_covered seen.drain class ≡ true →
    has_class (map.get seen.claims number) class ≡ false
