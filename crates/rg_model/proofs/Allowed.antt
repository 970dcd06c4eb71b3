-- A state that stays where an event is allowed.
use Rattle.std.proofs.Common.{◌≡◌, Bool, true, false, Some, refl, sym}
use Rattle.std.proofs.lemmas.Option.{same_Some}
use Rattle.rg_model.specs.Said.{if_allowed}
use Rattle.rg_model.specs.State.{State}

pub some_is : (st new : State) → Some st ≡ Some new → new ≡ st
some_is st new e = sym (same_Some st new e)

pub allowed_is : (b : Bool) (st new : State) → if_allowed b st ≡ Some new → new ≡ st
allowed_is true st new e = some_is st new e
allowed_is false st new e = absurd (cc (e))

pub allowed_was : (b : Bool) (st new : State) → if_allowed b st ≡ Some new → b ≡ true
allowed_was true st new e = refl
allowed_was false st new e = absurd (cc (e))
