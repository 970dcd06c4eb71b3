use Rattle.std.proofs.Common.{◌≡◌, suc, drop, filter}
use Rattle.rg_claim.specs.Slots.{entries_from}
use Rattle.rg_claim.proofs.claims.find_holder.Given as goal
use Rattle.rg_model.specs.Claims.{first_session, is_holder}

-- the first that is found from here on is the first of all
abbrev pub invariant-loop-slot : goal.invariant-loop-slot
invariant-loop-slot l =
    first_session (filter (is_holder l.drain) (entries_from 1 l.slots))
    ≡ first_session (filter (is_holder l.drain) (entries_from (suc l.slot) (drop l.slot l.slots)))
