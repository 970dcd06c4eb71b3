use Rattle.std.proofs.Common.{[]}
use Rattle.rg_laws_utility.proofs.LockClaimsLemmas.Claiming.{claimed_begins, claimed_goes}
use Rattle.rg_laws_utility.proofs.LockClaimsLemmas.Claiming.{claimed_run, none_locked}
use Rattle.rg_model.specs.State.{at_rest}
use Rattle.rg_laws_utility.proofs.lock_claims.laws.claimed_law.Goals as goal

pub returns-clause-begins : goal.returns-clause-begins
returns-clause-begins c table copy = claimed_begins table copy

pub returns-clause-goes_on : goal.returns-clause-goes_on
returns-clause-goes_on c past entry st new allowed claimed =
    claimed_goes past st new entry.answer entry.actor entry.event allowed claimed

pub returns-clause-run : goal.returns-clause-run
returns-clause-run c table copy trace st run =
    claimed_run [] trace (at_rest table copy) st run (claimed_begins table copy)

pub returns-clause-unlocked : goal.returns-clause-unlocked
returns-clause-unlocked c st claimed none = none_locked st claimed none
