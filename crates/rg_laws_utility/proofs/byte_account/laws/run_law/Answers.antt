use Rattle.rg_laws_utility.proofs.ByteAccountLemmas.Accounts.{account_push, found_elsewhere}
use Rattle.rg_laws_utility.proofs.ByteAccountLemmas.Accounts.{found_goes, state_push}
use Rattle.rg_laws_utility.proofs.byte_account.laws.run_law.Goals as goal

pub returns-clause-state : goal.returns-clause-state
returns-clause-state c = state_push

pub returns-clause-account : goal.returns-clause-account
returns-clause-account c = account_push

pub returns-clause-found : goal.returns-clause-found
returns-clause-found c = found_goes

pub returns-clause-others : goal.returns-clause-others
returns-clause-others c = found_elsewhere
