use Rattle.rg_laws_log.proofs.StoredRowsLemmas.Stores.{undos_add_none, log_stores, opening_stores}
use Rattle.rg_laws_log.proofs.StoredRowsLemmas.Stores.{stored_by_key}
use Rattle.rg_laws_log.proofs.stored_rows.laws.keyed_law.Goals as goal

pub returns-clause-stored : goal.returns-clause-stored
returns-clause-stored c rs k = stored_by_key rs k

pub returns-clause-undos : goal.returns-clause-undos
returns-clause-undos c rs more are = undos_add_none rs more are

pub returns-clause-opening : goal.returns-clause-opening
returns-clause-opening c limit pages units top old tested below more runs k =
    opening_stores limit pages units top old tested below more runs k

pub returns-clause-log : goal.returns-clause-log
returns-clause-log c limit rs runs k = log_stores limit rs runs k
