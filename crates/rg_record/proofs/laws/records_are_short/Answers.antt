use Rattle.rg_record.proofs.Sizes.{record_size_high, record_size_limit}
use Rattle.rg_record.proofs.laws.records_are_short.Goals as goal

pub returns-clause-kind : goal.returns-clause-kind
returns-clause-kind c = record_size_high

pub returns-clause-all : goal.returns-clause-all
returns-clause-all c = record_size_limit
