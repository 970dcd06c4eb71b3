use Rattle.rg_record.proofs.Again.{one_record}
use Rattle.rg_record.proofs.laws.bytes_are_of_one_record.Goals as goal

pub returns : goal.returns
returns c = one_record
