use Rattle.std.proofs.Common.{arith}
use Rattle.rg_base.proofs.Numerals.{digits_found}
use Rattle.rg_base.proofs.number.read_digits.Goals as goal

pub returns-clause-found : goal.returns-clause-found
returns-clause-found c = grind (arith, digits_found)
