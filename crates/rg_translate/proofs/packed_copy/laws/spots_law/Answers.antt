use Rattle.rg_translate.proofs.PackedCopyLemmas.Quiet.{packed_quiet}
use Rattle.rg_translate.proofs.PackedCopyLemmas.Spots.{packed_spots_are}
use Rattle.rg_translate.proofs.packed_copy.laws.spots_law.Goals as goal

pub returns-clause-spots : goal.returns-clause-spots
returns-clause-spots c options rows pages has = packed_spots_are options rows pages has

pub returns-clause-quiet : goal.returns-clause-quiet
returns-clause-quiet c options rows past order keys = packed_quiet options rows past order keys
