use Rattle.rg_translate.proofs.PackedCopyLemmas.Sources.{sources_are}
use Rattle.rg_translate.proofs.packed_copy.laws.table_law.Goals as goal

pub returns : goal.returns
returns c s rows keys mapped same is = sources_are s rows keys mapped same is
