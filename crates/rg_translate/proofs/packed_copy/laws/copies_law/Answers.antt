use Rattle.rg_translate.proofs.PackedCopyLemmas.Copies.{copies_are}
use Rattle.rg_translate.proofs.packed_copy.laws.copies_law.Goals as goal

pub returns : goal.returns
returns c = copies_are
