-- Frames in memory hold all pages.
use Rattle.std.proofs.Common.{List, [], ◌∷◌, refl}
use Rattle.rg_base.specs.declared.part.Part.{Part}
use Rattle.rg_page.specs.declared.list.ListFrames.{ListFrames}
use Rattle.rg_space.specs.Applied.{AllHeld}
use Rattle.rg_space.specs.Memory.{list_seen}

pub all_held : (f : ListFrames) (parts : List Part) → AllHeld (list_seen f) parts
all_held f [] = tt
all_held f (x ∷ parts) = (λ low high. refl, all_held f parts)
