-- Pages in memory: all are held, each has its number and is of the copy, and what was read is as it
-- was.
use Rattle.std.proofs.Common.{◌≡◌, List, [], ◌∷◌, refl, sym, ◌∙◌, ap, map}
use Rattle.rg_base.specs.declared.part.Part.{Part}
use Rattle.rg_page.specs.Bare.{bare}
use Rattle.rg_page.specs.Content.{Content, slots_of}
use Rattle.rg_page.specs.Listed.{list_numbered, list_of_copy}
use Rattle.rg_page.specs.Seen.{Reads}
use Rattle.rg_page.specs.declared.list.ListFrames.{ListFrames}
use Rattle.rg_space.specs.Applied.{AllHeld}
use Rattle.rg_space.specs.Space.{Agree, frames_of, summaries_of}
use Rattle.rg_space.specs.declared.space.Space.{Space}
use Rattle.rg_shadow.specs.Planned.{AreNumbered, AreOfCopy, pages_in, seen_in}

pub all_held : (space : Space ListFrames) (parts : List Part) → AllHeld (seen_in space) parts
all_held space [] = tt
all_held space (x ∷ parts) = (λ low high. refl, all_held space parts)

pub all_numbered : (space : Space ListFrames) → AreNumbered (pages_in space)
all_numbered space n low high =
    let f = frames_of space in
    list_numbered f.copy f.pages f.reserved f.is_list n low high

pub all_of_copy : (space : Space ListFrames) → AreOfCopy (frames_of space).copy (pages_in space)
all_of_copy space n low high =
    let f = frames_of space in
    list_of_copy f.copy f.pages f.reserved f.is_list n low high

pub agree_later : (old new : Space ListFrames) → Reads (seen_in old) (seen_in new)
    → (summaries_of new).pages ≡ (summaries_of old).pages
    → Agree (seen_in old) (summaries_of old) → Agree (seen_in new) (summaries_of new)
agree_later old new reads same agree =
    ap (λ (ps : List Content). map (map bare) (slots_of ps)) (reads.same refl) ∙ agree ∙ sym same
