-- Plans of a space whose pages are all in memory.
use Rattle.std.proofs.Common.{◌≡◌, ℕ, List, Option, None, refl, sym, ◌∙◌, ap, arith, map}
use Rattle.std.specs.Prelude.{IfErr}
use Rattle.std.specs.declared.result.Result.{Result}
use Rattle.std.specs.declared.result.Result.TheVariants.{Ok, Err}
use Rattle.rg_home.specs.declared.plan.Plan.{Plan}
use Rattle.rg_page.specs.Bare.{bare}
use Rattle.rg_page.specs.Content.{Content, slots_of}
use Rattle.rg_page.specs.Seen.{Reads}
use Rattle.rg_page.specs.declared.list.ListFrames.{ListFrames}
use Rattle.rg_space.specs.Ready.{HasCause}
use Rattle.rg_space.specs.Space.{Agree, frames_of, summaries_of}
use Rattle.rg_space.specs.declared.fault.SpaceFault.{SpaceFault}
use Rattle.rg_space.specs.declared.fault.SpaceFault.TheVariants.{Full, Device, NoMemory}
use Rattle.rg_space.specs.declared.space.Space.{Space}
use Rattle.rg_space.specs.Memory.{list_seen}
use Rattle.rg_engine.specs.Planned.{IsRefusal}

-- pages that were read are as they were
pub agree_later : (old new : Space ListFrames)
    → Reads (list_seen (frames_of old)) (list_seen (frames_of new))
    → (summaries_of new).pages ≡ (summaries_of old).pages
    → Agree (list_seen (frames_of old)) (summaries_of old)
    → Agree (list_seen (frames_of new)) (summaries_of new)
agree_later old new reads same agree =
    ap (λ (ps : List Content). map (map bare) (slots_of ps)) (reads.same refl) ∙ agree ∙ sym same

pub err_so : {T E : Type 0} (P Q : E → Type 0) (r : Result T E) → ((x : E) → P x → Q x) → IfErr r P
    → IfErr r Q
err_so {T} {E} P Q (Ok x) f h = tt
err_so {T} {E} P Q (Err e) f h = f e h

-- there is no device that could fail
pub refusal : (old new : ListFrames) (b : ℕ) (A : Type 0) (plan : Option Plan) → (A → plan ≡ None)
    → (fault : SpaceFault) → HasCause fault b A (list_seen old) (list_seen new)
    → IsRefusal b plan fault
refusal old new b A plan f (Full need) h = (h.0, f h.1)
refusal old new b A plan f Device h = absurd (omega (arith, h (omega arith)))
refusal old new b A plan f NoMemory h = tt
