-- The file of a volume's sizes, and which sizes `main` takes.
use Rattle.std.specs.Prelude.{ℕ, ◌≡◌, ◌⊎◌, true, List, [], ◌∷◌, ◌++◌, codes}
use Rattle.std.specs.Prelude.{Option, Some, None, Result, Ok, Err}
use Rattle.std.specs.Fmt.{decimal}
use Rattle.std.specs.declared.alloc.Global.{Global}
use Rattle.std.specs.declared.vec.Vec.{Vec}
use Rattle.rg_file.specs.Sizes.{is_standard}
use Rattle.rg_file.specs.declared.reading.FileFault.{FileFault}
use Rattle.rg_file.specs.declared.reading.FileFault.TheVariants as files
use Rattle.rg_file.specs.declared.sizes.Sizes.{Sizes}
use Rattle.reorgdb.specs.declared.edge.Refusal.{Refusal}
use Rattle.reorgdb.specs.declared.edge.Refusal.TheVariants as refusals

-- the line of these sizes: `LOG n COPY m`
abbrev pub sizes_line : Sizes → List ℕ
sizes_line sizes = codes "LOG " ++ (decimal sizes.log ++ 32 ∷ (codes "COPY " ++ decimal sizes.copy))

-- the file of these sizes is their line, which may lack its line feed
abbrev pub IsSizesFile : List ℕ → Sizes → Type 0
IsSizesFile bytes sizes = (bytes ≡ sizes_line sizes) ⊎ (bytes ≡ sizes_line sizes ++ 10 ∷ [])

-- Which sizes are taken by what was found: the standard ones where there is no file.
abbrev pub TakesSizes : Result (Option (Vec ℕ Global)) FileFault → Result Sizes Refusal → Type 0
TakesSizes (Ok None) (Ok sizes) = is_standard sizes ≡ true
TakesSizes (Ok None) (Err refusal) = ⊥
TakesSizes (Ok (Some bytes)) (Ok sizes) = IsSizesFile bytes.items sizes
TakesSizes (Ok (Some bytes)) (Err refusal) =
    (refusal ≡ refusals.SizesFile) × ((sizes : Sizes) → IsSizesFile bytes.items sizes → ⊥)
TakesSizes (Err files.Failed) taken = taken ≡ Err refusals.SizesUnread
TakesSizes (Err files.NoMemory) taken = taken ≡ Err refusals.NoMemory
