-- The sizes of a volume, and the name of its file.
use Rattle.std.specs.Prelude.{ℕ, ◌+◌, ◌*◌, ◌==◌, ◌&&◌, Bool, if◌then◌else◌, List, ◌∷◌, ◌++◌, codes}
use Rattle.std.specs.Fmt.{decimal}
use Rattle.rg_outside.specs.Capacities.{Capacities}
use Rattle.rg_file.specs.declared.sizes.Sizes.{Sizes}

-- how many pages a set has
abbrev pub file_capacities : Sizes → Capacities
file_capacities sizes = record { log = sizes.log; first = sizes.copy; second = sizes.copy }

-- how many bytes a volume has: those of its log and of both copies of the table
abbrev pub volume_length : Sizes → ℕ
volume_length sizes = (sizes.log + sizes.copy + sizes.copy) * 4096

-- the sizes of a volume that has no file of sizes beside it
abbrev pub is_standard : Sizes → Bool
is_standard sizes = (sizes.log == 8192) && (sizes.copy == 4096)

-- a volume's file is named by its sizes, which a `-` parts, unless they are the standard ones
abbrev pub volume_name : Sizes → List ℕ
volume_name sizes =
    if is_standard sizes then codes "reorgdb.vol"
    else codes "reorgdb-" ++ (decimal sizes.log ++ 45 ∷ (decimal sizes.copy ++ codes ".vol"))
