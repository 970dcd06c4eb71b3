-- Where the pages of the sets stand in the file.
use Rattle.std.specs.Prelude.{ℕ, ◌≡◌, ◌<◌, ◌+◌, ◌-◌, ◌*◌, List, ◌++◌, take, replicate}
use Rattle.std.specs.Prelude.{Option, IfSome, Result, Ok}
use Rattle.std.specs.Io.KnownBytes.{Appends, Keeps}
use Rattle.std.specs.Io.Seek.{MovesTo}
use Rattle.rg_base.specs.declared.set.Set.{Set}
use Rattle.rg_base.specs.declared.set.Set.TheVariants.{Log, First, Second}
use Rattle.rg_file.specs.Sizes.{volume_length}
use Rattle.rg_file.specs.declared.folder.VolumeRefusal.{VolumeRefusal}
use Rattle.rg_file.specs.declared.folder.VolumeRefusal.TheVariants as refusals
use Rattle.rg_file.specs.declared.sizes.Sizes.{Sizes}

-- how many pages stand before a set: the log is first, and then the copies in order
abbrev pub pages_before : Sizes → Set → ℕ
pages_before sizes Log = 0
pages_before sizes First = sizes.log
pages_before sizes Second = sizes.log + sizes.copy

-- a file that was cut: it has bytes, and fewer than all pages
abbrev pub IsShort : Sizes → ℕ → Type 0
IsShort sizes len = (0 < len) × (len < volume_length sizes)

-- why a volume is refused: a length that is named is that of a file that was cut
abbrev pub IsVolumeCause : Sizes → VolumeRefusal → Type 0
IsVolumeCause sizes refusals.Busy = Unit {0}
IsVolumeCause sizes (refusals.Short length) = IsShort sizes length
IsVolumeCause sizes refusals.NoMemory = Unit {0}

-- a seek that succeeded
abbrev pub went : Result (Unit {0}) (Unit {0})
went = Ok tt

-- the place of a page's first byte
abbrev pub offset_of : Sizes → Set → ℕ → ℕ
offset_of sizes set page = (pages_before sizes set + (page - 1)) * 4096

-- the bytes at the front, with zeros for those past the end
abbrev pub padded : ℕ → List ℕ → List ℕ
padded len bytes = take len (bytes ++ replicate len 0)

-- The file went to a page's place, and its bytes stayed. What is known of the place and of the
-- bytes is what the file reports.
abbrev pub GoesTo : {F : Type 0}
    → Sizes → (F → Option ℕ) → (F → Option (List ℕ)) → F → Set → ℕ → F → Type 0
GoesTo sizes position stored old set page there =
    MovesTo (position old) (position there) (offset_of sizes set page) went
    × Keeps (stored old) (stored there)

-- A page was read at its place: there the file had these bytes left, or fewer, with zeros behind.
abbrev pub ReadsPage : {F : Type 0}
    → Sizes → (F → Option ℕ) → (F → Option (List ℕ)) → (F → Option (List ℕ))
    → F → Set → ℕ → List ℕ → Type 0
ReadsPage {F} sizes position stored remaining old set page bytes =
    (there : F) × GoesTo sizes position stored old set page there
    × IfSome (remaining there) (λ left. bytes ≡ padded 4096 left)

-- A page was written at its place: there the file took these bytes.
abbrev pub WritesPage : {F : Type 0}
    → Sizes → (F → Option ℕ) → (F → Option (List ℕ)) → (F → Option (List ℕ))
    → F → Set → ℕ → List ℕ → F → Type 0
WritesPage {F} sizes position stored contents old set page bytes new =
    (there : F) × GoesTo sizes position stored old set page there
    × Appends (contents there) (contents new) bytes
