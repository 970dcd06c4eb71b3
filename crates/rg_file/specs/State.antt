-- What there is of a volume's file, and what a page is read from and written into.
use Rattle.std.specs.Prelude.{ℕ, ◌≡◌, true, false, List, Option, replicate}
use Rattle.rg_base.specs.declared.set.Set.{Set}
use Rattle.rg_file.specs.Pages.{ReadsPage, WritesPage}
use Rattle.rg_file.specs.declared.sizes.Sizes.{Sizes}
use Rattle.rg_file.specs.declared.volume.VolumeFile.{VolumeFile}
use Rattle.rg_file.specs.declared.volume.VolumeFile.TheVariants.{Missing, There, Lost}

-- the file cannot be used
abbrev pub IsLost : {F : Type 0} → VolumeFile F → Type 0
IsLost Missing = ⊥
IsLost (There file is_whole) = ⊥
IsLost (Lost error) = Unit {0}

-- the volume has no page yet: its file is missing, or has no byte
abbrev pub IsNew : {F : Type 0} → VolumeFile F → Type 0
IsNew Missing = Unit {0}
IsNew (There file is_whole) = is_whole ≡ false
IsNew (Lost error) = ⊥

-- the file is there, and has its whole length
abbrev pub IsWhole : {F : Type 0} → VolumeFile F → Type 0
IsWhole {F} now = (file : F) × (now ≡ There file true)

-- the file has not its whole length, as far as is known: it is missing, new or lost
abbrev pub IsNotWhole : {F : Type 0} → VolumeFile F → Type 0
IsNotWhole Missing = Unit {0}
IsNotWhole (There file is_whole) = is_whole ≡ false
IsNotWhole (Lost error) = Unit {0}

-- The file that a write begins with: the one that is there, or else one that was made for it.
abbrev pub BeginsAs : {F : Type 0} → VolumeFile F → F → Type 0
BeginsAs Missing file = Unit {0}
BeginsAs (There there is_whole) file = file ≡ there
BeginsAs (Lost error) file = ⊥

-- that file has its whole length now
abbrev pub BecomesWhole : {F : Type 0} → VolumeFile F → VolumeFile F → Type 0
BecomesWhole {F} old new = (file : F) × BeginsAs old file × (new ≡ There file true)

-- A page was read: of a new volume zeros, and else from its place in the file.
abbrev pub ReadsFrom : {F : Type 0}
    → Sizes → (F → Option ℕ) → (F → Option (List ℕ)) → (F → Option (List ℕ))
    → VolumeFile F → Set → ℕ → List ℕ → Type 0
ReadsFrom sizes position stored remaining Missing set page bytes = bytes ≡ replicate 4096 0
ReadsFrom sizes position stored remaining (There file false) set page bytes =
    bytes ≡ replicate 4096 0
ReadsFrom sizes position stored remaining (There file true) set page bytes =
    ReadsPage sizes position stored remaining file set page bytes
ReadsFrom sizes position stored remaining (Lost error) set page bytes = ⊥

-- A page was written to its place in the file, which is whole then.
abbrev pub WritesInto : {F : Type 0}
    → Sizes → (F → Option ℕ) → (F → Option (List ℕ)) → (F → Option (List ℕ))
    → VolumeFile F → Set → ℕ → List ℕ → VolumeFile F → Type 0
WritesInto {F} sizes position stored contents old set page bytes new =
    (before : F) × (after : F) × BeginsAs old before × (new ≡ There after true)
    × WritesPage sizes position stored contents before set page bytes after
