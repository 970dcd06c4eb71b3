-- The statuses and the texts of refusals.
use Rattle.std.specs.Prelude.{ℕ, ◌≤◌, ◌⊎◌, List, ◌++◌, codes}
use Rattle.std.specs.Fmt.{decimal}
use Rattle.rg_file.specs.declared.folder.VolumeRefusal.{VolumeRefusal}
use Rattle.rg_file.specs.declared.folder.VolumeRefusal.TheVariants as volumes
use Rattle.rg_file.specs.declared.sizes.Sizes.{Sizes}
use Rattle.reorgdb.specs.declared.edge.Refusal.{Refusal}
use Rattle.reorgdb.specs.declared.edge.Refusal.TheVariants as refusals
use Rattle.reorgdb.specs.declared.outcome.Outcome.{Outcome}
use Rattle.reorgdb.specs.declared.outcome.Outcome.TheVariants as outcomes

abbrev pub status_of : Outcome → ℕ
status_of outcomes.Played = 0
status_of outcomes.Down = 6
status_of outcomes.Shown = 0
status_of outcomes.Words = 1
status_of (outcomes.Deck line) = 2
status_of outcomes.Source = 3
status_of (outcomes.Damaged set page) = 5
status_of outcomes.Device = 6
status_of outcomes.Long = 7
status_of outcomes.NoMemory = 8

-- the whole output of a refusal that has no number in it
abbrev pub fixed_text : Outcome → List ℕ
fixed_text outcomes.Played = codes ""
fixed_text outcomes.Down = codes ""
fixed_text outcomes.Shown = codes ""
fixed_text outcomes.Words = codes "REFUSED words\n"
fixed_text (outcomes.Deck line) = codes ""
fixed_text outcomes.Source = codes "REFUSED source\n"
fixed_text (outcomes.Damaged set page) = codes ""
fixed_text outcomes.Device = codes "REFUSED volume device\n"
fixed_text outcomes.Long = codes "REFUSED deck long\n"
fixed_text outcomes.NoMemory = codes ""

-- a deck is refused by the number of its first line that is refused
abbrev pub deck_refusal : ℕ → List ℕ
deck_refusal line = codes "REFUSED deck line " ++ decimal line ++ codes "\n"

-- the status where the call is not made
abbrev pub refusal_status : Refusal → ℕ
refusal_status (refusals.OperatorLine line) = 11
refusal_status refusals.OperatorFile = 12
refusal_status refusals.SizesFile = 13
refusal_status refusals.SizesUnread = 14
refusal_status (refusals.VolumeBusy sizes) = 15
refusal_status (refusals.VolumeShort sizes length) = 16
refusal_status refusals.NoMemory = 8

-- and the whole output
abbrev pub refusal_text : Refusal → List ℕ
refusal_text (refusals.OperatorLine line) =
    codes "REFUSED operator line " ++ decimal line ++ codes "\n"
refusal_text refusals.OperatorFile = codes "REFUSED operator\n"
refusal_text refusals.SizesFile = codes "REFUSED volume.txt\n"
refusal_text refusals.SizesUnread = codes "REFUSED volume.txt read\n"
refusal_text (refusals.VolumeBusy sizes) = codes "REFUSED volume busy\n"
refusal_text (refusals.VolumeShort sizes length) = codes "REFUSED volume short\n"
refusal_text refusals.NoMemory = codes ""

-- a volume that is not opened is refused for the same reason
abbrev pub volume_refusal : Sizes → VolumeRefusal → Refusal
volume_refusal sizes volumes.Busy = refusals.VolumeBusy sizes
volume_refusal sizes (volumes.Short length) = refusals.VolumeShort sizes length
volume_refusal sizes volumes.NoMemory = refusals.NoMemory

-- a status of which a line on standard error says why
abbrev pub HasLine : ℕ → Type 0
HasLine status = ((3 ≤ status) × (status ≤ 6)) ⊎ ((11 ≤ status) × (status ≤ 16))
