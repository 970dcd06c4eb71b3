-- What holds of the pages of a copy over calls of its volume.
--
-- 1. A write of a page that may stand there keeps it of each image, however the write ends
--    (`WriteKeeps`). A write to another set does, too (`OtherKeeps`).
-- 2. So do a sync and a read, however they end (`SyncKeeps`, `ReadKeeps`).
-- 3. So it is after records were appended and the log was forced further (`MoreKeeps`).
-- 4. Calls of which each writes no other set than one keep the pages of every other set
--    (`CallsKeep`).
use Rattle.std.specs.Prelude.{◌≤◌, ◌≢◌, ◌++◌, ℕ, List, length, Option, Result}
use Rattle.rg_base.specs.declared.set.Set.{Set}
use Rattle.rg_outside.specs.Calls.{Told}
use Rattle.rg_outside.specs.Made.{MadeRead, MadeSync, MadeWrite, WritesIn}
use Rattle.rg_outside.specs.Moments.{EachCall, EachImage, IfTold}
use Rattle.rg_outside.specs.declared.source.Failed.{Failed}
use Rattle.rg_record.specs.declared.record.Record.{Record}
use Rattle.rg_laws_crash.specs.PageVersions.OnImage.{HasPages}
use Rattle.rg_laws_crash.specs.PageVersions.Versions.{Epoch, IsOnVolume}

-- whatever a crash leaves of the volume has the pages
abbrev pub LeavesPages :
    (set : Set) → (capacity : ℕ) → Epoch → List Record → (forced : ℕ) → Option Told → Type 0
LeavesPages set capacity e rs forced told =
    IfTold told (EachImage (HasPages set capacity e rs forced))

abbrev pub WriteKeeps : Type 0
WriteKeeps =
    (set : Set) (capacity : ℕ) (e : Epoch) (rs : List Record) (forced : ℕ)
    (old new : Option Told) (result : Result (Unit {0}) Failed) (page : ℕ) (bytes : List ℕ)
    → LeavesPages set capacity e rs forced old → IsOnVolume e rs forced page bytes
    → MadeWrite result old set page bytes new → LeavesPages set capacity e rs forced new

abbrev pub OtherKeeps : Type 0
OtherKeeps =
    (set : Set) (capacity : ℕ) (e : Epoch) (rs : List Record) (forced : ℕ)
    (old new : Option Told) (result : Result (Unit {0}) Failed) (other : Set) (page : ℕ)
    (bytes : List ℕ) → other ≢ set → LeavesPages set capacity e rs forced old
    → MadeWrite result old other page bytes new → LeavesPages set capacity e rs forced new

abbrev pub SyncKeeps : Type 0
SyncKeeps =
    (set : Set) (capacity : ℕ) (e : Epoch) (rs : List Record) (forced : ℕ)
    (old new : Option Told) (result : Result (Unit {0}) Failed)
    → LeavesPages set capacity e rs forced old → MadeSync result old new
    → LeavesPages set capacity e rs forced new

abbrev pub ReadKeeps : Type 0
ReadKeeps =
    (set : Set) (capacity : ℕ) (e : Epoch) (rs : List Record) (forced : ℕ)
    (old new : Option Told) (result : Result (Unit {0}) Failed)
    → LeavesPages set capacity e rs forced old → MadeRead result old new
    → LeavesPages set capacity e rs forced new

abbrev pub MoreKeeps : Type 0
MoreKeeps =
    (set : Set) (capacity : ℕ) (e : Epoch) (rs more : List Record) (old new : ℕ)
    (told : Option Told) → old ≤ length rs → old ≤ new
    → LeavesPages set capacity e rs old told → LeavesPages set capacity e (rs ++ more) new told

abbrev pub CallsKeep : Type 0
CallsKeep =
    (set : Set) (capacity : ℕ) (e : Epoch) (rs : List Record) (forced : ℕ)
    (old new : Option Told) (other : Set) → other ≢ set → LeavesPages set capacity e rs forced old
    → EachCall old new (WritesIn other) → LeavesPages set capacity e rs forced new
