-- The rule for data pages, one page at a time, and how an opening marks them.
--
-- 1. A page is tested by its copy, its number and the position of the last record, and taken by the
--    last Switch. Zeros spell the page without slots and with position 0.
-- 2. A page that is taken as it was read is marked with its position. One that is left over has no
--    mark.
-- 3. What was taken of a page would be taken as it is.
use Rattle.std.specs.Prelude.{◌≡◌, ◌≤◌, ◌<◌, ◌&&◌, nat_lt, ℕ, Bool, true, false, List, [], ◌∷◌}
use Rattle.std.specs.Prelude.{length, Option, Some, None}
use Rattle.std.specs.List.{AllByRecursion}
use Rattle.rg_base.specs.declared.position.Position.{Position}
use Rattle.rg_base.specs.declared.set.Set.{Set}
use Rattle.rg_engine.specs.OnVolume.{mark_at}
use Rattle.rg_desk.specs.declared.desk.OpenCause.{OpenCause}
use Rattle.rg_desk.specs.declared.desk.OpenCause.TheVariants.{Damaged, Device, NoMemory}
use Rattle.rg_outside.specs.Calls.{Image, Told, read_of}
use Rattle.rg_outside.specs.Faults.{Rose}
use Rattle.rg_outside.specs.Moments.{IfTold}
use Rattle.rg_page.specs.Content.{Content, content_at}
use Rattle.rg_page.specs.declared.list.ListFrames.{ListFrames}
use Rattle.rg_page.specs.Bytes.Content.{FitsPage}
use Rattle.rg_page.specs.declared.bytes.fault.PageFault.{PageFault}
use Rattle.rg_page.specs.declared.bytes.fault.PageFault.TheVariants.{NotAPage}
use Rattle.rg_page.specs.declared.bytes.fault.PageFault.TheVariants as faults
use Rattle.rg_record.specs.declared.record.Kind.{Kind}
use Rattle.rg_record.specs.declared.record.Kind.TheVariants.{Change, Undo, Commit, RolledBack}
use Rattle.rg_record.specs.declared.record.Kind.TheVariants.{Purge, Switch}
use Rattle.rg_record.specs.declared.record.Record.{Record}
use Rattle.rg_laws_crash.specs.PageVersions.Versions.{Spells, taken_past}
use Rattle.rg_restart.specs.declared.data.LastSwitch.{LastSwitch}

-- the last Switch after one record more
abbrev pub switch_after : LastSwitch → (position : ℕ) → Kind → LastSwitch
switch_after last position (Change home before after parts) = last
switch_after last position (Undo next home after parts) = last
switch_after last position Commit = last
switch_after last position RolledBack = last
switch_after last position (Purge parts) = last
switch_after last position (Switch copy pages) = record { at = position; pages = pages }

abbrev pub switch_from : LastSwitch → List Record → LastSwitch
switch_from last [] = last
switch_from last (entry ∷ rs) = switch_from (switch_after last entry.position.0 entry.kind) rs

-- that of a log, or 0 and 0 where there is none
abbrev pub switch_of : List Record → LastSwitch
switch_of rs = switch_from (record { at = 0; pages = 0 }) rs

-- page n of a copy, of a log whose last record has this position, spelled by these bytes
pub record IsDataPage (copy last n : ℕ) (bytes : List ℕ) (x : Content) : Type 0 where
  pub spells : Spells bytes x
  pub copy_is : x.copy ≡ copy
  pub number : x.number ≡ n
  pub position : x.position ≤ last

-- what an opening takes of it
pub record IsTaken (copy last : ℕ) (switch : LastSwitch) (n : ℕ) (bytes : List ℕ) (y : Content)
    : Type 0 where
  pub page : Content
  pub data_page : IsDataPage copy last n bytes page
  pub is : y ≡ taken_past switch.at switch.pages n page

-- a page of this copy and number, of which an opening takes all as it is
pub record IsTakenAsIs (copy : ℕ) (switch : LastSwitch) (n : ℕ) (y : Content) : Type 0 where
  pub copy_is : y.copy ≡ copy
  pub number : y.number ≡ n
  pub same : taken_past switch.at switch.pages n y ≡ y

-- so are these pages, from page 1 on
abbrev pub AreTakenAsIs : (copy : ℕ) → LastSwitch → (base : List Content) → Type 0
AreTakenAsIs copy switch base =
    (n : ℕ) → 1 ≤ n → n ≤ length base → IsTakenAsIs copy switch n (content_at base n)

-- the mark of a page: its position, if it is not left over
abbrev pub mark_if : (is_old : Bool) → Content → Option Position
mark_if true x = None
mark_if false x = Some (record { 0 = x.position })

-- the same by the position and the pages of the last Switch
abbrev pub mark_past : (from pages n : ℕ) → Content → Option Position
mark_past from pages n x = mark_if (nat_lt pages n && nat_lt x.position from) x

-- how an opening marks it
pub record IsMarked (copy last : ℕ) (switch : LastSwitch) (n : ℕ) (bytes : List ℕ)
    (mark : Option Position) : Type 0 where
  pub page : Content
  pub data_page : IsDataPage copy last n bytes page
  pub is : mark ≡ mark_past switch.at switch.pages n page

-- it is none
abbrev pub BreaksData : (copy last n : ℕ) → List ℕ → Type 0
BreaksData copy last n bytes = (x : Content) → IsDataPage copy last n bytes x → ⊥

-- the pages 1 to `count` of a set, as an opening takes them
pub record TakesPages (copy last : ℕ) (switch : LastSwitch) (set : Set) (count : ℕ) (i : Image)
    (base : List Content) : Type 0 where
  pub count_is : length base ≡ count
  pub each : (n : ℕ) → 1 ≤ n → n ≤ count
      → IsTaken copy last switch n (i set n) (content_at base n)

-- the same pages, as an opening marks them
pub record MarksPages (copy last : ℕ) (switch : LastSwitch) (set : Set) (count : ℕ) (i : Image)
    (marks : List (Option Position)) : Type 0 where
  pub count_is : length marks ≡ count
  pub each : (n : ℕ) → 1 ≤ n → n ≤ count
      → IsMarked copy last switch n (i set n) (mark_at marks n)

-- this page is the first of them that is no data page
pub record IsFirstBroken (copy last : ℕ) (set : Set) (count : ℕ) (i : Image) (page : ℕ) : Type 0
  where
    pub low : 1 ≤ page
    pub high : page ≤ count
    pub broken : BreaksData copy last page (i set page)
    pub before : (n : ℕ) → 1 ≤ n → n < page
        → (x : Content) × IsDataPage copy last n (i set n) x

-- why a page was not taken: it is no data page, or memory ran out
abbrev pub IsUntaken : (copy last n : ℕ) → List ℕ → PageFault → Type 0
IsUntaken copy last n bytes NotAPage = BreaksData copy last n bytes
IsUntaken copy last n bytes faults.NoMemory = Unit {0}

-- pages of a copy that all have a spelling, and a position of at most the last record's
pub record AreBase (copy last count : ℕ) (frames : ListFrames) : Type 0 where
  pub copy_is : frames.copy ≡ copy
  pub reserved : frames.reserved.items ≡ []
  pub count_is : length frames.pages.items ≡ count
  pub fits : AllByRecursion FitsPage frames.pages.items
  pub low : AllByRecursion (λ (x : Content). x.position ≤ last) frames.pages.items

-- why the pages were not taken: the first that is no data page is named, a call failed, or memory
-- ran out
abbrev pub IsDataFault : (copy last : ℕ) → Set → (count : ℕ) → Option Told → (before now : ℕ)
    → OpenCause → Type 0
IsDataFault copy last set count told before now (Damaged s page) =
    (s ≡ set)
    × IfTold told (λ t. IsFirstBroken copy last set count (read_of t.first t.calls) page)
IsDataFault copy last set count told before now Device = Rose before now
IsDataFault copy last set count told before now NoMemory = Unit {0}
