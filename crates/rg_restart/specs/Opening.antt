-- What an opening finds, and when it is refused.
--
-- 1. An opening writes nothing. What its undo appends stays in memory until a COMMIT forces it.
-- 2. Where the volume read tidy, a crash leaves of each page of the current copy what was read: a
--    version of it that the records cover, or a page that is left over.
-- 3. The pages of the desk are what the records make of those that were taken. One that no record
--    names since the last Switch is as it was taken; up to those that this Switch counts it stands
--    as it was read.
-- 4. It is refused only where a page breaks a rule of a sound volume, a call of the volume failed,
--    or memory ran out. The page is that of the first rule that is broken.
use Rattle.std.specs.Prelude.{◌≡◌, ◌≤◌, ◌⊎◌, ℕ, false, List, length, drop}
use Rattle.std.specs.List.{AllByRecursion}
use Rattle.rg_base.specs.Copies.{set_of}
use Rattle.rg_base.specs.declared.set.Set.TheVariants.{Log}
use Rattle.rg_desk.specs.Desk.{DeskState, Opens}
use Rattle.rg_engine.specs.OnVolume.{IsOnVolume, WasAllTidy}
pub use Rattle.rg_engine.specs.OnVolume.{GoesOnTidy}
use Rattle.rg_engine.specs.Volume.{LeavesIfTidy}
use Rattle.rg_outside.specs.Volume.{VolumeSeen}
use Rattle.rg_desk.specs.declared.desk.OpenCause.{OpenCause}
use Rattle.rg_desk.specs.declared.desk.OpenCause.TheVariants.{Damaged, Device, NoMemory}
use Rattle.rg_engine.specs.declared.found.Found.{Found}
use Rattle.rg_home.specs.Pages.{slot_of}
use Rattle.rg_home.specs.Slot.{Slot}
use Rattle.rg_image.specs.Rules.{BreaksChain, BreaksSpace, IsChain, copy_capacity, owed}
use Rattle.rg_home.specs.Owners.{AllBelow}
use Rattle.rg_log.specs.Kept.{Listed, log_pages}
use Rattle.rg_log.specs.Open.{IsQuiet}
use Rattle.rg_log.specs.declared.fault.LogFault.{LogFault}
use Rattle.rg_log.specs.declared.fault.LogFault.TheVariants as log_faults
use Rattle.rg_laws_crash.specs.NewestPages.Newest.{page_in}
use Rattle.rg_laws_crash.specs.NewestPages.Tidy.{opened_epoch, switched_at, switched_pages}
use Rattle.rg_outside.specs.Calls.{Image, read_of}
use Rattle.rg_outside.specs.Capacities.{Capacities}
use Rattle.rg_outside.specs.Faults.{Rose}
use Rattle.rg_outside.specs.Moments.{EachCall, IfTold}
use Rattle.rg_page.specs.Content.{Content, slots_of}
use Rattle.rg_record.specs.declared.record.Record.{Record}
use Rattle.rg_space.specs.Memory.{space_pages}
use Rattle.rg_check.specs.OpenUnits.Unended.{open_in}
use Rattle.rg_laws_crash.specs.PageVersions.Versions.{Spells, names, version}
use Rattle.rg_restart.specs.Closed.{TookBack}
use Rattle.rg_restart.specs.Found.{Finds}
use Rattle.rg_laws_crash.specs.SoundVolume.Pages.{copy_of, count_of}
use Rattle.rg_laws_crash.specs.SoundVolume.Sound.{IsSoundBy}
use Rattle.rg_restart.specs.Sound.{IsDamage, MarksBase}

-- calls that write nothing
pub record CallsQuiet (old new : VolumeSeen) : Type 0 where
  pub only : EachCall old.told new.told IsQuiet
  pub later : old.faults ≤ new.faults
  pub capacities : new.capacities ≡ old.capacities

-- the cause of a log that was not read
abbrev pub cause_of : LogFault → OpenCause
cause_of (log_faults.Damaged page) = Damaged Log page
cause_of log_faults.Device = Device
cause_of log_faults.NoMemory = NoMemory

-- why the records of a log were refused: one does not follow, or there is no space
abbrev pub BreaksLog : Capacities → List Record → OpenCause → Type 0
BreaksLog capacities rs (Damaged set page) =
    (set ≡ Log)
    × (BreaksChain capacities rs page
    ⊎ (IsChain capacities rs × BreaksSpace (log_pages capacities) rs page))
BreaksLog capacities rs Device = ⊥
BreaksLog capacities rs NoMemory = Unit {0}

-- why an opening was refused
abbrev pub IsCause : (old new : VolumeSeen) → OpenCause → Type 0
IsCause old new (Damaged set page) =
    IfTold new.told (λ t. IsDamage new.capacities (read_of t.first t.calls) set page)
IsCause old new Device = Rose old.faults new.faults
IsCause old new NoMemory = Unit {0}

-- it was refused so
pub record IsRefused (old new : VolumeSeen) (cause : OpenCause) : Type 0 where
  pub calls : CallsQuiet old new
  pub because : IsCause old new cause

-- the volume reads sound: its log has these records, and these pages are taken
abbrev pub ReadsSound : VolumeSeen → List Record → (base : List Content) → Type 0
ReadsSound seen rs base =
    IfTold seen.told (λ t. IsSoundBy seen.capacities (read_of t.first t.calls) rs base)

-- what is found of a volume
pub record Looks (old new : VolumeSeen) (found : Found) : Type 0 where
  pub log : Listed
  pub pages : log.pages ≡ log_pages old.capacities
  pub base : List Content
  pub finds :
      Finds base found.marks.items log (copy_capacity old.capacities (copy_of log.records)) found
  pub calls : CallsQuiet old new
  pub sound : ReadsSound new log.records base
  pub marked :
      IfTold new.told (λ t. MarksBase log.records (read_of t.first t.calls) found.marks.items)
  pub leaves : LeavesIfTidy new found.log
  pub is_on : IsOnVolume found.copy found.log found.space found.marks.items new
  pub below : IfTold new.told (λ t. WasAllTidy new.capacities t
      → AllBelow found.top (slot_of (space_pages found.space)))

-- no record of these has a part on the page
abbrev pub NoneNames : (page : ℕ) → List Record → Type 0
NoneNames page rs = AllByRecursion (λ entry. names page entry ≡ false) rs

-- Pages that these records make of the ones that were taken, of a log that had the records `read`.
-- One that none names since the last Switch is as it was taken.
pub record AreMadeOf (read : List Record) (base : List Content) (rs : List Record)
    (pages : List Content) : Type 0 where
  pub each :
      (p : ℕ) → 1 ≤ p
      → page_in (copy_of read) pages p ≡ version (opened_epoch read base) rs (length rs) p
  pub unnamed :
      (p : ℕ) → 1 ≤ p → NoneNames p (drop (switched_at read) rs)
      → page_in (copy_of read) pages p ≡ page_in (copy_of read) base p

-- up to those that the Switch counts, such a page stands as this image has it
abbrev pub StandAsRead : (read rs : List Record) → (pages : List Content) → Image → Type 0
StandAsRead read rs pages i =
    (p : ℕ) → 1 ≤ p → p ≤ switched_pages read → NoneNames p (drop (switched_at read) rs)
    → Spells (i (set_of (copy_of read)) p) (page_in (copy_of read) pages p)

-- A desk that was opened over a volume: over its log as it read, to which the undo of open units
-- was appended, and over the pages that this log leaves. Its marks are those of the pages that were
-- read.
pub record OpensStored {V O : Type 0}
    (look : V → VolumeSeen) (old : VolumeSeen) (operator : O) (desk : DeskState V O) : Type 0
  where
    pub log : Listed
    pub pages : log.pages ≡ log_pages old.capacities
    pub now : Listed
    pub took : TookBack (open_in log.records) (owed log.records) log now
    pub slots : List (List Slot)
    pub count_is : length slots ≡ count_of log.records
    pub slots_are : slots ≡ slots_of desk.contents
    pub opens :
        Opens look desk.volume operator now (copy_of log.records)
        (copy_capacity old.capacities (copy_of log.records)) slots desk
    pub calls : CallsQuiet old (look desk.volume)
    pub base : List Content
    pub sound : ReadsSound (look desk.volume) log.records base
    pub marked :
        IfTold (look desk.volume).told
        (λ t. MarksBase log.records (read_of t.first t.calls) desk.marks)
    pub made_of : AreMadeOf log.records base now.records desk.contents
    pub as_read :
        IfTold (look desk.volume).told
        (λ t. StandAsRead log.records now.records desk.contents (read_of t.first t.calls))
