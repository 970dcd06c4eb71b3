-- What an opening finds, step by step.
--
-- 1. It goes on from a log that keeps its rules, over a copy that may have so many pages.
-- 2. Each step keeps what those before it found. One that is refused names the rule that is broken.
-- 3. The pages are the newest versions that the records of the log make of those that were read. So
--    many were read as the log counts.
-- 4. A log with the records that were read, and any of those that the undo appended, can be opened
--    again.
use Rattle.std.specs.Prelude.{◌≡◌, ◌≤◌, ◌<◌, ◌+◌, ◌^◌, ◌++◌, ℕ, List, Option, length, take}
use Rattle.rg_base.specs.declared.position.Position.{Position}
use Rattle.rg_base.specs.declared.set.Set.{Set}
use Rattle.rg_check.specs.Chain.Kept.{IsKept}
use Rattle.rg_check.specs.Chain.Running.{Running}
use Rattle.rg_home.specs.Able.{Proper}
use Rattle.rg_home.specs.Pages.{slot_of}
use Rattle.rg_home.specs.Rows.{row_at}
use Rattle.rg_image.specs.Pack.{log_bytes}
use Rattle.rg_image.specs.Rules.{ArePositions, IsChain, copy_capacity, limit_of, owed}
use Rattle.rg_btree.specs.Indexes.Listings.{AreListings}
use Rattle.rg_laws_log.specs.StoredRows.Keyed.{AllTakeBack}
use Rattle.rg_log.specs.Kept.{Listed, log_pages}
use Rattle.rg_model.specs.State.{Table, row_count}
use Rattle.rg_home.specs.Slot.{Slot}
use Rattle.rg_outside.specs.Capacities.{Capacities}
use Rattle.rg_page.specs.Content.{Content}
use Rattle.rg_page.specs.declared.list.ListFrames.{ListFrames}
use Rattle.rg_redo.specs.CurrentCopy.Rebuilt.{CanRebuild}
use Rattle.rg_record.specs.declared.record.Record.{Record}
use Rattle.rg_space.specs.Space.{capacity_in, frames_of}
use Rattle.rg_space.specs.declared.space.Space.{Space}
use Rattle.rg_engine.specs.Begins.{CanBegin}
use Rattle.rg_base.specs.Copies.{IsCopy}
use Rattle.rg_space.specs.Memory.{list_seen, space_pages}
use Rattle.rg_laws_crash.specs.NewestPages.Tidy.{opened_epoch, switched_pages}
use Rattle.rg_engine.specs.Newest.{HasNewest}
use Rattle.rg_engine.specs.Stored.{IsStored}
use Rattle.rg_desk.specs.declared.desk.OpenCause.{OpenCause}
use Rattle.rg_desk.specs.declared.desk.OpenCause.TheVariants.{Damaged, Device, NoMemory}
use Rattle.rg_engine.specs.declared.found.Found.{Found}
use Rattle.rg_check.specs.OpenUnits.Unended.{open_in}
use Rattle.rg_restart.specs.Closed.{IsInStep, TookBack}
use Rattle.rg_laws_crash.specs.SoundVolume.Closing.{closed_log}
use Rattle.rg_laws_crash.specs.SoundVolume.Pages.{CanClose, KeepsRules, copy_of, count_of}
use Rattle.rg_laws_crash.specs.SoundVolume.Pages.{undone_from}
use Rattle.rg_laws_crash.specs.SoundVolume.Reopens.{CanReopen}
use Rattle.rg_laws_crash.specs.PageVersions.Versions.{IsBegun}

-- the log of a volume of these capacities, whose current copy may have so many pages
pub record IsLogOf (capacities : Capacities) (log : Listed) (capacity : ℕ) : Type 0 where
  pub chain : IsChain capacities log.records
  pub pages : log.pages ≡ log_pages capacities
  pub capacity_is : capacity ≡ copy_capacity capacities (copy_of log.records)

-- a log that keeps its rules, of which this is kept, and the pages that its copy may have
pub record MayFind (log : Listed) (chain : Running) (capacity : ℕ) : Type 0 where
  pub kept : IsKept log.records chain
  pub can : CanRebuild (count_of log.records) log.records
  pub positions : ArePositions log.records
  pub copy : IsCopy (copy_of log.records)
  pub within : count_of log.records ≤ capacity
  pub limit : capacity ≤ 65536
  pub space : log_bytes log.records + owed log.records ≤ limit_of log.pages
  pub idle : log.reserved ≡ 0
  pub forced : log.forced ≡ length log.records
  pub capacities : Capacities
  pub volume : IsLogOf capacities log capacity

-- why a step refused: the first rule that is broken names this page, or memory ran out
abbrev pub Refuses : (breaks : Set → ℕ → Type 0) → OpenCause → Type 0
Refuses breaks (Damaged set page) = breaks set page
Refuses breaks Device = ⊥
Refuses breaks NoMemory = Unit {0}

-- records that undo was appended to
pub record IsGrown (rs records : List Record) : Type 0 where
  pub more : List Record
  pub back : AllTakeBack more
  pub are : records ≡ rs ++ more

-- Of the log that had the records `rs`, and now has these, the open units are undone. The pages
-- were these before.
pub record IsUndone (redone : List (List Slot)) (rs records : List Record)
    (space : Space ListFrames) : Type 0 where
  pub closes : CanClose rs redone
  pub grown : IsGrown rs records
  pub first : Proper redone
  pub in_step : IsInStep space
  pub proper : Proper (space_pages space)
  pub slots : space_pages space ≡ undone_from rs redone
  pub count_is : length (space_pages space) ≡ length redone

-- so they are, and no more was appended than was reserved
pub record IsClosed (redone : List (List Slot)) (log : Listed) (capacity : ℕ)
    (space : Space ListFrames) (now : Listed) : Type 0 where
  pub undone : IsUndone redone log.records now.records space
  pub capacity_is : capacity_in space ≡ capacity
  pub took : TookBack (open_in log.records) (owed log.records) log now
  pub idle : now.reserved ≡ 0
  pub records : now.records ≡ closed_log log.records redone

-- these records store a table of so few rows
pub record StoresFew (records : List Record) : Type 0 where
  pub start : Table
  pub starts : IsStored records start
  pub few : row_count start < 2 ^ 32

-- the pages are the same
pub record SamePages (old new : Space ListFrames) : Type 0 where
  pub in_step : IsInStep new
  pub slots : space_pages new ≡ space_pages old
  pub contents : (list_seen (frames_of new)).pages ≡ (list_seen (frames_of old)).pages
  pub copy : (list_seen (frames_of new)).copy ≡ (list_seen (frames_of old)).copy
  pub capacity : capacity_in new ≡ capacity_in old

-- A log of a volume of these capacities that had the records `rs`, and now has these, can be opened
-- again at each length from then on, of the copy that the opening begins with these pages. An
-- opening takes each of them as it is, and the copy has the pages that its Switch counts.
pub record ReopensFrom (capacities : Capacities) (base : List Content) (rs now : List Record)
    : Type 0 where
  pub begun : (p : ℕ) → 1 ≤ p → IsBegun (opened_epoch rs base) p
  pub counts :
      (opened_epoch rs base).pages ≡ switched_pages (take (opened_epoch rs base).from now)
  pub can :
      (n : ℕ) → length rs ≤ n → n ≤ length now
      → CanReopen capacities (opened_epoch rs base) (take n now)

-- What an opening found, from a log and the pages that were read, with these marks, over a copy
-- that may have so many pages: what a desk may begin with, and the pages are those that the log
-- leaves.
pub record Finds (base : List Content) (marks : List (Option Position)) (log : Listed)
    (capacity : ℕ) (found : Found) : Type 0 where
  pub rules : KeepsRules base log.records
  pub taken : length base ≡ count_of log.records
  pub begins : CanBegin capacity (space_pages found.space) found.log found.top
  pub in_step : IsInStep found.space
  pub listings : AreListings (row_at (slot_of (space_pages found.space))) found.indexes
  pub capacity_is : capacity_in found.space ≡ capacity
  pub copy : IsCopy found.copy
  pub copy_is : found.copy ≡ copy_of log.records
  pub count_is : length (space_pages found.space) ≡ count_of log.records
  pub took : TookBack (open_in log.records) (owed log.records) log found.log
  pub newest : HasNewest (opened_epoch log.records base) found.log.records found.space
  pub marks_are : found.marks.items ≡ marks
  pub reopens :
      (capacities : Capacities) → IsLogOf capacities log capacity → (n : ℕ)
      → length log.records ≤ n → n ≤ length found.log.records
      → CanReopen capacities (opened_epoch log.records base) (take n found.log.records)
