-- What a desk keeps of a new copy that was written to the other set.
--
-- 1. It has the rows that the log stored then, each once, and its indexes are built.
-- 2. No page has a position above that of the last record then. They read as they were written, and
--    that is what their marks say. Where the volume read tidy when the count began, whatever a
--    crash leaves of the set has them.
-- 3. While the log has no more records, the copy has the rows of the table.
use Rattle.std.specs.Prelude.{◌≡◌, ◌≤◌, ◌<◌, ◌⊎◌, ℕ, List, Option, Some, None, length, take}
use Rattle.rg_laws_crash.specs.NewCopy.Writing.{HasFirst, WritesCopy}
use Rattle.rg_base.specs.declared.position.Position.{Position}
use Rattle.rg_base.specs.declared.which.Which.{Which}
use Rattle.rg_home.specs.Pages.{slot_of}
use Rattle.rg_home.specs.Rows.{row_at}
use Rattle.rg_image.specs.Meaning.{stored}
use Rattle.rg_image.specs.Rules.{copy_capacity}
use Rattle.rg_home.specs.Table.{IsTable}
use Rattle.rg_outside.specs.Calls.{read_of}
use Rattle.rg_outside.specs.Moments.{EachCall, EachImage, IfTold}
use Rattle.rg_page.specs.Content.{Content, content_at}
use Rattle.rg_record.specs.declared.record.Record.{Record}
use Rattle.rg_layout.specs.Spots.{spots_of}
use Rattle.rg_shadow.specs.Shade.{IsRightSideOf, Shade, shade_slots, stage_in}
use Rattle.rg_shadow.specs.declared.drafts.IndexStage.TheVariants.{Built}
use Rattle.rg_stmt.specs.declared.layout.Side.{Side}
use Rattle.rg_laws_crash.specs.SwitchRecord.Switched.{HasNewCopy, IsPageOfCopy}
use Rattle.rg_base.specs.Copies.{other_of}
use Rattle.rg_engine.specs.CopyPages.Stamped.{stamped_all}
use Rattle.rg_engine.specs.CopyPages.Written.{LeavesCopy, ReadsCopy}
use Rattle.rg_engine.specs.Flushed.{ForcesLog}
use Rattle.rg_engine.specs.declared.engine.Engine.{Engine}
use Rattle.rg_engine.specs.OnVolume.{WasAllTidy, mark_at}
use Rattle.rg_outside.specs.Volume.{VolumeSeen}
use Rattle.rg_engine.specs.declared.prepared.Prepared.{Prepared}
use Rattle.rg_feed.specs.declared.fold.item.Stage.{Stage}

-- what callers see of it: the copy, and how many records the log had when it was written
pub record PreparedSeen : Type 0 where
  pub shade : Shade
  pub records : ℕ

abbrev pub prepared_seen : Option Prepared → Option PreparedSeen
prepared_seen None = None
prepared_seen (Some p) = Some (record { shade = p.shadow; records = p.records })

-- what a mark says of page p of these; each of them has one
abbrev pub IsMarkOf : List Content → (p : ℕ) → Option Position → Type 0
IsMarkOf pages p None = length pages < p
IsMarkOf pages p (Some q) = (p ≤ length pages) × (q.0 ≡ (content_at pages p).position)

-- a new copy that was written when the log had some first of these records, while this copy is
-- current
pub record IsPrepared (p : Prepared) (records : List Record) (copy : ℕ) (seen : VolumeSeen)
    : Type 0 where
  pub within : p.records ≤ length records
  pub copy_is : p.shadow.copy ≡ other_of copy
  pub capacity : p.shadow.capacity ≡ copy_capacity seen.capacities (other_of copy)
  pub built : (which : Which) → stage_in which p.shadow ≡ Built
  pub each :
      (q : ℕ) → 1 ≤ q → q ≤ length p.shadow.pages
      → IsPageOfCopy (other_of copy) p.records q (content_at p.shadow.pages q)
  pub rows :
      IsTable (row_at (slot_of (shade_slots p.shadow))) (stored (take p.records records))
  pub marked : (q : ℕ) → 1 ≤ q → IsMarkOf p.shadow.pages q (mark_at p.marks.items q)
  pub reads :
      IfTold seen.told
      (λ t. HasFirst (other_of copy) p.shadow.pages (length p.shadow.pages)
      (read_of t.first t.calls))
  pub there :
      IfTold seen.told (λ t. WasAllTidy seen.capacities t
      → EachImage
      (HasNewCopy seen.capacities (take p.records records) (other_of copy) p.shadow.pages) t)

-- so it is of the one that is kept, if there is one
abbrev pub KeepsPrepared :
    Option Prepared → List Record → (copy : ℕ) → VolumeSeen → Type 0
KeepsPrepared None records copy seen = Unit {0}
KeepsPrepared (Some p) records copy seen = IsPrepared p records copy seen

-- all indexes are built
abbrev pub IsBuilt : Prepared → Type 0
IsBuilt p = (which : Which) → stage_in which p.shadow ≡ Built

-- a layout of the new copy that is kept, right for the table of its rows
abbrev pub IsSideOfKept : Option Prepared → Side → Type 0
IsSideOfKept None side = ⊥
IsSideOfKept (Some p) side =
    (side.pages ≡ length p.shadow.pages) × (side.spots ≡ spots_of (shade_slots p.shadow))
    × IsRightSideOf p.shadow side

-- a mark that says of one of so many pages that it was written with this position; each has one
abbrev pub IsMarkAt : (count at p : ℕ) → Option Position → Type 0
IsMarkAt count at p None = count < p
IsMarkAt count at p (Some q) = (p ≤ count) × (q.0 ≡ at)

-- so is each of these marks
abbrev pub AreMarksAt : (count at : ℕ) → List (Option Position) → Type 0
AreMarksAt count at marks = (p : ℕ) → 1 ≤ p → IsMarkAt count at p (mark_at marks p)

-- The log was forced, and then pages of a new copy were written to its set, each with the position
-- of the last record, or some of them were.
pub record WritesShadow (copy : ℕ) (pages : List Content) (before now : VolumeSeen)
    (old new : Engine) : Type 0 where
  pub mid : VolumeSeen
  pub forces : ForcesLog before mid old new
  pub only : EachCall mid.told now.told (WritesCopy copy pages)
  pub capacities : now.capacities ≡ mid.capacities
  pub later : mid.faults ≤ now.faults
  pub settled : (length old.log.records ≤ new.log.forced) ⊎ (now ≡ mid)

-- all records are forced, and all pages were written
pub record WroteShadow (copy : ℕ) (pages : List Content) (before now : VolumeSeen)
    (old new : Engine) : Type 0 where
  pub writes : WritesShadow copy pages before now old new
  pub forced : length old.log.records ≤ new.log.forced
  pub reads : ReadsCopy copy pages now.told
  pub leaves :
      LeavesCopy writes.mid.capacities copy (length old.log.records) pages writes.mid.told now.told

-- a new copy that was written so is kept, with its marks
pub record IsWritten (copy : ℕ) (shade : Shade) (before now : VolumeSeen) (old new : Engine)
    (p : Prepared) : Type 0 where
  pub wrote :
      WroteShadow copy (stamped_all (length old.log.records) shade.pages) before now old new
  pub shadow :
      p.shadow ≡ record shade { pages = stamped_all (length old.log.records) shade.pages }
  pub records : p.records ≡ length old.log.records
  pub marks : AreMarksAt (length shade.pages) (length old.log.records) p.marks.items

-- a new copy that was written is kept while a utility runs
abbrev pub while_running : {A : Type 0} → Option Stage → Option A → Option A
while_running None shadow = None
while_running (Some s) shadow = shadow

-- the new copy that is kept
abbrev pub shade_kept : Option PreparedSeen → Option Shade
shade_kept None = None
shade_kept (Some p) = Some p.shade
