-- How the pages of a new copy come to its set.
--
-- 1. Each page is written to the copy's set as it is, and no other call writes anything
--    (`WritesCopy`). None of the pages has a position that the log has not.
-- 2. So at each moment of the writes each page of that set is an old one (`OldThroughout`).
-- 3. A write that succeeded is read from then on: once the first pages were written, they read so
--    (`WriteReads`).
-- 4. Once all were written and a sync succeeded, whatever a crash leaves has the new copy
--    (`SyncLeavesCopy`).
use Rattle.std.specs.Prelude.{◌≡◌, ◌≤◌, ◌+◌, ℕ, List, length, Option, Ok}
use Rattle.rg_base.specs.Copies.{set_of}
use Rattle.rg_base.specs.declared.set.Set.{Set}
use Rattle.rg_outside.specs.Calls.{Call, FailedWrite, Image, Told, Wrote, read_of}
use Rattle.rg_outside.specs.Capacities.{Capacities, capacity_of}
use Rattle.rg_outside.specs.Made.{MadeSync, MadeWrite}
use Rattle.rg_outside.specs.Moments.{EachCall, EachImage, HoldsThroughout, IfTold}
use Rattle.rg_page.specs.Content.{Content, content_at}
use Rattle.rg_record.specs.declared.record.Record.{Record}
use Rattle.rg_laws_crash.specs.SwitchRecord.Switched.{AreOldPages, HasNewCopy, IsPageOfCopy}
use Rattle.rg_laws_crash.specs.PageVersions.Versions.{Spells}

-- pages 1 on of this copy, none with a position above this one
abbrev pub ArePagesOf : (copy high : ℕ) → List Content → Type 0
ArePagesOf copy high pages =
    (p : ℕ) → 1 ≤ p → p ≤ length pages → IsPageOfCopy copy high p (content_at pages p)

-- what is written to page p of this set is that page
pub record IsWriteOf (copy : ℕ) (pages : List Content) (set : Set) (p : ℕ) (bytes : List ℕ)
    : Type 0 where
  pub set_is : set ≡ set_of copy
  pub low : 1 ≤ p
  pub high : p ≤ length pages
  pub spells : Spells bytes (content_at pages p)

-- a call that writes one of the pages, or nothing
abbrev pub WritesCopy : (copy : ℕ) → List Content → Call → Type 0
WritesCopy copy pages (Wrote set p bytes) = IsWriteOf copy pages set p bytes
WritesCopy copy pages (FailedWrite set p bytes reads) = IsWriteOf copy pages set p bytes
WritesCopy copy pages call = Unit {0}

-- the first so many pages stand in the copy's set
abbrev pub HasFirst : (copy : ℕ) → List Content → (count : ℕ) → Image → Type 0
HasFirst copy pages count i =
    (p : ℕ) → 1 ≤ p → p ≤ count → Spells (i (set_of copy) p) (content_at pages p)

abbrev pub OldThroughout : Type 0
OldThroughout =
    (capacities : Capacities) (copy high : ℕ) (pages : List Content) (old new : Option Told)
    → ArePagesOf copy high pages → IfTold old (EachImage (AreOldPages capacities copy high))
    → EachCall old new (WritesCopy copy pages)
    → HoldsThroughout old new (EachImage (AreOldPages capacities copy high))

abbrev pub WriteReads : Type 0
WriteReads =
    (copy : ℕ) (pages : List Content) (count : ℕ) (bytes : List ℕ) (old new : Option Told)
    → IfTold old (λ t. HasFirst copy pages count (read_of t.first t.calls))
    → Spells bytes (content_at pages (count + 1))
    → MadeWrite (Ok tt) old (set_of copy) (count + 1) bytes new
    → IfTold new (λ t. HasFirst copy pages (count + 1) (read_of t.first t.calls))

-- all pages were written, and there is room for them in the set
pub record AreWritten (capacities : Capacities) (copy forced : ℕ) (pages : List Content)
    (told : Option Told) : Type 0 where
  pub room : length pages ≤ capacity_of capacities (set_of copy)
  pub capacities_are : IfTold told (λ t. t.capacities ≡ capacities)
  pub reads : IfTold told (λ t. HasFirst copy pages (length pages) (read_of t.first t.calls))
  pub old : IfTold told (EachImage (AreOldPages capacities copy forced))

abbrev pub SyncLeavesCopy : Type 0
SyncLeavesCopy =
    (capacities : Capacities) (rs : List Record) (copy forced : ℕ) (pages : List Content)
    (old new : Option Told) → forced ≤ length rs → AreWritten capacities copy forced pages old
    → MadeSync (Ok tt) old new → IfTold new (EachImage (HasNewCopy capacities rs copy pages))
