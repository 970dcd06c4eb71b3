-- What a volume has once the pages of a new copy were written to its set.
--
-- 1. The set reads as the pages (`ReadsCopy`), and the last call was the sync (`EndsSynced`).
-- 2. Take a position that is not below the one that the pages were given. If a crash leaves old
--    pages of the copy in the set, none above that position, then it does so at each moment
--    (`StaysOld`), and after the sync it leaves the new copy (`LeavesCopy`).
-- 3. Where a call failed, the first pages have their new position, and all else is the same
--    (`StampsSome`).
use Rattle.std.specs.Prelude.{◌≡◌, ◌≤◌, ℕ, List, ◌∷◌, length, Option}
use Rattle.rg_outside.specs.Calls.{Call, Synced, Told, read_of}
use Rattle.rg_outside.specs.Capacities.{Capacities}
use Rattle.rg_outside.specs.Moments.{EachImage, HoldsThroughout, IfTold}
use Rattle.rg_page.specs.Content.{Content}
use Rattle.rg_record.specs.declared.record.Record.{Record}
use Rattle.rg_laws_crash.specs.SwitchRecord.Switched.{AreOldPages, HasNewCopy}
use Rattle.rg_shadow.specs.Shade.{Shade}
use Rattle.rg_laws_crash.specs.NewCopy.Writing.{HasFirst}
use Rattle.rg_engine.specs.CopyPages.Stamped.{stamped_first}

-- the set of the copy reads as these pages
abbrev pub ReadsCopy : (copy : ℕ) → List Content → Option Told → Type 0
ReadsCopy copy pages told =
    IfTold told (λ t. HasFirst copy pages (length pages) (read_of t.first t.calls))

-- the set has old pages at each moment, if it had them before
abbrev pub StaysOld : Capacities → (copy at : ℕ) → (old new : Option Told) → Type 0
StaysOld capacities copy at old new =
    (forced : ℕ) → at ≤ forced → IfTold old (EachImage (AreOldPages capacities copy forced))
    → HoldsThroughout old new (EachImage (AreOldPages capacities copy forced))

-- a crash leaves the new copy, if the set had old pages before
abbrev pub LeavesCopy :
    Capacities → (copy at : ℕ) → List Content → (old new : Option Told) → Type 0
LeavesCopy capacities copy at pages old new =
    (forced : ℕ) (rs : List Record) → forced ≤ length rs → at ≤ forced
    → IfTold old (EachImage (AreOldPages capacities copy forced))
    → IfTold new (EachImage (HasNewCopy capacities rs copy pages))

-- the last call is a sync that succeeded
abbrev pub EndsSynced : Told → Type 0
EndsSynced t = (before : List Call) × (t.calls ≡ Synced ∷ before)

-- the first pages have this position, and all else is the same
pub record StampsSome (at : ℕ) (old new : Shade) : Type 0 where
  pub count : ℕ
  pub is : new ≡ record old { pages = stamped_first at count old.pages }
