-- What is seen of the volume of a desk.
--
-- 1. Only the log's pages are written.
-- 2. The calls are counted from some moment on. An entry has their number up to it.
-- 3. Where the log read tidy at that moment, whatever a crash leaves spells a part of the log's
--    records that has all that are forced.
-- 4. Where the pages past those of the copy did too, whatever a crash leaves of each page of the
--    copy's set is a version that the forced records cover, or a page that is left over.
-- 5. A mark says which version a page reads as: the one that it was read as or written as last. A
--    page without a mark was neither.
use Rattle.std.specs.Prelude.{◌≡◌, ◌≤◌, ◌+◌, ℕ, length}
use Rattle.rg_base.specs.declared.set.Set.TheVariants.{Log}
use Rattle.rg_outside.specs.Calls.{Told}
use Rattle.rg_outside.specs.Made.{WritesIn}
use Rattle.rg_outside.specs.Moments.{EachCall, EachImage, IfTold, read_at}
use Rattle.rg_outside.specs.Volume.{VolumeSeen}
use Rattle.rg_image.specs.Log.{SpellsFrom}
use Rattle.rg_image.specs.Rules.{IsTidyLog}
use Rattle.rg_log.specs.Kept.{LeavesLog, Listed}

-- calls that write no page of a copy
pub record CallsLog (old new : VolumeSeen) : Type 0 where
  pub only : EachCall old.told new.told (WritesIn Log)
  pub later : old.faults ≤ new.faults
  pub capacities : new.capacities ≡ old.capacities

-- so many calls were made since the count began
abbrev pub IsCount : VolumeSeen → (calls : ℕ) → Type 0
IsCount seen calls = IfTold seen.told (λ t. length t.calls ≡ t.start + calls)

-- no fewer than that
abbrev pub HasCalls : VolumeSeen → (calls : ℕ) → Type 0
HasCalls seen calls = IfTold seen.told (λ t. t.start + calls ≤ length t.calls)

-- whatever a crash leaves spells the log, no less than what is forced
abbrev pub Leaves : VolumeSeen → Listed → Type 0
Leaves seen log = LeavesLog seen.told log.pages log.records log.forced

-- the log read tidy when the count began
abbrev pub WasTidy : (pages : ℕ) → Told → Type 0
WasTidy pages t = IsTidyLog pages (read_at t t.start)

-- where it did, a crash leaves the log
abbrev pub LeavesIfTidy : VolumeSeen → Listed → Type 0
LeavesIfTidy seen log =
    IfTold seen.told (λ t. WasTidy log.pages t
    → EachImage (SpellsFrom log.pages log.records log.forced) t)
