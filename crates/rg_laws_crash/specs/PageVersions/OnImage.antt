-- The pages of a copy on a volume, whatever a crash leaves of it.
--
-- 1. The copy has its pages in one set, and the log in another.
-- 2. Each page that a crash may leave is one that may stand there (`IsOnVolume`), after each call,
--    also after calls that failed.
use Rattle.std.specs.Prelude.{◌≤◌, ℕ, List}
use Rattle.rg_base.specs.declared.set.Set.{Set}
use Rattle.rg_outside.specs.Calls.{Image}
use Rattle.rg_record.specs.declared.record.Record.{Record}
use Rattle.rg_laws_crash.specs.PageVersions.Versions.{Epoch, IsOnVolume}

-- each of the first pages of this set may stand there, where the log is forced so far
abbrev pub HasPages :
    (set : Set) → (capacity : ℕ) → Epoch → List Record → (forced : ℕ) → Image → Type 0
HasPages set capacity e rs forced i =
    (p : ℕ) → 1 ≤ p → p ≤ capacity → IsOnVolume e rs forced p (i set p)
