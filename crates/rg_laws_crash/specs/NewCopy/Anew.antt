-- How a table begins anew on a new copy.
--
-- 1. No unit is open then, as after an opening. The pages are the new copy's, and the rows by key
--    are those that the log stores (`anew_on`).
-- 2. The pages have exactly the stored rows, each once, and no dead area with a number that the log
--    has not. Then the log may turn to the copy (`NewCopyCanSwitch`).
-- 3. Whatever lawful records follow the Switch, the whole log stores what is committed then. Its
--    records tell the state, and it owes nothing (`SwitchBegins`).
use Rattle.std.specs.Prelude.{◌≡◌, ◌≢◌, ◌≤◌, ◌++◌, ℕ, List, [], length}
use Rattle.rg_laws_crash.specs.LogChain.Tells.{Tells}
use Rattle.rg_home.specs.Able.{Proper}
use Rattle.rg_home.specs.Pages.{slot_of}
use Rattle.rg_home.specs.Rows.{row_at}
use Rattle.rg_image.specs.Meaning.{current_of, stored}
use Rattle.rg_image.specs.Rules.{ArePositions, HasSpace, IsOpen, copy_capacity, greatest_tran, owed}
use Rattle.rg_laws_log.specs.StoredRows.Keyed.{keyed_acts}
use Rattle.rg_laws_log.specs.LogState.Act.{LogState, state}
use Rattle.rg_laws_log.specs.LogState.Consistent.{IsClean, IsConsistent, stored_of}
use Rattle.rg_home.specs.Owners.{AllBelow}
use Rattle.rg_laws_log.specs.LogState.Lawful.{Runs}
use Rattle.rg_laws_log.specs.LogState.Records.{acts_of}
use Rattle.rg_laws_log.specs.LogState.Stored.{stored_at}
use Rattle.rg_home.specs.Table.{IsTable}
use Rattle.rg_laws_log.specs.LogState.Tested.{opened}
use Rattle.rg_log.specs.Kept.{log_pages}
use Rattle.rg_outside.specs.Capacities.{Capacities}
use Rattle.rg_page.specs.Content.{Content, content_at, slots_of}
use Rattle.rg_record.specs.declared.record.Record.{Record}
use Rattle.rg_laws_crash.specs.SoundVolume.Reopens.{Stands}
use Rattle.rg_laws_crash.specs.SwitchRecord.Switched.{CanSwitch, IsPageOfCopy, next_epoch, switched}
use Rattle.rg_laws_crash.specs.PageVersions.Versions.{Epoch}

-- the state in which a table begins on these pages, by this log and its greatest transaction
abbrev pub anew_on : List Record → List Content → (top : ℕ) → LogState
anew_on rs pages top = opened (slots_of pages) [] (stored_at (keyed_acts rs)) top

-- pages of another copy with the rows that the log stores, and a log without open transactions
pub record IsNewCopy (capacities : Capacities) (rs : List Record) (copy : ℕ)
    (pages : List Content) : Type 0 where
  pub other : copy ≢ (current_of rs).copy
  pub room : length pages ≤ copy_capacity capacities copy
  pub closed : (t : ℕ) → IsOpen t rs → ⊥
  pub positions : ArePositions rs
  pub space : HasSpace (log_pages capacities) (switched rs copy pages)
  pub each :
      (p : ℕ) → 1 ≤ p → p ≤ length pages → IsPageOfCopy copy (length rs) p (content_at pages p)
  pub proper : Proper (slots_of pages)
  pub below : AllBelow (greatest_tran rs) (slot_of (slots_of pages))
  pub rows : IsTable (row_at (slot_of (slots_of pages))) (stored rs)

abbrev pub NewCopyCanSwitch : Type 0
NewCopyCanSwitch =
    (capacities : Capacities) (rs : List Record) (copy : ℕ) (pages : List Content)
    → IsNewCopy capacities rs copy pages
    → CanSwitch capacities (copy_capacity capacities copy) rs copy pages
    (anew_on (switched rs copy pages) pages (greatest_tran rs))

-- a table may begin so: the log tells the state, and stores what it says, now and later
pub record BeginsAnew (limit : ℕ) (e : Epoch) (rs : List Record) (s : LogState) : Type 0 where
  pub good : IsConsistent limit s
  pub clean : IsClean s
  pub tells : Tells rs s
  pub stands : Stands e rs s
  pub owes : owed rs ≡ 0
  pub stores :
      (more : List Record) → Runs limit s (acts_of [] more) → (k : ℕ)
      → stored (rs ++ more) k ≡ stored_of (state s (acts_of [] more)) k

abbrev pub SwitchBegins : Type 0
SwitchBegins =
    (capacities : Capacities) (limit : ℕ) (rs : List Record) (copy : ℕ) (pages : List Content)
    (s : LogState) → CanSwitch capacities limit rs copy pages s
    → BeginsAnew limit (next_epoch rs copy pages) (switched rs copy pages)
    (anew_on (switched rs copy pages) pages s.top)
