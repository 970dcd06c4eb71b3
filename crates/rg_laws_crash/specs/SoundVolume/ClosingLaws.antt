-- What holds of a log whose open units are closed.
--
-- 1. A log that can be opened can be opened again after each record that closes an open unit
--    (`ClosingsReopen`). So a crash in the middle of an opening does no harm.
-- 2. Once all are closed no transaction is open and nothing is owed. No transaction is new, and the
--    copy and its pages are the same ones (`ClosingsTell`).
use Rattle.std.specs.Prelude.{◌≡◌, ◌≤◌, ℕ, List, length, take}
use Rattle.rg_home.specs.Able.{Proper}
use Rattle.rg_home.specs.Slot.{Slot}
use Rattle.rg_image.specs.Kept.{AreEntries}
use Rattle.rg_image.specs.Rules.{IsOpen, copy_capacity, greatest_tran, owed}
use Rattle.rg_outside.specs.Capacities.{Capacities}
use Rattle.rg_page.specs.Content.{slots_of}
use Rattle.rg_record.specs.declared.record.Record.{Record}
use Rattle.rg_laws_crash.specs.PageVersions.Versions.{Epoch}
use Rattle.rg_laws_crash.specs.SoundVolume.Closing.{closed_log}
use Rattle.rg_laws_crash.specs.SoundVolume.Pages.{copy_of, count_of}
use Rattle.rg_laws_crash.specs.SoundVolume.Reopens.{CanReopen}

-- a log that can be opened, to proper pages, and the records that close its open units are spelled
pub record MayClose (capacities : Capacities) (e : Epoch) (rs : List Record)
    (pages : List (List Slot)) : Type 0 where
  pub can : CanReopen capacities e rs
  pub pages_are : pages ≡ slots_of can.seen.pages
  pub proper : Proper pages
  pub entries : AreEntries (closed_log rs pages)
  pub within : count_of rs ≤ copy_capacity capacities (copy_of rs)

abbrev pub ClosingsReopen : Type 0
ClosingsReopen =
    (capacities : Capacities) (e : Epoch) (rs : List Record) (pages : List (List Slot))
    → MayClose capacities e rs pages → (n : ℕ) → length rs ≤ n
    → n ≤ length (closed_log rs pages) → CanReopen capacities e (take n (closed_log rs pages))

-- all units of the log are closed
pub record IsClosedLog (rs closed : List Record) : Type 0 where
  pub top : greatest_tran closed ≡ greatest_tran rs
  pub none : (t : ℕ) → IsOpen t closed → ⊥
  pub count : count_of closed ≡ count_of rs
  pub copy : copy_of closed ≡ copy_of rs
  pub owes : owed closed ≡ 0

abbrev pub ClosingsTell : Type 0
ClosingsTell =
    (capacities : Capacities) (e : Epoch) (rs : List Record) (pages : List (List Slot))
    → MayClose capacities e rs pages → IsClosedLog rs (closed_log rs pages)
