-- What a log keeps.
use Rattle.std.specs.Prelude.{◌≡◌, ◌≤◌, ◌<◌, ◌+◌, ◌-◌, ◌*◌, ℕ, List, length, drop, Option}
use Rattle.rg_log.specs.declared.fault.ReserveFault.{ReserveFault}
use Rattle.rg_log.specs.declared.fault.ReserveFault.TheVariants.{LogFull, NoMemory}
use Rattle.rg_outside.specs.Calls.{Told}
use Rattle.rg_outside.specs.Capacities.{Capacities}
use Rattle.rg_outside.specs.Moments.{EachImage, IfTold}
use Rattle.rg_record.specs.declared.record.Record.{Record}
use Rattle.rg_image.specs.Kept.{IsPageStart, AreEntries}
use Rattle.rg_image.specs.Log.{SpellsFrom}
use Rattle.rg_image.specs.Pack.{start, end_of, fitting, log_bytes}
use Rattle.rg_image.specs.Rules.{used_pages, limit_of}

-- A log: its records, how many of them are on the volume for good, the bytes that are reserved, and
-- the pages of its set.
pub record Listed : Type 0 where
  pub records : List Record
  pub forced : ℕ
  pub reserved : ℕ
  pub pages : ℕ

-- how many pages set Log has in use
abbrev pub log_pages : Capacities → ℕ
log_pages capacities = used_pages capacities.log

-- Where forcing goes on: the page that record `from` begins is the first that is not on the volume
-- in its last form, as far as it has one.
pub record IsForced (rs : List Record) (forced from page : ℕ) : Type 0 where
  pub is_start : IsPageStart rs from page
  pub low : from ≤ forced
  pub high : forced ≤ from + fitting 0 (drop from rs)
  pub within : forced ≤ length rs
  pub entries : AreEntries rs

-- The room of a log. Its pages are within the set; what is reserved is within the limit; and there
-- is memory for as many records as may take what is reserved.
pub record HasRoom (rs : List Record) (bytes reserved set_pages capacity : ℕ) : Type 0 where
  pub pages : set_pages ≤ 65536
  pub set : 1 ≤ length rs → (end_of start rs).page ≤ set_pages
  pub used : bytes ≡ log_bytes rs
  pub low : bytes ≤ 4072 * 65536
  pub limit : 1 ≤ reserved → log_bytes rs + reserved ≤ limit_of set_pages
  pub memory : reserved + 23 * length rs ≤ 23 * capacity + 22

-- what a crash may leave spells the log, no less than that
abbrev pub LeavesLog : Option Told → ℕ → List Record → ℕ → Type 0
LeavesLog told capacity rs low = IfTold told (EachImage (SpellsFrom capacity rs low))

-- How many bytes may still be reserved.
abbrev pub left_of : Listed → ℕ
left_of log = limit_of log.pages - (log_bytes log.records + log.reserved)

-- why nothing was reserved: more was asked for than is left, or memory ran out
abbrev pub ReserveFaultIs : Listed → ℕ → ReserveFault → Type 0
ReserveFaultIs log bytes (LogFull need left) =
    (need ≡ bytes) × (left ≡ left_of log) × (left_of log < bytes)
ReserveFaultIs log bytes NoMemory = Unit {0}
