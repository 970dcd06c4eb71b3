-- Opening a log.
use Rattle.std.specs.Prelude.{◌≡◌, ℕ, List, Option}
use Rattle.rg_base.specs.declared.set.Set.{Set}
use Rattle.rg_outside.specs.Calls.{Told, read_of, Call, Read, Wrote, Synced, FailedRead}
use Rattle.rg_outside.specs.Calls.{FailedWrite, FailedSync, Refused}
use Rattle.rg_outside.specs.Faults.{Rose}
use Rattle.rg_outside.specs.Moments.{CrashLeaves, IfTold}
use Rattle.rg_record.specs.declared.record.Record.{Record}
use Rattle.rg_image.specs.Rules.{IsNextPage, IsZero, BreaksLogPages, IsTidyLog}
use Rattle.rg_log.specs.declared.fault.LogFault.{LogFault}
use Rattle.rg_log.specs.declared.fault.LogFault.TheVariants.{Damaged, Device, NoMemory}
use Rattle.rg_log.specs.declared.open.Next.{Next}
use Rattle.rg_log.specs.declared.open.Next.TheVariants.{End, Broken, Page}

-- what a page is, after those with these records
abbrev pub IsNext : ℕ → List Record → List ℕ → Next → Type 0
IsNext page rs bytes End = IsZero bytes
IsNext page rs bytes Broken =
    (IsZero bytes → ⊥) × ((more : List Record) → IsNextPage page rs more bytes → ⊥)
IsNext page rs bytes (Page more) = IsNextPage page rs more.items bytes

-- a call that writes nothing
abbrev pub IsQuiet : Call → Type 0
IsQuiet Read = Unit {0}
IsQuiet (Wrote set page bytes) = ⊥
IsQuiet Synced = Unit {0}
IsQuiet FailedRead = Unit {0}
IsQuiet (FailedWrite set page bytes reads) = ⊥
IsQuiet FailedSync = Unit {0}
IsQuiet Refused = Unit {0}

-- a crash leaves of each page what reads
abbrev pub IsCertain : Told → Type 0
IsCertain t =
    (s : Set) (p : ℕ) → CrashLeaves s p (λ bytes. bytes ≡ read_of t.first t.calls s p) t

-- after the first log page that reads as zeros all do
abbrev pub ReadsTidy : Option Told → ℕ → Type 0
ReadsTidy told pages = IfTold told (λ t. IsTidyLog pages (read_of t.first t.calls))

-- Why a log was not opened: this page breaks the rule for log pages, a call of the volume failed,
-- or memory ran out.
abbrev pub IsLogFault : Option Told → ℕ → ℕ → ℕ → LogFault → Type 0
IsLogFault told pages before now (Damaged page) =
    IfTold told (λ t. BreaksLogPages pages (read_of t.first t.calls) page)
IsLogFault told pages before now Device = Rose before now
IsLogFault told pages before now NoMemory = Unit {0}
