-- What a run asks of the volume, and what it ends with.
--
-- 1. DEVICE is answered only where a call of the volume failed, and so is a run's end that the
--    device brought about.
-- 2. An opening writes nothing. After it no page is written but those of the log and of the copy
--    that was opened, and after the start of a utility those of both copies.
-- 3. Where the device brought about the end at an opening, a call failed after the last entry.
-- 4. If the volume read tidy when a run began, no opening finds damage but the first one.
-- 5. What is said of a known volume's contents holds while its calls are fewer than 2 ^ 64 - 1, for
--    so many can be counted.
use Rattle.std.specs.Prelude.{◌≡◌, ◌⊎◌, ◌<◌, ◌-◌, ◌^◌, ◌++◌, ℕ, List, [], ◌∷◌, Option, Some, length}
use Rattle.std.specs.List.{AllByRecursion}
use Rattle.rg_base.specs.Copies.{set_of}
use Rattle.rg_base.specs.declared.set.Set.TheVariants.{First, Second}
use Rattle.rg_base.specs.declared.verdict.StopReason.TheVariants as reasons
use Rattle.rg_engine.specs.Flushed.{WritesEither}
use Rattle.rg_engine.specs.OnVolume.{IsTidyVolume}
use Rattle.rg_outside.specs.Volume.{VolumeSeen}
use Rattle.rg_desk.specs.declared.desk.OpenCause.{OpenCause}
use Rattle.rg_desk.specs.declared.desk.OpenCause.TheVariants as causes
use Rattle.rg_log.specs.Open.{IsQuiet}
use Rattle.rg_image.specs.Log.{log_of}
use Rattle.rg_outside.specs.Calls.{Call, Told, read_of}
use Rattle.rg_record.specs.declared.record.Record.{Record}
use Rattle.rg_outside.specs.Faults.{Rose}
use Rattle.rg_outside.specs.Moments.{IfTold}
use Rattle.rg_restart.specs.Sound.{IsDamage}
use Rattle.rg_run.specs.Fit.{FailedSince, calls_of_last}
use Rattle.rg_run.specs.declared.played.RunEnd.{RunEnd}
use Rattle.rg_run.specs.declared.played.RunEnd.TheVariants.{Whole, Down, Damaged, DeviceAtOpening}
use Rattle.rg_run.specs.declared.played.RunEnd.TheVariants.{NoMemory}
use Rattle.rg_stmt.specs.declared.event.Entry.{Entry}
use Rattle.rg_stmt.specs.declared.event.Event.{Event}
use Rattle.rg_stmt.specs.declared.event.Event.TheVariants.{FlushDevice, Opened, Said, Started, Stop}
use Rattle.rg_stmt.specs.declared.stmt.Reply.TheVariants.{Device}

-- the event is no DEVICE, or this holds
abbrev pub IsDeviceIf : Type 0 → Event → Type 0
IsDeviceIf P (Said stmt Device) = P
IsDeviceIf P FlushDevice = P
IsDeviceIf P (Stop reasons.Device) = P
IsDeviceIf P event = Unit {0}

-- DEVICE is answered only if this holds
abbrev pub IsDeviceOnlyIf : Type 0 → List Entry → Type 0
IsDeviceOnlyIf P [] = Unit {0}
IsDeviceOnlyIf P (entry ∷ entries) = IsDeviceIf P entry.event × IsDeviceOnlyIf P entries

-- this holds of what is reported, while its calls can be counted
abbrev pub IfCounted : Option Told → (Told → Type 0) → Type 0
IfCounted told P = IfTold told (λ t. length t.calls < 2 ^ 64 - 1 → P t)

-- this holds of what was known when a run began, and of what is known now
abbrev pub IfBoth : (old new : Option Told) → (Told → Told → Type 0) → Type 0
IfBoth old new P = IfCounted new (λ t. (before : Told) → old ≡ Some before → P before t)

-- the log as it read then
abbrev pub log_at : (pages : ℕ) → Told → List Record
log_at pages before = log_of pages (read_of before.first before.calls)

-- calls of a kind were made since
pub record MadeSince (Kind : Call → Type 0) (old : Option Told) (now : Told) : Type 0 where
  pub before : Told
  pub was : old ≡ Some before
  pub fresh : List Call
  pub first : now.first ≡ before.first
  pub calls : now.calls ≡ fresh ++ before.calls
  pub each : AllByRecursion Kind fresh

-- only calls of a kind were made
abbrev pub MakesOnly : (Call → Type 0) → (old new : Option Told) → Type 0
MakesOnly Kind old new = IfCounted new (MadeSince Kind old)

-- what may be written after this event: the log and the copy that was opened, where it is the event
-- of an opening, or both copies, where a utility started
abbrev pub WritesOf : Event → Call → Type 0
WritesOf (Opened copy rows pages used) call = WritesEither (set_of copy) call
WritesOf (Started options copy pages) call =
    WritesEither First call ⊎ WritesEither Second call
WritesOf event call = IsQuiet call

-- what the calls of a run may write, by its trace: the log, and each copy that was opened, or both
abbrev pub WritesOwn : List Entry → Call → Type 0
WritesOwn [] call = IsQuiet call
WritesOwn (entry ∷ entries) call = WritesOf entry.event call ⊎ WritesOwn entries call

-- the end of a run whose opening was refused
abbrev pub end_of : OpenCause → RunEnd
end_of (causes.Damaged set page) = Damaged set page
end_of causes.Device = DeviceAtOpening
end_of causes.NoMemory = NoMemory

-- where there is an entry, the volume did not read tidy when the run began
abbrev pub WasUntidy : (old new : VolumeSeen) → List Entry → Type 0
WasUntidy old new [] = Unit {0}
WasUntidy old new (entry ∷ entries) =
    IfBoth old.told new.told (λ before t.
    IsTidyVolume old.capacities (read_of before.first before.calls) → ⊥)

-- a call has failed that was made after the last entry
abbrev pub FailsAfter : (old new : VolumeSeen) → List Entry → Type 0
FailsAfter old new trace =
    IfBoth old.told new.told
    (λ before t. FailedSince (length before.calls) (calls_of_last 0 trace) t)

-- Why a run with this trace ended so: a page breaks a rule of a sound volume, or a call of the
-- volume failed.
abbrev pub IsEnd : (old new : VolumeSeen) → List Entry → RunEnd → Type 0
IsEnd old new trace (Whole rows) = Unit {0}
IsEnd old new trace Down = Rose old.faults new.faults
IsEnd old new trace (Damaged set page) =
    IfCounted new.told (λ t. IsDamage new.capacities (read_of t.first t.calls) set page)
    × MakesOnly (WritesOwn trace) old.told new.told × (new.capacities ≡ old.capacities)
    × WasUntidy old new trace
IsEnd old new trace DeviceAtOpening = Rose old.faults new.faults × FailsAfter old new trace
IsEnd old new trace NoMemory = Unit {0}
