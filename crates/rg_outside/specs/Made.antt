-- Which call was made, by what it answered.
-- (1) A call makes the list of calls longer by one call, of a kind that fits the answer.
-- (2) A known volume may stop reporting only at the end of the type that counts its calls, so what
--     was known at the entry of a run of fewer calls is known at its end.
use Rattle.std.specs.Prelude.{ℕ, ◌≡◌, ◌≤◌, ◌<◌, ◌+◌, ◌-◌, ◌^◌, List, ◌∷◌, length, Option, Some}
use Rattle.std.specs.Prelude.{None}
use Rattle.std.specs.Prelude.{Result, Ok, Err}
use Rattle.rg_base.specs.declared.set.Set.{Set}
use Rattle.rg_outside.specs.Calls.{Call, Read, Wrote, Synced, FailedRead, FailedWrite, FailedSync}
use Rattle.rg_outside.specs.Calls.{Refused, Told, faults_of}
use Rattle.rg_outside.specs.declared.source.Failed.{Failed}

-- one call more
abbrev pub then_call : Told → Call → Told
then_call told call = record told { calls = call ∷ told.calls }

-- a volume may stop reporting only with its call 2 ^ 64 - 1, or a later one
abbrev pub MayStop : Option Told → Type 0
MayStop None = Unit {0}
MayStop (Some before) = 2 ^ 64 - 1 ≤ length before.calls + 1

-- this call was made, where the volume still reports
abbrev pub Made : Option Told → Call → Option Told → Type 0
Made old call None = MayStop old
Made old call (Some after) = (before : Told) × (old ≡ Some before) × (after ≡ then_call before call)

abbrev pub IsReadCall : Result (Unit {0}) Failed → Call → Type 0
IsReadCall (Ok x) Read = Unit {0}
IsReadCall (Err e) FailedRead = Unit {0}
IsReadCall (Err e) Refused = Unit {0}
IsReadCall result call = ⊥

abbrev pub IsSyncCall : Result (Unit {0}) Failed → Call → Type 0
IsSyncCall (Ok x) Synced = Unit {0}
IsSyncCall (Err e) FailedSync = Unit {0}
IsSyncCall (Err e) Refused = Unit {0}
IsSyncCall result call = ⊥

-- a write that failed may leave the old content or the new one to a read, and either to a crash
abbrev pub IsWriteCall : Result (Unit {0}) Failed → Set → ℕ → List ℕ → Call → Type 0
IsWriteCall (Ok x) set page bytes (Wrote s p b) = (s ≡ set) × (p ≡ page) × (b ≡ bytes)
IsWriteCall (Err e) set page bytes (FailedWrite s p b reads) = (s ≡ set) × (p ≡ page) × (b ≡ bytes)
IsWriteCall (Err e) set page bytes Refused = Unit {0}
IsWriteCall result set page bytes call = ⊥

-- a call of this kind was made
abbrev pub MadeOne : (Call → Type 0) → Option Told → Option Told → Type 0
MadeOne Kind old new = (call : Call) × Kind call × Made old call new

abbrev pub MadeRead : Result (Unit {0}) Failed → Option Told → Option Told → Type 0
MadeRead result old new = MadeOne (IsReadCall result) old new

abbrev pub MadeWrite :
    Result (Unit {0}) Failed → Option Told → Set → ℕ → List ℕ → Option Told → Type 0
MadeWrite result old set page bytes new = MadeOne (IsWriteCall result set page bytes) old new

abbrev pub MadeSync : Result (Unit {0}) Failed → Option Told → Option Told → Type 0
MadeSync result old new = MadeOne (IsSyncCall result) old new

-- a call that writes no page but this one, and to it only this content
abbrev pub WritesOnly : Set → ℕ → List ℕ → Call → Type 0
WritesOnly set page bytes (Wrote s p b) = (s ≡ set) × (p ≡ page) × (b ≡ bytes)
WritesOnly set page bytes (FailedWrite s p b reads) = (s ≡ set) × (p ≡ page) × (b ≡ bytes)
WritesOnly set page bytes call = Unit {0}

-- a call that writes no page outside this set
abbrev pub WritesIn : Set → Call → Type 0
WritesIn set (Wrote s p b) = s ≡ set
WritesIn set (FailedWrite s p b reads) = s ≡ set
WritesIn set call = Unit {0}

-- the faults of a known volume are its calls that failed, while its calls can be counted
abbrev pub CountsFailed : (faults : ℕ) → Told → Type 0
CountsFailed faults t = length t.calls < 2 ^ 64 - 1 → faults ≡ faults_of t.calls

-- A call failed meanwhile. Over a known volume it shows in the list; the count of faults says
-- nothing more once it stands at its type's end.
abbrev pub FaultShows : Option Told → Option Told → Type 0
FaultShows old None = Unit {0}
FaultShows old (Some after) =
    (before : Told) × (old ≡ Some before) × (faults_of before.calls < faults_of after.calls)
