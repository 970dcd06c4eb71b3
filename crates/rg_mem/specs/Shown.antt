-- What a volume in memory reports, and when its calls fail.
-- (1) It reports its contents when it was made and all its calls, refused ones too.
-- (2) A call fails if it is one of those that were to fail, or past the stop, or past the room.
-- (3) A call past the room is refused whole, and so is every call after it.
use Rattle.std.specs.Prelude.{ℕ, ◌+◌, ◌==◌, ◌&&◌, ◌||◌, not, is_some, find, vec_len, vec_capacity}
use Rattle.std.specs.Prelude.{◌≡◌, ◌-◌, ◌^◌, nat_lt, Bool, true, false, List, [], ◌++◌, replicate}
use Rattle.std.specs.Prelude.{length, refl, Option, Some, None, if◌then◌else◌}
use Rattle.rg_base.specs.declared.set.Set.{Set}
use Rattle.rg_outside.specs.Calls.{Image, Call, Read, Synced, FailedRead, FailedSync, Told, Refused}
use Rattle.rg_outside.specs.Calls.{left_of}
use Rattle.rg_outside.specs.Moments.{IfTold, SamePages}
use Rattle.rg_outside.specs.Capacities.{Capacities}
use Rattle.rg_outside.specs.Volume.{VolumeSeen}
use Rattle.rg_mem.specs.Listed.{calls_of, image_of, write_call}
use Rattle.rg_mem.specs.declared.volume.Failing.{Failing}
use Rattle.rg_mem.specs.declared.volume.MemVolume.{MemVolume}

abbrev pub capacities_of : MemVolume → Capacities
capacities_of m = record {
  log = length m.log.items;
  first = length m.first.items;
  second = length m.second.items;
}

-- its contents when it was made, and its calls: those past the room were refused whole
abbrev pub shown : MemVolume → Told
shown m = record {
  capacities = capacities_of m;
  first = image_of m.log.items m.first.items m.second.items;
  start = 0;
  calls = replicate m.past Refused ++ calls_of m.writes.items m.calls.items;
}

-- the contents that a crash may leave of a page, the oldest first
abbrev pub contents_left : MemVolume → Set → ℕ → List (List ℕ)
contents_left m set page = left_of (shown m).first (shown m).calls set page

-- it reports no more once the counter of calls past the room stands at its end
abbrev pub told_of : MemVolume → Option Told
told_of m = if nat_lt m.past (2 ^ 64 - 1) then Some (shown m) else None

-- what it reports
abbrev pub seen_of : MemVolume → VolumeSeen
seen_of m = record { told = told_of m; faults = m.faults; capacities = capacities_of m }

own :
    (t : Bool) (m : MemVolume)
    → IfTold (if t then Some (shown m) else None) (λ told. told.capacities ≡ capacities_of m)
own true m = refl
own false m = tt

pub own_capacities :
    (m : MemVolume) → IfTold (told_of m) (λ told. told.capacities ≡ capacities_of m)
own_capacities m = own (nat_lt m.past (2 ^ 64 - 1)) m

-- it has no call yet, and is known
pub record IsFresh (m : MemVolume) : Type 0 where
  pub told : told_of m ≡ Some (shown m)
  pub calls : (shown m).calls ≡ []
  pub faults : m.faults ≡ 0

-- these were the contents of its pages when it was made
abbrev pub HoldsPages : MemVolume → Image → Type 0
HoldsPages m image = SamePages (capacities_of m) (shown m).first image

abbrev pub is_past : Option ℕ → ℕ → Bool
is_past None number = false
is_past (Some last) number = nat_lt last number

-- How the next call is to fail, if it is. Past the stop each fails, and leaves the old content to a
-- read.
abbrev pub fault_of : MemVolume → Option Failing
fault_of m =
    let number = length m.calls.items + 1 in
    if is_past m.stop number
    then Some (record { call = number; written = false })
    else find (λ f. f.call == number) m.failing.items

abbrev pub has_room : MemVolume → Bool
has_room m = m.past == 0 && nat_lt (vec_len m.calls) (vec_capacity m.calls)

-- the next read or sync fails: it is past the room, or it is to fail
abbrev pub fails : MemVolume → Bool
fails m = not (has_room m) || is_some (fault_of m)

-- the next write fails: likewise, or its bytes are past the room
abbrev pub write_fails : MemVolume → Bool
write_fails m =
    not (has_room m && nat_lt (vec_len m.writes) (vec_capacity m.writes)) || is_some (fault_of m)

-- what the next read, sync or write is told as
abbrev pub next_read : MemVolume → Call
next_read m = if has_room m then (if is_some (fault_of m) then FailedRead else Read) else Refused

abbrev pub next_sync : MemVolume → Call
next_sync m = if has_room m then (if is_some (fault_of m) then FailedSync else Synced) else Refused

abbrev pub next_write : MemVolume → Set → ℕ → List ℕ → Call
next_write m set page bytes =
    if has_room m && nat_lt (vec_len m.writes) (vec_capacity m.writes)
    then write_call set page bytes (fault_of m)
    else Refused

-- It has room for so many calls and writes, and these calls are to fail: those numbers, and each
-- past the stop.
pub record Keeps (calls writes : ℕ) (failing : List Failing) (stop : Option ℕ) (m : MemVolume) :
    Type 0 where
  pub call_room : vec_capacity m.calls ≡ calls
  pub write_room : vec_capacity m.writes ≡ writes
  pub to_fail : m.failing.items ≡ failing
  pub stops_after : m.stop ≡ stop

-- the same as another
abbrev pub KeepsAs : MemVolume → MemVolume → Type 0
KeepsAs before m =
    Keeps (vec_capacity before.calls) (vec_capacity before.writes) before.failing.items before.stop
    m
