-- The calls that a volume in memory keeps, as it tells them.
use Rattle.std.specs.Prelude.{ℕ, ◌+◌, ◌-◌, ◌%◌, Bool, true, false, List, [], Option, Some, None}
use Rattle.std.specs.Prelude.{count_by, length, slice_index_or, map, replicate, reverse}
use Rattle.rg_base.specs.declared.set.Set.{Set}
use Rattle.rg_base.specs.declared.set.Set.TheVariants.{Log, First, Second}
use Rattle.rg_outside.specs.Capacities.{Capacities}
use Rattle.rg_outside.specs.Calls.{Image, Call, Read, Wrote, Synced, FailedRead, FailedWrite}
use Rattle.rg_outside.specs.Calls.{FailedSync}
use Rattle.rg_mem.specs.declared.noted.Noted.{Noted}
use Rattle.rg_mem.specs.declared.volume.Failing.{Failing}
use Rattle.rg_mem.specs.declared.noted.Noted.TheVariants as noted

-- one call, with the bytes of all writes
abbrev pub call_of : List (List ℕ) → Noted → Call
call_of writes noted.Read = Read
call_of writes (noted.Wrote set page at) = Wrote set page (slice_index_or writes at [])
call_of writes noted.Synced = Synced
call_of writes noted.FailedRead = FailedRead
call_of writes (noted.FailedWrite set page at reads) =
    FailedWrite set page (slice_index_or writes at []) reads
call_of writes noted.FailedSync = FailedSync

-- the calls, the newest first
abbrev pub calls_of : List (List ℕ) → List Noted → List Call
calls_of writes calls = reverse (map (call_of writes) calls)

-- whether it failed
abbrev pub is_failed_note : Noted → Bool
is_failed_note noted.Read = false
is_failed_note (noted.Wrote set page at) = false
is_failed_note noted.Synced = false
is_failed_note noted.FailedRead = true
is_failed_note (noted.FailedWrite set page at reads) = true
is_failed_note noted.FailedSync = true

-- how many failed
abbrev pub failed_in : List Noted → ℕ
failed_in calls = count_by is_failed_note calls

-- how many writes have to be there for this call
abbrev pub writes_needed : Noted → ℕ
writes_needed noted.Read = 0
writes_needed (noted.Wrote set page at) = at + 1
writes_needed noted.Synced = 0
writes_needed noted.FailedRead = 0
writes_needed (noted.FailedWrite set page at reads) = at + 1
writes_needed noted.FailedSync = 0

-- the pages of the three sets, numbered from 1
abbrev pub image_of : List (List ℕ) → List (List ℕ) → List (List ℕ) → Image
image_of log first second Log page = slice_index_or log (page - 1) []
image_of log first second First page = slice_index_or first (page - 1) []
image_of log first second Second page = slice_index_or second (page - 1) []

-- the content with this number, counted round
abbrev pub content_at : List (List ℕ) → ℕ → List ℕ
content_at contents n = slice_index_or contents (n % length contents) []

-- the pick with this number, or 0 past the picks
abbrev pub pick_at : List ℕ → ℕ → ℕ
pick_at picks n = slice_index_or picks n 0

-- where a page stands among those of all sets, in the order Log, First, Second
abbrev pub page_index : Capacities → Set → ℕ → ℕ
page_index c Log page = page - 1
page_index c First page = c.log + (page - 1)
page_index c Second page = (c.log + c.first) + (page - 1)

-- a write, and whether it is to fail
abbrev pub write_call : Set → ℕ → List ℕ → Option Failing → Call
write_call set page bytes None = Wrote set page bytes
write_call set page bytes (Some failing) = FailedWrite set page bytes failing.written

-- how it is kept
abbrev pub noted_write : Set → ℕ → ℕ → Option Failing → Noted
noted_write set page at None = noted.Wrote set page at
noted_write set page at (Some failing) = noted.FailedWrite set page at failing.written

-- 4,096 zeros
abbrev pub zero_page : List ℕ
zero_page = replicate 4096 0
