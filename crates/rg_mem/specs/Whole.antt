-- The pages of a volume in memory have 4,096 bytes, whatever a crash leaves of them.
use Rattle.std.proofs.Common.{◌≡◌, ◌≤◌, ◌<◌, ◌+◌, ◌-◌, ◌^◌, nat_lt, ℕ, zero, suc, Bool, true, false}
use Rattle.std.proofs.Common.{List, [], ◌∷◌, ◌++◌, length, map, reverse, replicate, slice_index_or}
use Rattle.std.proofs.Common.{Option, Some, None, refl, sym, subst, arith, if◌then◌else◌}
use Rattle.std.proofs.lemmas.List.{reverse-append}
use Rattle.std.proofs.lemmas.List.Elements.{recursion_from_All}
use Rattle.std.specs.List.{All, AllByRecursion}
use Rattle.rg_base.specs.declared.set.Set.{Set}
use Rattle.rg_base.specs.declared.set.Set.TheVariants.{Log, First, Second}
use Rattle.rg_outside.specs.Calls.{Call, Read, Wrote, Synced, FailedRead, FailedWrite, FailedSync}
use Rattle.rg_outside.specs.Calls.{Refused, Told, effect_of}
use Rattle.rg_outside.specs.Capacities.{IsPage}
use Rattle.rg_outside.specs.Made.{then_call}
use Rattle.rg_outside.specs.Moments.{IfTold, CrashLeaves, HasWholePages}
use Rattle.rg_outside.proofs.Images.{Brings, one_only, leaves_call}
use Rattle.rg_mem.specs.Listed.{call_of, calls_of, image_of, writes_needed}
use Rattle.rg_mem.specs.Shown.{capacities_of, shown, told_of}
use Rattle.rg_mem.specs.declared.noted.Noted.{Noted}
use Rattle.rg_mem.specs.declared.noted.Noted.TheVariants as noted
use Rattle.rg_mem.specs.declared.volume.MemVolume.{MemVolume}

abbrev IsWhole : List ℕ → Type 0
IsWhole bytes = length bytes ≡ 4096

-- the call writes a whole page, if any
abbrev WritesWhole : Call → Type 0
WritesWhole (Wrote set page bytes) = IsWhole bytes
WritesWhole (FailedWrite set page bytes reads) = IsWhole bytes
WritesWhole call = Unit {0}

brings_whole :
    (s : Set) (p : ℕ) (call : Call) → WritesWhole call → Brings s p IsWhole (effect_of call)
brings_whole s p Read is = tt
brings_whole s p (Wrote set page bytes) is = λ same. is
brings_whole s p Synced is = tt
brings_whole s p FailedRead is = tt
brings_whole s p (FailedWrite set page bytes reads) is = λ same. is
brings_whole s p FailedSync is = tt
brings_whole s p Refused is = tt

left_whole :
    (t : Told) (calls : List Call) (s : Set) (p : ℕ) → IsWhole (t.first s p)
    → AllByRecursion WritesWhole calls
    → CrashLeaves s p IsWhole (record t { calls = calls })
left_whole t [] s p first all =
    λ bytes here. subst IsWhole (sym (one_only (t.first s p) bytes here)) first
left_whole t (call ∷ calls) s p first all =
    let before : Told = record t { calls = calls } in
    leaves_call s p IsWhole before call (left_whole t calls s p first all.1)
    (brings_whole s p call all.0)

all_append :
    (xs ys : List Call) → AllByRecursion WritesWhole xs → AllByRecursion WritesWhole ys
    → AllByRecursion WritesWhole (xs ++ ys)
all_append [] ys all more = more
all_append (x ∷ xs) ys all more = (all.0, all_append xs ys all.1 more)

all_reverse :
    (xs : List Call) → AllByRecursion WritesWhole xs → AllByRecursion WritesWhole (reverse xs)
all_reverse [] all = tt
all_reverse (x ∷ xs) all =
    subst (AllByRecursion WritesWhole) (sym (reverse-append (x ∷ []) xs))
    (all_append (reverse xs) (x ∷ []) (all_reverse xs all.1) (all.0, tt))

call_whole :
    (writes : List (List ℕ)) (call : Noted) → All IsWhole writes
    → writes_needed call ≤ length writes → WritesWhole (call_of writes call)
call_whole writes noted.Read whole le = tt
call_whole writes (noted.Wrote set page at) whole le = whole at [] (omega arith)
call_whole writes noted.Synced whole le = tt
call_whole writes noted.FailedRead whole le = tt
call_whole writes (noted.FailedWrite set page at reads) whole le = whole at [] (omega arith)
call_whole writes noted.FailedSync whole le = tt

each_whole :
    (writes : List (List ℕ)) (calls : List Noted) → All IsWhole writes
    → AllByRecursion (λ call. writes_needed call ≤ length writes) calls
    → AllByRecursion WritesWhole (map (call_of writes) calls)
each_whole writes [] whole there = tt
each_whole writes (call ∷ calls) whole there =
    (call_whole writes call whole there.0, each_whole writes calls whole there.1)

refused_whole :
    (n : ℕ) (calls : List Call) → AllByRecursion WritesWhole calls
    → AllByRecursion WritesWhole (replicate n Refused ++ calls)
refused_whole zero calls all = all
refused_whole (suc n) calls all = (tt, refused_whole n calls all)

first_whole :
    (m : MemVolume) (s : Set) (p : ℕ) → IsPage (capacities_of m) s p
    → IsWhole (image_of m.log.items m.first.items m.second.items s p)
first_whole m Log p in_set = m.whole_log (p - 1) [] (omega arith)
first_whole m First p in_set = m.whole_first (p - 1) [] (omega arith)
first_whole m Second p in_set = m.whole_second (p - 1) [] (omega arith)

shown_whole : (m : MemVolume) → HasWholePages (shown m)
shown_whole m s p in_set =
    let calls = map (call_of m.writes.items) m.calls.items in
    left_whole (shown m) (shown m).calls s p (first_whole m s p in_set)
    (refused_whole m.past (calls_of m.writes.items m.calls.items)
    (all_reverse calls
    (each_whole m.writes.items m.calls.items m.whole_writes
    (recursion_from_All (λ call. writes_needed call ≤ length m.writes.items)
    m.calls.items m.there))))

known_whole : (b : Bool) (m : MemVolume) → IfTold (if b then Some (shown m) else None) HasWholePages
known_whole true m = shown_whole m
known_whole false m = tt

pub own_pages : (m : MemVolume) → IfTold (told_of m) HasWholePages
own_pages m = known_whole (nat_lt m.past (2 ^ 64 - 1)) m
