-- The faults of a volume in memory are its calls that failed.
use Rattle.std.proofs.Common.{◌≡◌, ◌<◌, ◌≤◌, ◌+◌, ◌-◌, ◌^◌, nat_lt, ℕ, zero, suc, Bool, true, false}
use Rattle.std.proofs.Common.{List, [], ◌∷◌, ◌++◌, length, map, min, reverse, replicate, Some, None}
use Rattle.std.proofs.Common.{refl, sym, ◌∙◌, ap, arith, if◌then◌else◌, length-append}
use Rattle.std.proofs.lemmas.List.{reverse-append}
use Rattle.std.proofs.lemmas.List.Sums.{count_by-le-length, sum_by-append}
use Rattle.std.specs.Prelude.{count_by}
use Rattle.rg_outside.specs.Calls.{Call, Refused, faults_of, is_failed}
use Rattle.rg_outside.specs.Made.{CountsFailed}
use Rattle.rg_outside.specs.Moments.{IfTold}
use Rattle.rg_mem.specs.Listed.{call_of, calls_of, failed_in, is_failed_note}
use Rattle.rg_mem.specs.Shown.{shown, told_of}
use Rattle.rg_mem.specs.declared.noted.Noted.{Noted}
use Rattle.rg_mem.specs.declared.noted.Noted.TheVariants as noted
use Rattle.rg_mem.specs.declared.volume.MemVolume.{MemVolume}

-- one element more
no_zero : (c n : ℕ) → (0 + c) + n ≡ c + n
no_zero c n = omega arith

count-first :
    {X : Type 0} (p : X → Bool) (x : X) (xs : List X)
    → count_by p (x ∷ xs) ≡ (if p x then 1 else 0) + count_by p xs
count-first p x xs =
    sum_by-append (λ y. if p y then 1 else 0) (x ∷ []) xs
    ∙ no_zero (if p x then 1 else 0) (count_by p xs)

swapped : (a b n : ℕ) → n ≡ b + a → a + (0 + b) ≡ n
swapped a b n e = omega (arith, e)

faults-reverse : (xs : List Call) → faults_of (reverse xs) ≡ faults_of xs
faults-reverse [] = refl
faults-reverse (x ∷ xs) =
    ap faults_of (reverse-append (x ∷ []) xs)
    ∙ sum_by-append (λ call. if is_failed call then 1 else 0) (reverse xs) (x ∷ [])
    ∙ ap (λ (n : ℕ). n + (0 + (if is_failed x then 1 else 0))) (faults-reverse xs)
    ∙ swapped (faults_of xs) (if is_failed x then 1 else 0) (faults_of (x ∷ xs))
    (count-first is_failed x xs)

note_failed :
    (writes : List (List ℕ)) (call : Noted)
    → is_failed (call_of writes call) ≡ is_failed_note call
note_failed writes noted.Read = refl
note_failed writes (noted.Wrote set page at) = refl
note_failed writes noted.Synced = refl
note_failed writes noted.FailedRead = refl
note_failed writes (noted.FailedWrite set page at reads) = refl
note_failed writes noted.FailedSync = refl

notes_failed :
    (writes : List (List ℕ)) (calls : List Noted)
    → faults_of (map (call_of writes) calls) ≡ failed_in calls
notes_failed writes [] = refl
notes_failed writes (call ∷ calls) =
    count-first is_failed (call_of writes call) (map (call_of writes) calls)
    ∙ ap (λ (b : Bool). (if b then 1 else 0) + faults_of (map (call_of writes) calls))
    (note_failed writes call)
    ∙ ap (λ (n : ℕ). (if is_failed_note call then 1 else 0) + n) (notes_failed writes calls)
    ∙ sym (count-first is_failed_note call calls)

one_more : (all m n k : ℕ) → all ≡ 1 + m → m ≡ n + k → all ≡ suc n + k
one_more all m n k first e = omega (arith, first, e)

refused_failed :
    (n : ℕ) (calls : List Call) → faults_of (replicate n Refused ++ calls) ≡ n + faults_of calls
refused_failed zero calls = omega arith
refused_failed (suc n) calls =
    one_more (faults_of (replicate (suc n) Refused ++ calls))
    (faults_of (replicate n Refused ++ calls)) n (faults_of calls)
    (count-first is_failed Refused (replicate n Refused ++ calls)) (refused_failed n calls)

shown_failed : (m : MemVolume) → CountsFailed m.faults (shown m)
shown_failed m few =
    let notes = notes_failed m.writes.items m.calls.items in
    let all : faults_of (shown m).calls ≡ m.past + failed_in m.calls.items =
    refused_failed m.past (calls_of m.writes.items m.calls.items)
    ∙ ap (λ (n : ℕ). m.past + n)
    (faults-reverse (map (call_of m.writes.items) m.calls.items) ∙ notes) in
    let low = count_by-le-length is_failed (shown m).calls in
    omega (arith, m.failed, all, low, few)

known_failed :
    (b : Bool) (m : MemVolume)
    → IfTold (if b then Some (shown m) else None) (CountsFailed m.faults)
known_failed true m = shown_failed m
known_failed false m = tt

pub own_faults : (m : MemVolume) → IfTold (told_of m) (CountsFailed m.faults)
own_faults m = known_failed (nat_lt m.past (2 ^ 64 - 1)) m
