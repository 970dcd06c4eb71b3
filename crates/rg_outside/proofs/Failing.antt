-- Which failures show in the list of calls, and what a sync leaves of what reads.
use Rattle.std.proofs.Common.{◌≡◌, ◌≤◌, ◌<◌, ◌+◌, ℕ, Bool, true, false, cond, if◌then◌else◌, List}
use Rattle.std.proofs.Common.{[], ◌∷◌, ◌++◌, Option, Some, None, Result, Ok, Err, OnErr, refl, ◌∙◌}
use Rattle.std.proofs.Common.{subst, ap, arith}
use Rattle.std.proofs.lemmas.List.Sums.{sum_by-cons}
use Rattle.rg_base.specs.declared.set.Set.{Set}
use Rattle.rg_outside.specs.Calls.{Image, Call, Read, Synced, FailedRead, FailedWrite, FailedSync}
use Rattle.rg_outside.specs.Calls.{Refused, Told, is_failed, read_of, faults_of}
use Rattle.rg_outside.specs.Made.{then_call, MadeOne, MadeRead, MadeWrite, MadeSync, IsReadCall}
use Rattle.rg_outside.specs.Made.{IsWriteCall, IsSyncCall, FaultShows}
use Rattle.rg_outside.specs.Moments.{IfTold, EachCall}
use Rattle.rg_outside.specs.declared.source.Failed.{Failed}
use Rattle.rg_outside.proofs.Brings.{told_after}

one_more : (b : Bool) (n : ℕ) → cond b 1 0 + n ≡ (if b then n + 1 else n)
one_more true n = omega arith
one_more false n = omega arith

-- a call that failed is one fault more
count_more : (call : Call) (calls : List Call)
    → faults_of (call ∷ calls) ≡ (if is_failed call then faults_of calls + 1 else faults_of calls)
count_more call calls = sum_by-cons (λ c. cond (is_failed c) 1 0) call calls
    ∙ one_more (is_failed call) (faults_of calls)

more_or_same : (b : Bool) (n : ℕ) → n ≤ (if b then n + 1 else n)
more_or_same true n = omega arith
more_or_same false n = omega arith

faults-more : (call : Call) (calls : List Call) → faults_of calls ≤ faults_of (call ∷ calls)
faults-more call calls =
    rw (count_more call calls) (more_or_same (is_failed call) (faults_of calls))

more_if : (b : Bool) (n : ℕ) → b ≡ true → n < (if b then n + 1 else n)
more_if true n e = omega arith
more_if false n e = absurd (cc (e))

faults-failed : (call : Call) (calls : List Call) → is_failed call ≡ true
    → faults_of calls < faults_of (call ∷ calls)
faults-failed call calls e =
    rw (count_more call calls) (more_if (is_failed call) (faults_of calls) e)

faults-append : (fresh calls : List Call) → faults_of calls ≤ faults_of (fresh ++ calls)
faults-append [] calls = omega arith
faults-append (call ∷ fresh) calls = let h = faults-append fresh calls in
    let more = faults-more call (fresh ++ calls) in omega (arith, h, more)

-- a call that failed, after a run of calls
pub shows_after : (P : Call → Type 0) (old mid new : Option Told) (Kind : Call → Type 0)
    → EachCall old mid P → MadeOne Kind mid new
    → ((call : Call) → Kind call → is_failed call ≡ true)
    → FaultShows old new
shows_after P old mid None Kind so_far made fails = tt
shows_after P old None (Some after) Kind so_far (call, is, made) fails = absurd (cc (made.1))
shows_after P old (Some mid) (Some after) Kind (before, fresh, was, at, all) (call, is, made)
    fails =
    let same : made.0 ≡ record before { calls = fresh ++ before.calls } = cc (made.1, at) in
    let whole : after ≡ record before { calls = call ∷ (fresh ++ before.calls) } =
    made.2 ∙ ap (λ t. then_call t call) same in
    let more = faults-append fresh before.calls in
    let failed = faults-failed call (fresh ++ before.calls) (fails call is) in
    let count : faults_of after.calls ≡ faults_of (call ∷ (fresh ++ before.calls)) =
    ap (λ (t : Told). faults_of t.calls) whole in
    (before, was, omega (arith, more, failed, count))

pub failed_read : (e : Failed) (call : Call) → IsReadCall (Err e) call → is_failed call ≡ true
failed_read e FailedRead is = refl
failed_read e Refused is = refl
failed_read e _ is = absurd is

pub failed_write : (e : Failed) (set : Set) (page : ℕ) (bytes : List ℕ) (call : Call)
    → IsWriteCall (Err e) set page bytes call → is_failed call ≡ true
failed_write e set page bytes (FailedWrite s p b reads) is = refl
failed_write e set page bytes Refused is = refl
failed_write e set page bytes _ is = absurd is

pub failed_sync : (e : Failed) (call : Call) → IsSyncCall (Err e) call → is_failed call ≡ true
failed_sync e FailedSync is = refl
failed_sync e Refused is = refl
failed_sync e _ is = absurd is

-- the same of a call whose answer is handed on
pub write_shows : (P : Call → Type 0) (old mid new : Option Told)
    (result : Result (Unit {0}) Failed) (set : Set) (page : ℕ) (bytes : List ℕ)
    → EachCall old mid P → MadeWrite result mid set page bytes new
    → OnErr result (FaultShows old new)
write_shows P old mid new (Ok x) set page bytes so_far made = tt
write_shows P old mid new (Err e) set page bytes so_far made = shows_after P old mid new
    (IsWriteCall (Err e) set page bytes) so_far made (failed_write e set page bytes)

pub read_shows : (P : Call → Type 0) (old mid new : Option Told) (result : Result (Unit {0}) Failed)
    → EachCall old mid P → MadeRead result mid new → OnErr result (FaultShows old new)
read_shows P old mid new (Ok x) so_far made = tt
read_shows P old mid new (Err e) so_far made =
    shows_after P old mid new (IsReadCall (Err e)) so_far made (failed_read e)

pub sync_shows : (P : Call → Type 0) (old mid new : Option Told) (result : Result (Unit {0}) Failed)
    → EachCall old mid P → MadeSync result mid new → OnErr result (FaultShows old new)
sync_shows P old mid new (Ok x) so_far made = tt
sync_shows P old mid new (Err e) so_far made =
    shows_after P old mid new (IsSyncCall (Err e)) so_far made (failed_sync e)

-- a sync and a read, however they end, keep what reads
pub sync_reads : (P : Image → Type 0) (mid new : Option Told) (result : Result (Unit {0}) Failed)
    → IfTold mid (λ t. P (read_of t.first t.calls)) → MadeSync result mid new
    → IfTold new (λ t. P (read_of t.first t.calls))
sync_reads P mid new result here (call, is, made) =
    told_after (λ t. P (read_of t.first t.calls)) (λ t. P (read_of t.first t.calls)) mid new call
    here made (λ t reads. keeps result call is t reads)
  where
    keeps : (r : Result (Unit {0}) Failed) (c : Call) → IsSyncCall r c → (t : Told)
        → P (read_of t.first t.calls) → P (read_of t.first (c ∷ t.calls))
    keeps (Ok x) Synced is t reads = reads
    keeps (Err e) FailedSync is t reads = reads
    keeps (Err e) Refused is t reads = reads
    keeps _ _ is t reads = absurd is

pub read_reads : (P : Image → Type 0) (mid new : Option Told) (result : Result (Unit {0}) Failed)
    → IfTold mid (λ t. P (read_of t.first t.calls)) → MadeRead result mid new
    → IfTold new (λ t. P (read_of t.first t.calls))
read_reads P mid new result here (call, is, made) =
    told_after (λ t. P (read_of t.first t.calls)) (λ t. P (read_of t.first t.calls)) mid new call
    here made (λ t reads. keeps result call is t reads)
  where
    keeps : (r : Result (Unit {0}) Failed) (c : Call) → IsReadCall r c → (t : Told)
        → P (read_of t.first t.calls) → P (read_of t.first (c ∷ t.calls))
    keeps (Ok x) Read is t reads = reads
    keeps (Err e) FailedRead is t reads = reads
    keeps (Err e) Refused is t reads = reads
    keeps _ _ is t reads = absurd is

-- a fact is a fact of any result
pub on_err : {T E : Type 0} (A : Type 0) (result : Result T E) → A → OnErr result A
on_err A (Ok x) a = tt
on_err A (Err e) a = a

-- what holds at an error holds where the answer was one
pub was_err : {T E : Type 0} (A : Type 0) (result : Result T E) (e : E) → result ≡ Err e
    → OnErr result A → A
was_err A result e is on = subst (λ r. OnErr r A) is on
