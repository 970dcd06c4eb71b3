-- What a call may bring, by its kind and its answer.
use Rattle.std.proofs.Common.{◌≡◌, ℕ, true, List, Option, Some, None, Result, Ok, Err, sym, ◌∙◌}
use Rattle.std.proofs.Common.{subst, ap}
use Rattle.rg_base.specs.declared.set.Set.{Set}
use Rattle.rg_outside.specs.Calls.{Call, Read, Wrote, Synced, FailedRead, FailedWrite, FailedSync}
use Rattle.rg_outside.specs.Calls.{Refused, effect_of, Told, is_same_page}
use Rattle.rg_outside.specs.Made.{then_call, Made, IsReadCall, IsWriteCall, IsSyncCall, WritesOnly}
use Rattle.rg_outside.specs.Moments.{IfTold}
use Rattle.rg_outside.specs.declared.source.Failed.{Failed}
use Rattle.rg_outside.proofs.Images.{Brings}

module _ (s : Set) (p : ℕ) (P : List ℕ → Type 0) where
  same_spot : (set set' : Set) (page page' : ℕ) (bytes b : List ℕ)
      → (set' ≡ set) × (page' ≡ page) × (b ≡ bytes) → (is_same_page set page s p ≡ true → P bytes)
      → is_same_page set' page' s p ≡ true → P b
  same_spot set set' page page' bytes b is here same =
      subst P (sym is.2) (here (rw (← is.0, ← is.1) same))

  -- a write brings its bytes alone, and to its page alone
  pub write_brings :
      (result : Result (Unit {0}) Failed) (set : Set) (page : ℕ) (bytes : List ℕ) (call : Call)
      → IsWriteCall result set page bytes call
      → (is_same_page set page s p ≡ true → P bytes) → Brings s p P (effect_of call)
  write_brings (Ok x) set page bytes (Wrote s' p' b) is here =
      same_spot set s' page p' bytes b is here
  write_brings (Err e) set page bytes (FailedWrite s' p' b reads) is here =
      same_spot set s' page p' bytes b is here
  write_brings (Err e) set page bytes Refused is here = tt
  write_brings _ set page bytes _ is here = absurd is

  pub only_brings : (set : Set) (page : ℕ) (bytes : List ℕ) (call : Call)
      → WritesOnly set page bytes call → (is_same_page set page s p ≡ true → P bytes)
      → Brings s p P (effect_of call)
  only_brings set page bytes (Wrote s' p' b) is here = same_spot set s' page p' bytes b is here
  only_brings set page bytes (FailedWrite s' p' b reads) is here =
      same_spot set s' page p' bytes b is here
  only_brings set page bytes Read is here = tt
  only_brings set page bytes Synced is here = tt
  only_brings set page bytes FailedRead is here = tt
  only_brings set page bytes FailedSync is here = tt
  only_brings set page bytes Refused is here = tt

  -- a sync and a read bring nothing
  pub sync_brings : (result : Result (Unit {0}) Failed) (call : Call) → IsSyncCall result call
      → Brings s p P (effect_of call)
  sync_brings (Ok x) Synced is = tt
  sync_brings (Err e) FailedSync is = tt
  sync_brings (Err e) Refused is = tt
  sync_brings _ _ is = absurd is

  pub read_brings : (result : Result (Unit {0}) Failed) (call : Call) → IsReadCall result call
      → Brings s p P (effect_of call)
  read_brings (Ok x) Read is = tt
  read_brings (Err e) FailedRead is = tt
  read_brings (Err e) Refused is = tt
  read_brings _ _ is = absurd is

-- a write that was made writes its page only
pub write_only :
    (result : Result (Unit {0}) Failed) (set : Set) (page : ℕ) (bytes : List ℕ) (call : Call)
    → IsWriteCall result set page bytes call → WritesOnly set page bytes call
write_only (Ok x) set page bytes (Wrote s p b) is = is
write_only (Err e) set page bytes (FailedWrite s p b reads) is = is
write_only (Err e) set page bytes Refused is = tt
write_only _ set page bytes _ is = absurd is

-- what holds after a call, by what held before it
pub told_after : (P Q : Told → Type 0) (mid new : Option Told) (call : Call) → IfTold mid P
    → Made mid call new → ((t : Told) → P t → Q (then_call t call)) → IfTold new Q
told_after P Q mid None call here made go = tt
told_after P Q None (Some after) call here made go = absurd (cc (made.1))
told_after P Q (Some mid) (Some after) call here made go =
    let same : made.0 ≡ mid = cc (made.1) in
    subst Q (sym (made.2 ∙ ap (λ t. then_call t call) same)) (go mid here)
