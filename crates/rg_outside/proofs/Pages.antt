-- What a crash leaves of one page, at each moment of a run of calls.
use Rattle.std.proofs.Common.{◌≡◌, ℕ, true, List, Option, Result}
use Rattle.rg_base.specs.declared.set.Set.{Set}
use Rattle.rg_outside.specs.Calls.{Call, effect_of, Told, is_same_page}
use Rattle.rg_outside.specs.Made.{Made, MadeRead, MadeWrite, MadeSync}
use Rattle.rg_outside.specs.Moments.{HoldsThroughout, CrashLeaves}
use Rattle.rg_outside.specs.declared.source.Failed.{Failed}
use Rattle.rg_outside.proofs.Brings.{read_brings, write_brings, sync_brings, told_after}
use Rattle.rg_outside.proofs.Images.{Brings, leaves_call}
use Rattle.rg_outside.proofs.Run.{goes_on, at_last}

module _ (s : Set) (p : ℕ) (P : List ℕ → Type 0) where
  -- at each moment a crash leaves of the page what has P
  abbrev pub LeavesThroughout : Option Told → Option Told → Type 0
  LeavesThroughout old new = HoldsThroughout old new (CrashLeaves s p P)

  pub call_on : (old mid new : Option Told) (call : Call) → LeavesThroughout old mid
      → Made mid call new → Brings s p P (effect_of call) → LeavesThroughout old new
  call_on old mid new call so_far made brings =
      goes_on (CrashLeaves s p P) old mid new call so_far made
      (told_after (CrashLeaves s p P) (CrashLeaves s p P) mid new call
      (at_last (CrashLeaves s p P) old mid so_far) made
      (λ t each. leaves_call s p P t call each brings))

  -- a write, however it ends
  pub write_on : (old mid new : Option Told) (result : Result (Unit {0}) Failed) (set : Set)
      (page : ℕ) (bytes : List ℕ)
      → LeavesThroughout old mid → MadeWrite result mid set page bytes new
      → (is_same_page set page s p ≡ true → P bytes) → LeavesThroughout old new
  write_on old mid new result set page bytes so_far (call, is, made) here =
      call_on old mid new call so_far made (write_brings s p P result set page bytes call is here)

  -- a sync and a read, however they end
  pub sync_on : (old mid new : Option Told) (result : Result (Unit {0}) Failed)
      → LeavesThroughout old mid → MadeSync result mid new → LeavesThroughout old new
  sync_on old mid new result so_far (call, is, made) =
      call_on old mid new call so_far made (sync_brings s p P result call is)

  pub read_on : (old mid new : Option Told) (result : Result (Unit {0}) Failed)
      → LeavesThroughout old mid → MadeRead result mid new → LeavesThroughout old new
  read_on old mid new result so_far (call, is, made) =
      call_on old mid new call so_far made (read_brings s p P result call is)
