-- The pages of a copy over calls of its volume.
use Rattle.std.proofs.Common.{◌≡◌, ◌≢◌, ◌≤◌, ◌++◌, ℕ, Bool, true, false, if◌then◌else◌, List}
use Rattle.std.proofs.Common.{length, Option, Result, refl, sym, ◌∙◌, subst}
use Rattle.rg_base.specs.declared.set.Set.{Set}
use Rattle.rg_outside.specs.Calls.{Call, FailedRead, FailedSync, FailedWrite, Image, Read, Refused}
use Rattle.rg_outside.specs.Calls.{Synced, Told, Wrote, effect_of, is_same_page}
use Rattle.rg_outside.specs.Made.{MadeRead, MadeSync, MadeWrite, WritesIn}
use Rattle.rg_outside.specs.Moments.{EachCall, EachImage, put}
use Rattle.rg_outside.specs.declared.source.Failed.{Failed}
use Rattle.rg_outside.proofs.Frame.{calls_each}
use Rattle.rg_outside.proofs.Run.{at_last}
use Rattle.rg_outside.proofs.Every.{Turns, at_same, read_each, sync_each, told_weaken, write_each}
use Rattle.rg_record.specs.declared.record.Record.{Record}
use Rattle.rg_laws_crash.specs.PageVersions.ImageLaws.{LeavesPages}
use Rattle.rg_laws_crash.specs.PageVersions.OnImage.{HasPages}
use Rattle.rg_laws_crash.specs.PageVersions.Versions.{Epoch, IsOnVolume}
use Rattle.rg_laws_crash.proofs.PageVersionsLemmas.OnVolume.{stays_there}

module _ (set : Set) (capacity : ℕ) (e : Epoch) (rs : List Record) (forced : ℕ) where
  -- an image with a page in the place of another
  put_page : (page : ℕ) (bytes : List ℕ) → IsOnVolume e rs forced page bytes → (i : Image)
      → HasPages set capacity e rs forced i
      → HasPages set capacity e rs forced (put i set page bytes)
  put_page page bytes may i has = λ p one high. go p one high (is_same_page set page set p) refl
    where
      go : (p : ℕ) → 1 ≤ p → p ≤ capacity → (t : Bool) → is_same_page set page set p ≡ t
          → IsOnVolume e rs forced p (put i set page bytes set p)
      go p one high true same =
          subst (λ t. IsOnVolume e rs forced p (if t then bytes else i set p)) (sym same)
          (at_same set set page p (λ s q. IsOnVolume e rs forced q bytes) same may)
      go p one high false same =
          subst (λ t. IsOnVolume e rs forced p (if t then bytes else i set p)) (sym same)
          (has p one high)

  put_other_set : (other : Set) (page : ℕ) (bytes : List ℕ) → other ≢ set → (i : Image)
      → HasPages set capacity e rs forced i
      → HasPages set capacity e rs forced (put i other page bytes)
  put_other_set other page bytes differ i has =
      λ p one high. go p one high (is_same_page other page set p) refl
    where
      go : (p : ℕ) → 1 ≤ p → p ≤ capacity → (t : Bool) → is_same_page other page set p ≡ t
          → IsOnVolume e rs forced p (put i other page bytes set p)
      go p one high true same =
          absurd (differ (at_same other set page p (λ s q. other ≡ s) same refl))
      go p one high false same =
          subst (λ t. IsOnVolume e rs forced p (if t then bytes else i set p)) (sym same)
          (has p one high)

  pub write_keeps :
      (old new : Option Told) (result : Result (Unit {0}) Failed) (page : ℕ) (bytes : List ℕ)
      → LeavesPages set capacity e rs forced old → IsOnVolume e rs forced page bytes
      → MadeWrite result old set page bytes new → LeavesPages set capacity e rs forced new
  write_keeps old new result page bytes leaves may made =
      write_each (HasPages set capacity e rs forced) (HasPages set capacity e rs forced) old new
      result set page bytes leaves made (λ i has. has) (put_page page bytes may)

  pub other_keeps : (old new : Option Told) (result : Result (Unit {0}) Failed) (other : Set)
      (page : ℕ) (bytes : List ℕ) → other ≢ set → LeavesPages set capacity e rs forced old
      → MadeWrite result old other page bytes new → LeavesPages set capacity e rs forced new
  other_keeps old new result other page bytes differ leaves made =
      write_each (HasPages set capacity e rs forced) (HasPages set capacity e rs forced) old new
      result other page bytes leaves made (λ i has. has) (put_other_set other page bytes differ)

  pub sync_keeps : (old new : Option Told) (result : Result (Unit {0}) Failed)
      → LeavesPages set capacity e rs forced old → MadeSync result old new
      → LeavesPages set capacity e rs forced new
  sync_keeps old new result leaves made = sync_each (HasPages set capacity e rs forced)
      (HasPages set capacity e rs forced) old new result leaves made (λ i has. has)

  pub read_keeps : (old new : Option Told) (result : Result (Unit {0}) Failed)
      → LeavesPages set capacity e rs forced old → MadeRead result old new
      → LeavesPages set capacity e rs forced new
  read_keeps old new result leaves made = read_each (HasPages set capacity e rs forced)
      (HasPages set capacity e rs forced) old new result leaves made (λ i has. has)

  in_turns : (other : Set) → other ≢ set → (call : Call) → WritesIn other call
      → Turns (HasPages set capacity e rs forced) (HasPages set capacity e rs forced)
      (effect_of call)
  in_turns other differ (Wrote s p b) is =
      (λ i has. has, λ i has. put_other_set s p b (λ same. differ (sym is ∙ same)) i has)
  in_turns other differ (FailedWrite s p b reads) is =
      (λ i has. has, λ i has. put_other_set s p b (λ same. differ (sym is ∙ same)) i has)
  in_turns other differ Read is = λ i has. has
  in_turns other differ Synced is = λ i has. has
  in_turns other differ FailedRead is = λ i has. has
  in_turns other differ FailedSync is = λ i has. has
  in_turns other differ Refused is = λ i has. has

  pub calls_keep : (old new : Option Told) (other : Set) → other ≢ set
      → LeavesPages set capacity e rs forced old → EachCall old new (WritesIn other)
      → LeavesPages set capacity e rs forced new
  calls_keep old new other differ leaves made =
      at_last (EachImage (HasPages set capacity e rs forced)) old new
      (calls_each (HasPages set capacity e rs forced) (WritesIn other) old new
      (in_turns other differ) leaves made)

pub more_keeps : (set : Set) (capacity : ℕ) (e : Epoch) (rs more : List Record) (old new : ℕ)
    (told : Option Told) → old ≤ length rs → old ≤ new → LeavesPages set capacity e rs old told
    → LeavesPages set capacity e (rs ++ more) new told
more_keeps set capacity e rs more old new told high le leaves =
    told_weaken (EachImage (HasPages set capacity e rs old))
    (EachImage (HasPages set capacity e (rs ++ more) new)) told
    (λ t each i is p one last. stays_there e rs more p old new (i set p) high le
    (each i is p one last)) leaves
